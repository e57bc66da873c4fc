-- What the loops over the bars of a run go through: no part of what the layer promises.
use Rattle.std.specs.Prelude.{Option, Some, None, is_some, Ok}
use Rattle.std.specs.Prelude.{ℕ, ◌+◌, ◌/◌, ◌≤◌, ◌≡◌, Bool, true, cond, ◌&&◌, List, [], ◌∷◌, ltb, eqb, length, get_or, Float}
use Rattle.recognisers.specs.Refusal.{first_true}
use Rattle.measures.specs.Bar.{Bar, no_bar, put_bar}
use Rattle.trading_hours.specs.declared.hours.Hours.{Hours}
use Rattle.trading_hours.specs.Hours.{valid_hours, in_hours}
use Rattle.trading_hours.specs.TermRule.{end_of}
use Rattle.term_events.specs.declared.events.{Carried.Carried, Passed.Passed}
use Rattle.term_events.specs.Events.{step_by, open_bars}
use Rattle.term_events.specs.Verdicts.{sound_carried, stamps_tried}

-- ---- the end of the last stamp's term, which is found once a term

-- 0 if there is no stamp
unfoldable pub end_after : Hours → ℕ → Option ℕ → ℕ
end_after h m None = 0
end_after h m (Some stamp) = end_of h m stamp

-- the end of the next stamp's term, and whether it lies in the hours, by that end
abbrev pub next_end : Hours → ℕ → ℕ → ℕ → ℕ
next_end h m end stamp = cond (ltb stamp end) end (end_of h m stamp)

abbrev pub inside_by : Hours → ℕ → ℕ → Bool
inside_by h end stamp = cond (ltb stamp end) true (in_hours h stamp)

-- what a loop over stamps knows of the last one
pub record EndKnown (h : Hours) (m : ℕ) (last : Option ℕ) (end : ℕ) : Type 0 where
  pub some : 1 ≤ m
  pub valid : valid_hours h ≡ true
  pub sound : sound_carried h last None ≡ true
  pub end_is : end ≡ end_after h m last

-- ---- passing bars

-- the prices of an ended bar in a run, if there is room
abbrev pub put_ended : List Float → ℕ → Option Bar → List Float
put_ended run place None = run
put_ended run place (Some b) = put_bar run place b

abbrev pub passed_with : ℕ → ℕ → Carried → Passed
passed_with k count c = record { at = k; count = count; carried = c }

-- from the k-th bar on, whose stamp is the first of those left: until none is left, or the next one ends a term bar for which the run has no room
-- behind the count that stand there
unfoldable pub pass_of : Hours → ℕ → List Bar → Carried → ℕ → ℕ → ℕ → List Float → List ℕ → Passed × List Float
pass_of h m bars c end k count run [] = (passed_with k count c, run)
pass_of h m bars c end k count run (s ∷ ss) =
    let step = step_by (ltb s end) c s (get_or bars k no_bar) in
    cond (is_some step.ended && eqb count (length run / 4)) (passed_with k count c, run)
    (pass_of h m bars step.carried (next_end h m end s) (k + 1) (count + length (open_bars step.ended)) (put_ended run count step.ended) ss)

-- what a run that is not refused knows of the layer and of the stamps that come to it
pub record Ready (h : Hours) (m : ℕ) (c : Carried) (stamps : List ℕ) : Type 0 where
  pub some : 1 ≤ m
  pub valid : valid_hours h ≡ true
  pub sound : sound_carried h c.last c.pending ≡ true
  pub rising : first_true (stamps_tried h c.last stamps) ≡ Ok tt
