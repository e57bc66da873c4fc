-- 02, P6: why a making, a run or a close is refused.
use Rattle.answers.specs.Refusal.{Verdict}
use Rattle.std.specs.Prelude.{Option, Some, None, ℕ, ◌/◌, Bool, true, false, ◌&&◌, List, [], ◌∷◌, ◌++◌, ltb, eqb, length}
use Rattle.measures.specs.Bar.{Bar}
use Rattle.recognisers.specs.Threshold.{Thresholds}
use Rattle.answers.specs.declared.refusals.Refusal.TheVariants.{BadThreshold, BrokenBars}
use Rattle.recognisers.specs.Refusal.{Tried, bad_threshold, broken_bars, late_stamp, outside_hours, bad_layer, first_true, next_after, feed_tried}
use Rattle.trading_hours.specs.declared.hours.Hours.{Hours}
use Rattle.trading_hours.specs.Hours.{valid_hours, in_hours, term_length}
use Rattle.term_events.specs.declared.events.{Carried.Carried}
use Rattle.term_events.specs.Events.{nothing_yet}

-- a kept stamp lies in the hours; an open term bar has a stamp
unfoldable pub sound_carried : Hours → Option ℕ → Option Bar → Bool
sound_carried h None None = true
sound_carried h None (Some b) = false
sound_carried h (Some s) pending = in_hours h s

-- "hours, a term length or a kept stamp that break these rules, or an open term bar without a stamp" are 12's
unfoldable pub valid_layer : Hours → ℕ → Carried → Bool
valid_layer h m c = valid_hours h && term_length m && sound_carried h c.last c.pending

-- a stamp is above the one before it, in this call or an earlier one
unfoldable pub above : Option ℕ → ℕ → Bool
above None stamp = true
above (Some last) stamp = ltb last stamp

-- "bar by bar": 10, "next for the same bar" 11
unfoldable pub stamps_tried : Hours → Option ℕ → List ℕ → List Tried
stamps_tried h last [] = []
stamps_tried h last (s ∷ ss) = late_stamp (above last s) ∷ outside_hours (in_hours h s) ∷ stamps_tried h (Some s) ss

-- making tries 3 and 12
unfoldable pub make_verdict : Thresholds → Hours → ℕ → Verdict
make_verdict t h m = first_true (bad_threshold t ∷ bad_layer (valid_layer h m nothing_yet) ∷ [])

-- "A run is checked as a feed of that many bars .., with 4 also for another number of stamps than bars", 12 "next after 3", and 10 and 11 "after 6".
-- valid says that the layer keeps the rules, last is the last stamp, n the box's count, prices and sheet how many there are
unfoldable pub run_tried : Thresholds → Bool → Hours → Option ℕ → ℕ → ℕ → List ℕ → ℕ → Verdict
run_tried t valid h last n prices stamps sheet =
    let another = broken_bars (eqb (length stamps) (prices / 4)) in
    first_true (next_after BadThreshold (bad_layer valid ∷ []) (next_after BrokenBars (another ∷ []) (feed_tried t n prices sheet)) ++ stamps_tried h last stamps)

-- ".. and a close as a feed of one", open bar or not
unfoldable pub close_tried : Thresholds → Bool → ℕ → ℕ → Verdict
close_tried t valid n sheet = first_true (next_after BadThreshold (bad_layer valid ∷ []) (feed_tried t n 4 sheet))

-- as a layer that is handed in has it
abbrev pub run_verdict : Thresholds → Hours → ℕ → Carried → ℕ → ℕ → List ℕ → ℕ → Verdict
run_verdict t h m c n prices stamps sheet = run_tried t (valid_layer h m c) h c.last n prices stamps sheet

abbrev pub close_verdict : Thresholds → Hours → ℕ → Carried → ℕ → ℕ → Verdict
close_verdict t h m c n sheet = close_tried t (valid_layer h m c) n sheet
