-- Stamps that a run isn't refused for, one after the other, with the end of the last one's term; and what passing its bars leaves. Assumes
-- nothing.
use Rattle.std.specs.Prelude.{Option, Some, None, is_some, Ok}
use Prim.Native.Nat.{ℕ, zero, suc, ◌+◌, ◌*◌, ◌/◌, ◌≤◌, ◌<◌}
use mathlib.Core.Path.{◌≡◌, refl, ap, sym, ◌∙◌}
use mathlib.Core.Logic.{⊎_elim}
use mathlib.Core.Bool.{Bool, true, false, cond, ◌&&◌}
use mathlib.Core.List.{List, [], ◌∷◌, ◌++◌}
use native.Mathlib.Omega.{arith}
use native.Mathlib.Numerals.{add-one}
use native.Mathlib.Nat.{eq-or-lt_of_le}
use lib.Dec.{ltb, eqb}
use lib.ListN.{length, get_or, take, drop, drop_of_length-le, length-append}
use lib.Seq.{drop-cons}
use lib.Ieee.{Float}
use borrow.Author.Tests.{ltb-true, le-ltb, eq-eqb, eqb-true, eqb-false}
use Rattle.measures.specs.Bar.{Bar, no_bar, overlay, prices_of}
use Rattle.measures.proofs.Overlay.{overlay-none, overlay-more, length-overlay}
use Rattle.measures.proofs.PriceLaws.{length-prices, prices-append, put-room}
use Rattle.recognisers.specs.Refusal.{first_true}
use Rattle.trading_hours.specs.declared.hours.Hours.{Hours}
use Rattle.trading_hours.specs.Hours.{in_hours}
use Rattle.trading_hours.specs.TermRule.{end_of}
use Rattle.trading_hours.proofs.HourLaws.{both, term-some}
use Rattle.trading_hours.proofs.EndLaws.{end-rule}
use Rattle.term_events.specs.declared.events.{Carried.Carried, Passed.Passed, Step.Step}
use Rattle.term_events.specs.Events.{Event, Minute, in_term_of, minute_step, step_by, open_bars, ended_of, carried_of, minutes_of}
use Rattle.term_events.specs.Verdicts.{above, sound_carried, valid_layer, stamps_tried}
use Rattle.term_events.specs.EventSteps.{end_after, next_end, inside_by, EndKnown, put_ended, passed_with, pass_of, Ready}
use Rattle.term_events.proofs.StampLaws.{first-passed, sound-closed}
use Rattle.term_events.proofs.VerdictLaws.{layer-meets}

-- ---- a stamp above the last one

module _ (h : Hours) (m end s : ℕ) where
  -- before the end of the last one's term it lies in the hours, and its own term ends there too
  pub end-inside : (last : Option ℕ) → EndKnown h m last end → above last s ≡ true → s < end → (in_hours h s ≡ true) × (end_of h m s ≡ end)
  unfolding above end_after sound_carried
  end-inside None k up lt = let none = k.end_is in absurd (let z : ⊥ = omega arith in z)
  end-inside (Some a) k up lt =
      let e = k.end_is in
      let rule = end-rule h m k.some k.valid in
      let later = ltb-true a s up in
      let there = rule.before-end a s k.sound (omega arith) (rw e at lt) in
      (there.0, rule.same_end s a there.1 ∙ sym e)

  -- it goes on in that term exactly if it lies before the end
  pub end-in-term : (last : Option ℕ) → EndKnown h m last end → above last s ≡ true → in_hours h s ≡ true → in_term_of h m last s ≡ ltb s end
  unfolding above end_after sound_carried in_term_of
  end-in-term None k up there = rw k.end_is (sym (le-ltb s 0 (omega arith)))
  end-in-term (Some a) k up there =
      let rule = end-rule h m k.some k.valid in
      let later = ltb-true a s up in
      rule.same-before a s k.sound there (omega arith) ∙ rw k.end_is

  -- and is then the last one itself
  pub end-next : (last : Option ℕ) → EndKnown h m last end → in_hours h s ≡ true → EndKnown h m (Some s) (end_of h m s)
  unfolding end_after sound_carried
  end-next last k there = record { some = k.some; valid = k.valid; sound = there; end_is = refl }

  -- the code's tests, by the end
  pub next-end-is : (last : Option ℕ) → EndKnown h m last end → above last s ≡ true → next_end h m end s ≡ end_of h m s
  next-end-is last k up = go (ltb s end) refl
    where
      go : (b : Bool) → ltb s end ≡ b → cond b end (end_of h m s) ≡ end_of h m s
      go true e = sym (end-inside last k up (ltb-true s end e)).1
      go false e = refl

  pub inside_is : (last : Option ℕ) → EndKnown h m last end → above last s ≡ true → inside_by h end s ≡ in_hours h s
  inside_is last k up = go (ltb s end) refl
    where
      go : (b : Bool) → ltb s end ≡ b → cond b true (in_hours h s) ≡ in_hours h s
      go true e = sym (end-inside last k up (ltb-true s end e)).0
      go false e = refl

-- a layer that keeps the rules
pub layer-end : (h : Hours) (m : ℕ) (c : Carried) → valid_layer h m c ≡ true → EndKnown h m c.last (end_after h m c.last)
layer-end h m c e =
    let met = layer-meets h m c e in
    record { some = term-some m met.minutes; valid = met.hours; sound = sound-closed h c.last c.pending met.carried; end_is = refl }

-- ---- the stamps of a run

minutes-none : (ss : List ℕ) → minutes_of ss [] ≡ []
unfolding minutes_of
minutes-none [] = refl
minutes-none (s ∷ ss) = refl

-- the events from one on
pub minutes-drop : (k : ℕ) (ss : List ℕ) (bars : List Bar) → drop k (minutes_of ss bars) ≡ minutes_of (drop k ss) (drop k bars)
unfolding minutes_of
minutes-drop zero ss bars = refl
minutes-drop (suc k) [] bars = refl
minutes-drop (suc k) (s ∷ ss) [] = sym (minutes-none (drop k ss))
minutes-drop (suc k) (s ∷ ss) (b ∷ bars) = minutes-drop k ss bars

-- after some of them the rest is ready
pub ready-after : (h : Hours) (m : ℕ) (c : Carried) (ss : List ℕ) (bars : List Bar) (k : ℕ) → length ss ≡ length bars → Ready h m c ss
    → Ready h m (carried_of h m c (take k (minutes_of ss bars))) (drop k ss)
unfolding minutes_of carried_of minute_step sound_carried
ready-after h m c ss bars zero each r = r
ready-after h m c [] bars (suc k) each r = r
ready-after h m c (s ∷ ss) [] (suc k) each r = absurd (let z : ⊥ = omega arith in z)
ready-after h m c (s ∷ ss) (b ∷ bars) (suc k) each r =
    let first = first-passed h c.last s ss r.rising in
    ready-after h m (minute_step h m c s b).carried ss bars k (omega arith) record { some = r.some; valid = r.valid; sound = first.1; rising = first.2 }

-- ---- passing the bars of a run

-- what it leaves from the k-th bar on, where events are left and count term bars stand on a run: some first events are passed, whose term bars
-- stand on the run behind those
pub record PassedBy (h : Hours) (m : ℕ) (c : Carried) (es : List Event) (k count : ℕ) (run : List Float) (r : Passed × List Float) : Type 0 where
  pub passed : ℕ
  pub at : r.0.at ≡ k + passed
  pub within : passed ≤ length es
  pub some : 1 ≤ length es → count < length run / 4 → 1 ≤ passed
  pub few : r.0.count ≤ length run / 4
  pub ended : r.0.count ≡ count + length (ended_of h m c (take passed es))
  pub prices : r.1 ≡ overlay run (4 * count) (prices_of (ended_of h m c (take passed es)))
  pub carried : r.0.carried ≡ carried_of h m c (take passed es)

put_is : (run : List Float) (place : ℕ) (p : Option Bar) → place + length (open_bars p) ≤ length run / 4 → put_ended run place p ≡ overlay run (4 * place) (prices_of (open_bars p))
unfolding prices_of
put_is run place None room = sym (overlay-none run (4 * place))
put_is run place (Some b) room = put-room run place b (omega arith)

drop-next : {A : Type 0} (xs : List A) (k : ℕ) (d : A) → k < length xs → drop k xs ≡ get_or xs k d ∷ drop (k + 1) xs
drop-next xs k d within = rw (add-one k) (drop-cons xs k d within)

by-test : {A : Type 0} (P : A → Type 0) (test : Bool) {x y : A} → (test ≡ true → P x) → (test ≡ false → P y) → P (cond test x y)
by-test P true on off = on refl
by-test P false on off = off refl

-- where passing goes on there is room for what ended
room_for : (count room : ℕ) (p : Option Bar) → (is_some p && eqb count room) ≡ false → count ≤ room → count + length (open_bars p) ≤ room
room_for count room None e le = omega arith
room_for count room (Some b) e le = ⊎_elim (λ (same : count ≡ room). absurd (eqb-false count room e same)) (λ (less : count < room). (let z : count + 1 ≤ room = omega arith in z)) (eq-or-lt_of_le le)

module _ (h : Hours) (m : ℕ) (bars : List Bar) where
  module _ (c : Carried) (k count : ℕ) (run : List Float) (s : ℕ) (ss : List ℕ) (ready : Ready h m c (s ∷ ss)) (le : count ≤ length run / 4) where
    abbrev bar : Bar
    bar = get_or bars k no_bar

    abbrev end : ℕ
    end = end_after h m c.last

    abbrev step : Step
    step = step_by (ltb s end) c s bar

    abbrev later : List Event
    later = minutes_of ss (drop (k + 1) bars)

    -- the stamp is above the last one, lies in the hours, and no refusal stops those after it
    first : (above c.last s ≡ true) × (in_hours h s ≡ true) × (first_true (stamps_tried h (Some s) ss) ≡ Ok tt)
    first = first-passed h c.last s ss ready.rising

    known : EndKnown h m c.last end
    known = record { some = ready.some; valid = ready.valid; sound = sound-closed h c.last c.pending ready.sound; end_is = refl }

    made : minute_step h m c s bar ≡ step
    unfolding minute_step
    made = rw (end-in-term h m end s c.last known first.0 first.1)

    next-ready : Ready h m step.carried ss
    unfolding sound_carried
    next-ready = record { some = ready.some; valid = ready.valid; sound = first.1; rising = first.2 }

    next_known : next_end h m end s ≡ end_after h m step.carried.last
    unfolding end_after
    next_known = next-end-is h m end s c.last known first.0

    -- no room for the bar that the next one ends
    stops : (is_some step.ended && eqb count (length run / 4)) ≡ true → PassedBy h m c (Minute s bar ∷ later) k count run (passed_with k count c, run)
    unfolding ended_of carried_of prices_of
    stops e =
        let full : count ≡ length run / 4 = eqb-true count (length run / 4) (both (is_some step.ended) (eqb count (length run / 4)) e).1 in
        record {
          passed = 0;
          at = omega arith;
          within = omega arith;
          some = λ more room. absurd (let z : ⊥ = omega arith in z);
          few = le;
          ended = omega arith;
          prices = sym (overlay-none run (4 * count));
          carried = refl;
        }

    abbrev ended : List Bar
    ended = open_bars step.ended

    room_after : (is_some step.ended && eqb count (length run / 4)) ≡ false → count + length ended ≤ length (put_ended run count step.ended) / 4
    room_after e =
        let fits = room_for count (length run / 4) step.ended e le in
        let four = length-prices ended in
        rw (put_is run count step.ended fits, length-overlay run (4 * count) (prices_of ended) (omega arith)) fits

    -- the next one is passed
    goes_on : (is_some step.ended && eqb count (length run / 4)) ≡ false → (r : Passed × List Float)
        → PassedBy h m step.carried later (k + 1) (count + length ended) (put_ended run count step.ended) r
        → PassedBy h m c (Minute s bar ∷ later) k count run r
    unfolding ended_of carried_of
    goes_on e r rest =
        let p = rest.passed in
        let new = ended_of h m step.carried (take p later) in
        let fits = room_for count (length run / 4) step.ended e le in
        let put = put_is run count step.ended fits in
        let old-prices = length-prices ended in
        let new-prices = length-prices new in
        let size : length (put_ended run count step.ended) ≡ length run = ap length put ∙ length-overlay run (4 * count) (prices_of ended) (omega arith) in
        let both-ended : ended_of h m c (Minute s bar ∷ take p later) ≡ ended ++ new = ap (λ (x : Step). open_bars x.ended ++ ended_of h m x.carried (take p later)) made in
        let few : r.0.count ≤ length run / 4 = rw (← size) rest.few in
        let sum = rest.ended in
        record {
          passed = suc p;
          at = omega (arith, rest.at);
          within = omega (arith, rest.within);
          some = λ more room. omega arith;
          few = few;
          ended = rw (both-ended, length-append) (omega arith);
          prices = rest.prices ∙ rw (put, both-ended, prices-append ended new) (overlay-more run (4 * count) (prices_of ended) (prices_of new) (4 * (count + length ended)) (omega arith) (omega arith));
          carried = rest.carried ∙ ap (λ (x : Step). carried_of h m x.carried (take p later)) (sym made);
        }

    -- the next one is passed, or not
    first-passed-by : k + length (s ∷ ss) ≡ length bars
        → (((is_some step.ended && eqb count (length run / 4)) ≡ false) → PassedBy h m step.carried later (k + 1) (count + length ended) (put_ended run count step.ended) (pass_of h m bars step.carried (end_after h m step.carried.last) (k + 1) (count + length ended) (put_ended run count step.ended) ss))
        → PassedBy h m c (minutes_of (s ∷ ss) (drop k bars)) k count run (pass_of h m bars c end k count run (s ∷ ss))
    unfolding pass_of minutes_of
    first-passed-by each rest = rw (drop-next bars k no_bar (omega arith)) (by-test (PassedBy h m c (Minute s bar ∷ later) k count run) _ stops (λ e. goes_on e _ (rw next_known (rest e))))

  none-passed-by : (c : Carried) (k count : ℕ) (run : List Float) → count ≤ length run / 4
      → PassedBy h m c (minutes_of [] (drop k bars)) k count run (pass_of h m bars c (end_after h m c.last) k count run [])
  unfolding pass_of minutes_of ended_of carried_of prices_of
  none-passed-by c k count run le =
      record { passed = 0; at = omega arith; within = omega arith; some = λ more room. absurd (let z : ⊥ = omega arith in z); few = le; ended = omega arith; prices = sym (overlay-none run (4 * count)); carried = refl }

  pub passed-by : (c : Carried) (k count : ℕ) (run : List Float) (ss : List ℕ) → Ready h m c ss → k + length ss ≡ length bars → count ≤ length run / 4
      → PassedBy h m c (minutes_of ss (drop k bars)) k count run (pass_of h m bars c (end_after h m c.last) k count run ss)
  passed-by c k count run [] ready each le = none-passed-by c k count run le
  passed-by c k count run (s ∷ ss) ready each le =
      first-passed-by c k count run s ss ready le each
      (λ e. passed-by (step c k count run s ss ready le).carried (k + 1) (count + length (ended c k count run s ss ready le)) (put_ended run count (step c k count run s ss ready le).ended) ss
      (next-ready c k count run s ss ready le) (omega arith) (room_after c k count run s ss ready le e))

-- ---- the code's loop: one turn, and its end

module _ (h : Hours) (m : ℕ) (bars : List Bar) (c : Carried) (end k count : ℕ) (run : List Float) (ss : List ℕ) where
  module _ (step : Step) (is : step ≡ step_by (ltb (get_or ss k 0) end) c (get_or ss k 0) (get_or bars k no_bar)) (within : k < length ss) where
    by_step : pass_of h m bars c end k count run (drop k ss)
        ≡ cond (is_some step.ended && eqb count (length run / 4)) (passed_with k count c, run)
        (pass_of h m bars step.carried (next_end h m end (get_or ss k 0)) (k + 1) (count + length (open_bars step.ended)) (put_ended run count step.ended) (drop (k + 1) ss))
    unfolding pass_of
    by_step = rw (drop-next ss k 0 within, is)

    pub pass-stops : is_some step.ended ≡ true → count ≡ length run / 4 → pass_of h m bars c end k count run (drop k ss) ≡ (passed_with k count c, run)
    pass-stops some full = by_step ∙ rw (some, eq-eqb count (length run / 4) full)

    pub pass-next : (is_some step.ended && eqb count (length run / 4)) ≡ false → pass_of h m bars c end k count run (drop k ss)
        ≡ pass_of h m bars step.carried (next_end h m end (get_or ss k 0)) (k + 1) (count + length (open_bars step.ended)) (put_ended run count step.ended) (drop (k + 1) ss)
    pass-next on = by_step ∙ rw on

  pub pass-past : length ss ≤ k → pass_of h m bars c end k count run (drop k ss) ≡ (passed_with k count c, run)
  unfolding pass_of
  pass-past past = rw (drop_of_length-le ss past)
