-- Stamps, one by one and of a list of events: what those that no refusal stops are, and what they leave carried. Assumes nothing.
use Rattle.std.specs.Prelude.{Option, Some, None, Err, Ok}
use Prim.Native.Nat.{ℕ, zero, suc, ◌+◌, ◌≤◌, ◌<◌}
use mathlib.Core.Path.{◌≡◌, refl, ◌∙◌}
use mathlib.Core.Bool.{true, false}
use mathlib.Core.List.{List, [], ◌∷◌, ◌++◌}
use native.Mathlib.Omega.{arith}
use native.Mathlib.Numerals.{add-one}
use borrow.Author.Tests.{not-false, lt-ltb, ltb-true}
use lib.ListN.{length, get_or, drop, drop_of_length-le}
use lib.Seq.{drop-cons}
use Rattle.measures.specs.Bar.{Bar}
use Rattle.answers.specs.declared.refusals.Refusal.TheVariants.{LateStamp, OutsideHours}
use Rattle.recognisers.specs.Refusal.{first_true}
use Rattle.answers.proofs.VerdictLaws.{none_true}
use Rattle.trading_hours.specs.declared.hours.Hours.{Hours}
use Rattle.trading_hours.specs.Hours.{in_hours}
use Rattle.term_events.specs.declared.events.Carried.{Carried}
use Rattle.term_events.specs.Events.{Event, Minute, Close, carried_at, carried_of, minute_step, stamp_after, stamps_in, minutes_of}
use Rattle.term_events.specs.Verdicts.{above, stamps_tried, sound_carried}

module _ (h : Hours) where
  -- ---- the first one

  pub next-tried : (last : Option ℕ) (s : ℕ) (ss : List ℕ) → above last s ≡ true → in_hours h s ≡ true → first_true (stamps_tried h last (s ∷ ss)) ≡ first_true (stamps_tried h (Some s) ss)
  unfolding first_true stamps_tried
  next-tried last s ss e f = simp (e, f)

  pub first-passed : (last : Option ℕ) (s : ℕ) (ss : List ℕ) → first_true (stamps_tried h last (s ∷ ss)) ≡ Ok tt
      → (above last s ≡ true) × (in_hours h s ≡ true) × (first_true (stamps_tried h (Some s) ss) ≡ Ok tt)
  unfolding stamps_tried
  first-passed last s ss e =
      let ten = none_true _ _ e in
      let eleven = none_true _ _ ten.1 in
      (not-false _ ten.0, not-false _ eleven.0, eleven.1)

  -- ---- those from one on

  module _ (last : Option ℕ) (ss : List ℕ) (i : ℕ) (within : i < length ss) where
    pub stamps-late : above last (get_or ss i 0) ≡ false → first_true (stamps_tried h last (drop i ss)) ≡ Err LateStamp
    unfolding first_true stamps_tried
    stamps-late e = rw (drop-cons ss i 0 within) (simp e)

    pub stamps-outside : above last (get_or ss i 0) ≡ true → in_hours h (get_or ss i 0) ≡ false → first_true (stamps_tried h last (drop i ss)) ≡ Err OutsideHours
    unfolding first_true stamps_tried
    stamps-outside e f = rw (drop-cons ss i 0 within) (simp (e, f))

    pub stamps-next : above last (get_or ss i 0) ≡ true → in_hours h (get_or ss i 0) ≡ true
        → first_true (stamps_tried h last (drop i ss)) ≡ first_true (stamps_tried h (Some (get_or ss i 0)) (drop (i + 1) ss))
    stamps-next e f = rw (add-one i, drop-cons ss i 0 within) (next-tried last (get_or ss i 0) (drop (suc i) ss) e f)

  pub stamps-past : (last : Option ℕ) (ss : List ℕ) (i : ℕ) → length ss ≤ i → first_true (stamps_tried h last (drop i ss)) ≡ Ok tt
  unfolding first_true stamps_tried
  stamps-past last ss i past = rw (drop_of_length-le ss past)

  -- ---- any of those that no refusal stops

  above-later : (last : Option ℕ) (a b : ℕ) → above last a ≡ true → above (Some a) b ≡ true → above last b ≡ true
  unfolding above
  above-later None a b up next = refl
  above-later (Some s) a b up next = lt-ltb s b (omega (arith, ltb-true s a up, ltb-true a b next))

  pub stamps-at : (last : Option ℕ) (ss : List ℕ) (i : ℕ) → i < length ss → first_true (stamps_tried h last ss) ≡ Ok tt → (above last (get_or ss i 0) ≡ true) × (in_hours h (get_or ss i 0) ≡ true)
  stamps-at last [] i within e = absurd (let z : ⊥ = omega arith in z)
  stamps-at last (s ∷ ss) zero within e = let first = first-passed last s ss e in (first.0, first.1)
  stamps-at last (s ∷ ss) (suc i) within e =
      let first = first-passed last s ss e in
      let next = stamps-at (Some s) ss i (omega arith) first.2 in
      (above-later last s (get_or ss i 0) first.0 next.0, next.1)

  pub stamps-rise : (last : Option ℕ) (ss : List ℕ) (i j : ℕ) → i < j → j < length ss → first_true (stamps_tried h last ss) ≡ Ok tt → get_or ss i 0 < get_or ss j 0
  unfolding above
  stamps-rise last [] i j less within e = absurd (let z : ⊥ = omega arith in z)
  stamps-rise last (s ∷ ss) i zero less within e = absurd (let z : ⊥ = omega arith in z)
  stamps-rise last (s ∷ ss) zero (suc j) less within e = ltb-true s (get_or ss j 0) (stamps-at (Some s) ss j (omega arith) (first-passed last s ss e).2).0
  stamps-rise last (s ∷ ss) (suc i) (suc j) less within e = stamps-rise (Some s) ss i j (omega arith) (omega arith) (first-passed last s ss e).2

  -- ---- the stamps of events

  pub stamps-append : (last : Option ℕ) (es new : List Event) → first_true (stamps_tried h last (stamps_in es)) ≡ Ok tt
      → first_true (stamps_tried h (stamp_after last es) (stamps_in new)) ≡ Ok tt → first_true (stamps_tried h last (stamps_in (es ++ new))) ≡ Ok tt
  unfolding stamps_in stamp_after
  stamps-append last [] new p q = q
  stamps-append last (Minute s b ∷ es) new p q =
      let first = first-passed last s (stamps_in es) p in
      next-tried last s (stamps_in (es ++ new)) first.0 first.1 ∙ stamps-append (Some s) es new first.2 q
  stamps-append last (Close ∷ es) new p q = stamps-append last es new p q

  -- ---- what is carried after them keeps the rules

  -- with nothing open
  pub sound-closed : (last : Option ℕ) (p : Option Bar) → sound_carried h last p ≡ true → sound_carried h last None ≡ true
  unfolding sound_carried
  sound-closed None p k = refl
  sound-closed (Some s) p k = k

  pub events-sound : (m : ℕ) (c : Carried) (es : List Event) → first_true (stamps_tried h c.last (stamps_in es)) ≡ Ok tt
      → sound_carried h c.last c.pending ≡ true → let d = carried_of h m c es in sound_carried h d.last d.pending ≡ true
  unfolding carried_of stamps_in minute_step sound_carried
  events-sound m c [] e k = k
  events-sound m c (Minute s b ∷ es) e k =
      let first = first-passed c.last s (stamps_in es) e in
      events-sound m (carried_at h m c (Minute s b)) es first.2 first.1
  events-sound m c (Close ∷ es) e k = events-sound m (carried_at h m c Close) es e (sound-closed c.last c.pending k)

pub minutes-stamps : (ss : List ℕ) (bars : List Bar) → length ss ≡ length bars → stamps_in (minutes_of ss bars) ≡ ss
unfolding minutes_of stamps_in
minutes-stamps [] bars e = refl
minutes-stamps (s ∷ ss) [] e = absurd (let z : ⊥ = omega arith in z)
minutes-stamps (s ∷ ss) (b ∷ bars) e = rw (minutes-stamps ss bars (omega arith))
