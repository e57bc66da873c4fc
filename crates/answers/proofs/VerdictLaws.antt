-- What a call that is accepted meets. Assumes nothing.
use Rattle.std.specs.Prelude.{Err, Ok}
use Prim.Native.Nat.{ℕ, ◌+◌, ◌*◌, ◌/◌, ◌%◌, ◌≤◌}
use mathlib.Core.Path.{◌≡◌, refl}
use mathlib.Core.Bool.{Bool, true, false, cond}
use mathlib.Core.List.{List, ◌∷◌}
use borrow.Author.Tests.{not-false, eqb-true, ltb-false, eq-eqb, le-ltb}
use Rattle.thresholds.specs.declared.Thresholds.{Thresholds}
use Rattle.thresholds.specs.Threshold.{valid_of}
use Rattle.rule_types.specs.Number.{row_bytes, most_bars}
use Rattle.answers.specs.Refusal.{Tried, first_true, feed_tried, feed_verdict}

-- none of refusals 3 to 6 is true
pub record Fits (t : Thresholds) (n prices sheet : ℕ) : Type 0 where
  pub valid : valid_of t ≡ true
  pub whole : prices % 4 ≡ 0
  pub few : n + prices / 4 ≤ most_bars
  pub room : row_bytes * (prices / 4) ≤ sheet

-- where no refusal is true, the first is not and none of the others is
pub none_true : (x : Tried) (xs : List Tried) → first_true (x ∷ xs) ≡ Ok tt → (x.met ≡ false) × (first_true xs ≡ Ok tt)
unfolding first_true
none_true x xs = go x.met refl
  where
    go : (m : Bool) → x.met ≡ m → cond m (Err x.why) (first_true xs) ≡ Ok tt → (x.met ≡ false) × (first_true xs ≡ Ok tt)
    go true e none = (cc, cc)
    go false e none = (e, none)

-- an accepted feed meets them
pub fits : (t : Thresholds) (n prices sheet : ℕ) → feed_verdict t n prices sheet ≡ Ok tt → Fits t n prices sheet
unfolding feed_verdict feed_tried
fits t n prices sheet none =
    let three = none_true _ _ none in
    let four = none_true _ _ three.1 in
    let five = none_true _ _ four.1 in
    let six = none_true _ _ five.1 in
    record { valid = not-false _ three.0; whole = eqb-true _ _ (not-false _ four.0); few = ltb-false _ _ five.0; room = ltb-false _ _ six.0 }

-- and one that meets them is accepted
pub accepts : (t : Thresholds) (n prices sheet : ℕ) → Fits t n prices sheet → feed_verdict t n prices sheet ≡ Ok tt
unfolding feed_verdict feed_tried first_true
accepts t n prices sheet f = simp (f.valid, eq-eqb (prices % 4) 0 f.whole, le-ltb most_bars (n + prices / 4) f.few, le-ltb sheet (row_bytes * (prices / 4)) f.room)
