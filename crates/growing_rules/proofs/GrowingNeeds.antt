-- What every match of 4 and of 17 needs: the newest close lies beyond the middle. A middle that it does not lie beyond grows to no other.
-- Assumes nothing.
use Prim.Native.Nat.{ℕ, zero, suc, ◌+◌, ◌-◌, ◌≤◌, min}
use mathlib.Core.Path.{◌≡◌, refl, sym, ◌∙◌}
use mathlib.Core.Bool.{Bool, true, false, ◌&&◌}
use mathlib.Core.List.{List}
use native.Mathlib.Omega.{arith}
use native.Mathlib.Decide.{dec_le, dec_lt}
use borrow.Author.Tests.{ltb-true, ltb-false}
use lib.Dec.{ltb}
use lib.ListN.{length}
use lib.Ieee.{lt, is_nan}
use Rattle.measures.specs.Bar.{Bar}
use Rattle.measures.specs.declared.folds.Column.TheVariants.{High, Low}
use Rattle.measures.specs.Window.{window_of, back_of}
use Rattle.measures.specs.Fold.{column_of, extremes_of}
use Rattle.measures.proofs.Order.{max-second, min-second, both_ways}
use Rattle.measures.proofs.FoldLaws.{known-highest, known-lowest}
use Rattle.rule_types.specs.declared.label.Label.{Label, TheVariants.Other}
use Rattle.growing_rules.specs.declared.Both.{Both}
use Rattle.middles.specs.declared.Middle.{Middle}
use Rattle.growing_rules.specs.GrowingRule.{first_match, inner_of}
use Rattle.middles.specs.MiddleSteps.{middle_of, entered, middle_at}
use Rattle.growing_rules.specs.SearchSteps.{beyond, no_match, found_of, searched_of}
use Rattle.growing_rules.proofs.GrowingLaws.{match-miss, match-ends}
use Rattle.middles.proofs.MiddleLaws.{first-at, last-at, at_next, at-end}
use Rattle.growing_rules.proofs.ShapeLaws.{IsTest, sides, methods_test, tower_test}

-- ---- a conjunction that fails

-- fails too with a second part that implies the one it had
still-fails : (a t u : Bool) → (u ≡ true → t ≡ true) → (a && t) ≡ false → (a && u) ≡ false
still-fails false t u implies h = refl
still-fails true t true implies h = both_ways (implies refl) h
still-fails true t false implies h = refl

-- ---- what is found, by a test of the ends and the extremes

-- in the windows of fewer than n bars it is the search of as many sizes, up to the end
pub found_at : (label_of : List Bar → Label) (end : ℕ) (w : List Bar) (n k : ℕ) → min n end ≡ k → found_of label_of end w n ≡ first_match label_of (k - 5) 5 w
unfolding found_of
found_at label_of end w n k e = rw e

-- it stays where the window of n bars is not tried, or fails
module _ (label_of : List Bar → Label) (end : ℕ) (w : List Bar) (n : ℕ) (many : 5 ≤ n) (may : Bool) (none : may ≡ false → label_of (window_of w 1 n) ≡ Other) where
  pub found-stays : (ltb n end && may) ≡ false → found_of label_of end w (n + 1) ≡ found_of label_of end w n
  found-stays unfit = go (ltb n end) refl unfit
    where
      go : (t : Bool) → ltb n end ≡ t → (t && may) ≡ false → found_of label_of end w (n + 1) ≡ found_of label_of end w n
      go false e h =
          let past = ltb-false n end e in
          found_at label_of end w (n + 1) end (omega (arith, past)) ∙ sym (found_at label_of end w n end (omega (arith, past)))
      go true e h =
          let before = ltb-true n end e in
          rw (found_at label_of end w (n + 1) (n + 1) (omega (arith, before)), found_at label_of end w n n (omega (arith, before)))
          (match-miss label_of w n many (rw (none h)))

-- a window that fails its test has no label
pub no-window : {may_be : Bar → Bar → Middle → Bool} {label_of : List Bar → Label} → IsTest may_be label_of → (w : List Bar) (n : ℕ) → 1 ≤ n
    → may_be (back_of w n) (back_of w 1) (middle_at w n) ≡ false → label_of (window_of w 1 n) ≡ Other
unfolding middle_at
no-window test w n some unfit = test.no_label (window_of w 1 n) (rw (first-at w n, last-at w n some) unfit)

-- ---- and a middle that it does not lie beyond, it does not lie beyond when a bar has entered

module _ (last b : Bar) (m : Middle) (high : is_nan m.highest ≡ false) (low : is_nan m.lowest ≡ false) where
  stays_within : beyond last m ≡ false → beyond last (entered b m) ≡ false
  unfolding beyond entered
  stays_within within =
      let e = sides b last m within in
      let up = still-fails (lt last.«open» last.close) _ _ (max-second b.high m.highest last.close high) e.0 in
      let down = still-fails (lt last.close last.«open») _ _ (min-second b.low m.lowest last.close low) e.1 in
      simp (up, down)

module _ (w : List Bar) (n : ℕ) where
  known-high : is_nan (middle_at w n).highest ≡ false
  unfolding middle_at middle_of extremes_of
  known-high = known-highest (column_of High (inner_of (window_of w 1 n)))

  known-low : is_nan (middle_at w n).lowest ≡ false
  unfolding middle_at middle_of extremes_of
  known-low = known-lowest (column_of Low (inner_of (window_of w 1 n)))

  next-within : 2 ≤ n → beyond (back_of w 1) (middle_at w n) ≡ false → beyond (back_of w 1) (middle_at w (n + 1)) ≡ false
  next-within some within =
      elim (dec_lt n (length w)) [
        | yes older ↦ rw (at_next w n some older) (stays_within (back_of w 1) (back_of w n) (middle_at w n) known-high known-low within)
        | no none ↦ rw (at-end w n (omega arith)) within
      ]

-- so no window from there on has a label
module _ (w : List Bar) (n : ℕ) (some : 2 ≤ n) (within : beyond (back_of w 1) (middle_at w n) ≡ false) where
  all-within : (i : ℕ) → beyond (back_of w 1) (middle_at w (n + i)) ≡ false
  all-within zero = let e : n + 0 ≡ n = omega arith in rw e within
  all-within (suc i) = let e : n + suc i ≡ n + i + 1 = omega arith in rw e (next-within w (n + i) (omega arith) (all-within i))

  no_more : {may_be : Bar → Bar → Middle → Bool} {label_of : List Bar → Label} → IsTest may_be label_of → (i : ℕ) → label_of (window_of w 1 (n + i)) ≡ Other
  no_more test i =
      no-window test w (n + i) (omega arith) (test.fails_within (back_of w (n + i)) (back_of w 1) (middle_at w (n + i)) (all-within i))

-- and the search is at its end
module _ (w : List Bar) (n : ℕ) (many : 5 ≤ n) (few : n ≤ 10) (within : beyond (back_of w 1) (middle_at w n) ≡ false) where
  found_all : {may_be : Bar → Bar → Middle → Bool} {label_of : List Bar → Label} → IsTest may_be label_of → (end : ℕ) → found_of label_of end w n ≡ found_of label_of end w 10
  found_all {label_of = label_of} test end =
      let d = min 10 end - n in
      elim (dec_le n end) [
        | yes before ↦ (found_at label_of end w n n (omega arith) ∙ sym (match-ends label_of w n many (no_more w n (omega arith) within test) d) ∙ sym (found_at label_of end w 10 (n + d) (omega arith)))
        | no past ↦ (found_at label_of end w n end (omega arith) ∙ sym (found_at label_of end w 10 end (omega arith)))
      ]

  pub search-ends : (ends : Both ℕ) → searched_of ends w n ≡ searched_of ends w 10
  search-ends ends =
      rw (found_all methods_test ends.methods, found_all tower_test ends.tower)

-- nothing is found in the windows of fewer than 5 bars
pub searched-none : (ends : Both ℕ) (w : List Bar) → no_match ≡ searched_of ends w 5
unfolding found_of first_match
searched-none ends w =
    let e1 : min 5 ends.methods - 5 ≡ 0 = omega arith in
    let e2 : min 5 ends.tower - 5 ≡ 0 = omega arith in
    rw (e1, e2)

-- so where the newest close is not beyond the first middle, nothing is found
pub no-growing : (ends : Both ℕ) (w : List Bar) → beyond (back_of w 1) (middle_at w 5) ≡ false → no_match ≡ searched_of ends w 10
no-growing ends w within = searched-none ends w ∙ search-ends w 5 (omega arith) (omega arith) within ends
