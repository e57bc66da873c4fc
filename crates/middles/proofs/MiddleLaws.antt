-- The middle as the window grows: the bars between the ends of each size, and their extremes when an older bar enters. Assumes nothing.
use Prim.Native.Nat.{ℕ, ◌+◌, ◌-◌, ◌<◌, ◌≤◌, min}
use mathlib.Core.Path.{◌≡◌, refl, sym, ◌∙◌}
use mathlib.Core.Bool.{Bool, true, false, cond, not, ◌&&◌, and-true, and_assoc}
use borrow.Author.Tests.{ltb-true, ltb-false}
use lib.Dec.{ltb}
use mathlib.Core.List.{List, [], ◌∷◌, ◌++◌, map, map-append}
use native.Mathlib.Omega.{arith}
use native.Mathlib.Decide.{dec_le}
use lib.ListN.{length, take}
use lib.Ieee.{Float, is_nan, lt}
use lib.Seq.{take-length, get_or-take, length-take-le}
use Rattle.measures.specs.Bar.{Bar, no_bar}
use Rattle.measures.specs.declared.folds.Column.TheVariants.{High, Low}
use Rattle.measures.specs.Window.{up_to, newest, window_of, back_of}
use Rattle.measures.specs.Fold.{price_of, column_of, every_of, extremes_of}
use Rattle.measures.proofs.FoldLaws.{highest-grows, lowest-grows, extremes-newer}
use Rattle.measures.proofs.WindowLaws.{up_to-in, up_to-one, length-window, newest-more, newest-none, back-newest, window-reach, all-of-it}
use Rattle.middles.specs.Part.{first_of, last_of, inner_of}
use Rattle.middles.specs.MiddleSteps.{middle_of, entered, grown_by, middle_at}

-- ---- the bars of the window of n bars

module _ (w : List Bar) (n : ℕ) where
  window-one : window_of w 1 n ≡ newest n w
  unfolding window_of
  window-one = simp (up_to-one (length w), take-length w)

  length-one : length (window_of w 1 n) ≡ min n (length w)
  length-one = length-window w 1 n ∙ rw (up_to-one (length w))

  pub last-at : 1 ≤ n → last_of (window_of w 1 n) ≡ back_of w 1
  unfolding last_of
  last-at some = rw window-one (back-newest n 1 w some)

  same_back : (i j : ℕ) → min i (length w) ≡ min j (length w) → back_of w i ≡ back_of w j
  unfolding back_of
  same_back i j e = rw e

  pub first-at : first_of (window_of w 1 n) ≡ back_of w n
  unfolding first_of
  first-at =
      rw (length-one, window-one)
      (back-newest n (min n (length w)) w (omega arith) ∙ same_back (min n (length w)) n (omega arith))

  -- where there are as many bars, those between the ends are the n − 2 bars before the newest
  inner-three : 3 ≤ n → n ≤ length w → inner_of (window_of w 1 n) ≡ window_of w 2 (n - 2)
  unfolding inner_of
  inner-three many enough =
      let e : min n (length w) ≡ n = omega arith in
      rw (length-one, e, window-one) (window-reach n w 2 (n - 2) (omega arith) (omega arith))

window-none : (w : List Bar) (di : ℕ) → window_of w di 0 ≡ []
unfolding window_of
window-none w di = newest-none (take (up_to (length w) di) w)

inner-two : (w : List Bar) → inner_of (window_of w 1 2) ≡ []
unfolding inner_of
inner-two w =
    let e : min 2 (length w) - 2 ≡ 0 = omega arith in
    rw (length-one w 2, e) (window-none (window_of w 1 2) 2)

inner-at : (w : List Bar) (n : ℕ) → 2 ≤ n → n ≤ length w → inner_of (window_of w 1 n) ≡ window_of w 2 (n - 2)
inner-at w n some enough =
    elim (dec_le 3 n) [
      | yes many ↦ inner-three w n many enough
      | no few ↦ (let e : n ≡ 2 = omega arith in rw e (inner-two w ∙ sym (window-none w 2)))
    ]

-- a bar more of those before the newest
less_one : (len n : ℕ) → 1 ≤ n → len - 1 - (n - 1) ≡ len - n
less_one len n some = omega arith

place-older : (len n : ℕ) → 2 ≤ n → n < len → len - 1 - min (n - 2 + 1) (len - 1) ≡ len - min n len
place-older len n some enough =
    let e1 : min (n - 2 + 1) (len - 1) ≡ n - 1 = omega arith in
    let e2 : min n len ≡ n = omega arith in
    rw (e1, e2) (less_one len n (omega arith))

module _ (w : List Bar) (n : ℕ) (some : 2 ≤ n) (enough : n < length w) where
  older : up_to (length w) 2 ≡ length w - 1
  older = up_to-in (length w) 2 (omega arith) (omega arith) ∙ omega arith

  back-older : back_of (take (length w - 1) w) (n - 2 + 1) ≡ back_of w n
  unfolding back_of
  back-older =
      rw (length-take-le (length w - 1) w (omega arith), place-older (length w) n some enough)
      (get_or-take (length w - 1) w (length w - min n (length w)) no_bar (omega arith))

  before-newest : window_of w 2 (n + 1 - 2) ≡ back_of w n ∷ window_of w 2 (n - 2)
  unfolding window_of
  before-newest =
      let e : n + 1 - 2 ≡ n - 2 + 1 = omega arith in
      let long : n - 2 < length (take (length w - 1) w) = rw (length-take-le (length w - 1) w (omega arith)) (omega arith) in
      rw (older, e, newest-more (take (length w - 1) w) (n - 2) long, back-older)

  -- the first bar of the window of n bars is the oldest between the ends of the next
  inner-grows : inner_of (window_of w 1 (n + 1)) ≡ back_of w n ∷ inner_of (window_of w 1 n)
  inner-grows = rw (inner-at w (n + 1) (omega arith) (omega arith), inner-at w n some (omega arith)) before-newest

-- where there is no older bar, the next window is the same
window-stays : (w : List Bar) (n : ℕ) → length w ≤ n → window_of w 1 (n + 1) ≡ window_of w 1 n
window-stays w n all = all-of-it w (n + 1) (omega arith) ∙ sym (all-of-it w n all)

-- ---- the extremes

pub middle-grows : (b : Bar) (mid : List Bar) → middle_of (b ∷ mid) ≡ entered b (middle_of mid)
unfolding middle_of extremes_of entered column_of every_of
middle-grows b mid = simp (highest-grows b.high (column_of High mid), lowest-grows b.low (column_of Low mid))

pub at-two : (w : List Bar) → middle_at w 2 ≡ middle_of []
unfolding middle_at
at-two w = rw (inner-two w)

pub at_next : (w : List Bar) (n : ℕ) → 2 ≤ n → n < length w → middle_at w (n + 1) ≡ entered (back_of w n) (middle_at w n)
unfolding middle_at
at_next w n some enough = rw (inner-grows w n some enough) (middle-grows (back_of w n) (inner_of (window_of w 1 n)))

pub at-end : (w : List Bar) (n : ℕ) → length w ≤ n → middle_at w (n + 1) ≡ middle_at w n
unfolding middle_at
at-end w n all = rw (window-stays w n all)

-- so what runs along is the middle's at each size
pub at-grown : (w : List Bar) (n : ℕ) → 2 ≤ n → grown_by w n (middle_at w n) ≡ middle_at w (n + 1)
unfolding grown_by
at-grown w n some = go (ltb n (length w)) refl
  where
    go : (t : Bool) → ltb n (length w) ≡ t → cond t (entered (back_of w n) (middle_at w n)) (middle_at w n) ≡ middle_at w (n + 1)
    go true e = sym (at_next w n some (ltb-true n (length w) e))
    go false e = sym (at-end w n (ltb-false n (length w) e))

-- ---- from the oldest, by one comparison a price

every-newer : (t : Float → Bool) (xs : List Float) (x : Float) → every_of t (xs ++ (x ∷ [])) ≡ (every_of t xs && t x)
unfolding every_of
every-newer t [] x = and-true (t x)
every-newer t (y ∷ ys) x = rw (every-newer t ys x) (sym (and_assoc (t y) (every_of t ys) (t x)))

pub middle-newer : (mid : List Bar) (b : Bar)
    → (let m = middle_of mid in record {
      highest = cond (lt m.highest b.high) b.high m.highest;
      lowest = cond (lt b.low m.lowest) b.low m.lowest;
      highs = m.highs && not (is_nan b.high);
      lows = m.lows && not (is_nan b.low);
    }) ≡ middle_of (mid ++ (b ∷ []))
unfolding middle_of column_of
middle-newer mid b =
    rw (← extremes-newer mid b, map-append (price_of High) mid (b ∷ []), map-append (price_of Low) mid (b ∷ []), every-newer _ (map (price_of High) mid) b.high, every-newer _ (map (price_of Low) mid) b.low) refl

pub three-at : (w : List Bar) → 5 ≤ length w → middle_of (back_of w 4 ∷ back_of w 3 ∷ back_of w 2 ∷ []) ≡ middle_at w 5
three-at w long =
    rw (at_next w 4 (omega arith) (omega arith), at_next w 3 (omega arith) (omega arith), at_next w 2 (omega arith) (omega arith), at-two w)
    (rw (middle-grows (back_of w 4) (back_of w 3 ∷ back_of w 2 ∷ []), middle-grows (back_of w 3) (back_of w 2 ∷ []), middle-grows (back_of w 2) []))
