-- Extremes that slide: how older and newer bars enter, the window of 20 as its older and its newer bars, and what stands in each place.
-- Assumes nothing.
use Prim.Native.Nat.{ℕ, suc, ◌+◌, ◌-◌, ◌<◌, ◌≤◌, min}
use mathlib.Core.Path.{◌≡◌, refl, sym, ap, ◌∙◌}
use mathlib.Core.Bool.{Bool, true, false, cond}
use mathlib.Core.List.{List, [], ◌∷◌, ◌++◌, map, map-append, foldl-append}
use native.Mathlib.Nat.{zero-add}
use native.Mathlib.Numerals.{add-one}
use native.Mathlib.Omega.{arith}
use borrow.Author.Tests.{leb-true, leb-false, ltb-true, ltb-false, lt-ltb, le-ltb}
use lib.Dec.{leb, ltb}
use lib.ListN.{length, get_or, set, take, drop, length-drop, drop_of_length-le}
use lib.Seq.{get_or-take, get_or-drop, length-take-le, take-add, take-suc, drop-append-le, drop-cons, set_split, drop_at, get_or_at}
use lib.Ieee.{Float, inf}
use Rattle.measures.specs.Bar.{Bar, no_bar}
use Rattle.measures.specs.Fold.{column_of, highest_of, lowest_of, extremes_of}
use Rattle.measures.specs.Price.{max_of, min_of}
use Rattle.measures.specs.Window.{newest, back_of}
use Rattle.measures.specs.declared.folds.Column.TheVariants.{High, Low}
use Rattle.measures.specs.declared.folds.Extremes.{Extremes}
use Rattle.measures.proofs.FoldLaws.{max-of-known, min-of-known, known-highest, known-lowest, highest-grows, lowest-grows, highest-joins, lowest-joins}
use Rattle.measures.proofs.Order.{max-reached, min-reached}
use Rattle.measures.proofs.WindowLaws.{newest-more}
use Rattle.rule_types.specs.Number.{quarter_bars, numbers}
use Rattle.rule_types.proofs.ListLaws.{number_at, length-numbers, place-next}
use Rattle.sliding_extremes.specs.WindowExtreme.{window_to, window_extremes}
use Rattle.sliding_extremes.specs.WindowExtremeSteps.{with_newer, with_older, next_older, joined, bars_before}

-- ---- bars that enter

both : {high high' low low' : Float} → high ≡ high' → low ≡ low' → ◌≡◌ {A = Extremes} (record { highest = high; lowest = low }) (record { highest = high'; lowest = low' })
both h l = rw (h, l)

older-enters : (b : Bar) (bars : List Bar) → with_older (extremes_of bars) b ≡ extremes_of (b ∷ bars)
unfolding extremes_of column_of
older-enters b bars =
    let highs = column_of High bars in
    let lows = column_of Low bars in
    both (max-reached (highest_of highs) b.high (known-highest highs) ∙ sym (highest-grows b.high highs)) (min-reached (lowest_of lows) b.low (known-lowest lows) ∙ sym (lowest-grows b.low lows))

-- newer ones: what enters is the extreme of some bars, or the price of one
module _ (xs ys : List Bar) (high low : Float) where
  enter-after : max_of (highest_of (column_of High xs)) high ≡ highest_of (column_of High xs ++ column_of High ys) → min_of (lowest_of (column_of Low xs)) low ≡ lowest_of (column_of Low xs ++ column_of Low ys)
      → with_newer (extremes_of xs) high low ≡ extremes_of (xs ++ ys)
  unfolding extremes_of column_of
  enter-after h l =
      let highs = column_of High xs in
      let lows = column_of Low xs in
      both (max-of-known (highest_of highs) high (known-highest highs) ∙ h ∙ sym (ap highest_of (map-append _ xs ys))) (min-of-known (lowest_of lows) low (known-lowest lows) ∙ l ∙ sym (ap lowest_of (map-append _ xs ys)))

newer-enters : (bars : List Bar) (b : Bar) → with_newer (extremes_of bars) b.high b.low ≡ extremes_of (bars ++ (b ∷ []))
unfolding column_of highest_of lowest_of
newer-enters bars b = enter-after bars (b ∷ []) b.high b.low (sym (foldl-append max_of (inf true) (column_of High bars) (b.high ∷ []))) (sym (foldl-append min_of (inf false) (column_of Low bars) (b.low ∷ [])))

-- two runs meet
runs-join : (xs ys : List Bar) → with_newer (extremes_of xs) (extremes_of ys).highest (extremes_of ys).lowest ≡ extremes_of (xs ++ ys)
unfolding extremes_of
runs-join xs ys = enter-after xs ys (highest_of (column_of High ys)) (lowest_of (column_of Low ys)) (sym (highest-joins (column_of High xs) (column_of High ys))) (sym (lowest-joins (column_of Low xs) (column_of Low ys)))

-- ---- the bars before a place, one more of them

module _ (bars : List Bar) (at : ℕ) (within : at ≤ length bars) where
  before-length : length (take at bars) ≡ at
  before-length = length-take-le at bars within

  one_more : (i : ℕ) → i + 1 ≤ at → newest (i + 1) (take at bars) ≡ get_or bars (at - (i + 1)) no_bar ∷ newest i (take at bars)
  unfolding back_of
  one_more i h =
      let e : length (take at bars) - min (i + 1) (length (take at bars)) ≡ at - (i + 1) = rw before-length (omega arith) in
      let inside : at - (i + 1) < at = omega arith in
      newest-more (take at bars) i (rw before-length (omega arith)) ∙ rw (e, get_or-take at bars (at - (i + 1)) no_bar inside)

  no_more : (i : ℕ) → at < i + 1 → newest (i + 1) (take at bars) ≡ newest i (take at bars)
  unfolding newest
  no_more i h =
      let e : length (take at bars) - (i + 1) ≡ 0 = rw before-length (omega arith) in
      let f : length (take at bars) - i ≡ 0 = rw before-length (omega arith) in
      rw (e, f)

  pub next-older : (i : ℕ) → next_older (extremes_of (newest i (take at bars))) bars at (i + 1) ≡ extremes_of (newest (i + 1) (take at bars))
  next-older i = go (leb (i + 1) at) refl
    where
      go : (t : Bool) → leb (i + 1) at ≡ t
          → cond t (with_older (extremes_of (newest i (take at bars))) (get_or bars (at - (i + 1)) no_bar)) (extremes_of (newest i (take at bars))) ≡ extremes_of (newest (i + 1) (take at bars))
      go true e = older-enters (get_or bars (at - (i + 1)) no_bar) (newest i (take at bars)) ∙ ap extremes_of (sym (one_more i (leb-true (i + 1) at e)))
      go false e = ap extremes_of (sym (no_more i (leb-false (i + 1) at e)))

-- ---- the bars from a place on, one more of them

pub next-newer : (bars : List Bar) (at k : ℕ) → at + k < length bars
    → let b = get_or bars (at + k) no_bar in with_newer (extremes_of (take k (drop at bars))) b.high b.low ≡ extremes_of (take (k + 1) (drop at bars))
next-newer bars at k within =
    let there : k < length (drop at bars) = rw length-drop (omega arith) in
    newer-enters (take k (drop at bars)) (get_or bars (at + k) no_bar) ∙ ap extremes_of (sym (rw add-one (take-suc (drop at bars) k no_bar there ∙ rw (get_or-drop at bars k no_bar))))

-- ---- the window that ends with the k-th bar from a place on, from its older and its newer bars

module _ (bars : List Bar) (at k : ℕ) (few : k < quarter_bars) where
  abbrev newer-bars : List Bar
  newer-bars = take (k + 1) (drop at bars)

  window-meets : at + k < length bars → bars_before bars at k ++ newer-bars ≡ newest quarter_bars (take (at + k + 1) bars)
  unfolding newest
  window-meets within =
      let a = length-take-le at bars (omega arith) in
      let s : at + k + 1 ≡ at + (k + 1) = omega arith in
      let b : length (take (at + (k + 1)) bars) ≡ at + (k + 1) = length-take-le (at + (k + 1)) bars (omega arith) in
      let e : at + (k + 1) - quarter_bars ≡ at - (quarter_bars - 1 - k) = omega arith in
      rw (s, b, e, take-add at (k + 1) bars, a) (sym (drop-append-le (at - (quarter_bars - 1 - k)) (take at bars) (take (k + 1) (drop at bars)) (rw a (omega arith))))

  -- so the extremes of the window come from those of its parts
  pub window-joined : (older newer : Extremes) → older ≡ extremes_of (bars_before bars at k) → (at + k < length bars → newer ≡ extremes_of newer-bars)
      → joined (ltb (at + k) (length bars)) older newer ≡ extremes_of (window_to bars (at + k))
  unfolding window_to
  window-joined older newer o n = go (ltb (at + k) (length bars)) refl
    where
      go : (t : Bool) → ltb (at + k) (length bars) ≡ t → joined t older newer ≡ extremes_of (cond t (newest quarter_bars (take (at + k + 1) bars)) [])
      go true e =
          let within : at + k < length bars = ltb-true (at + k) (length bars) e in
          rw (o, n within) (runs-join (bars_before bars at k) newer-bars ∙ ap extremes_of (window-meets within))
      go false e = refl

-- from the end of the run on there is no window
pub windows-end : (bars : List Bar) (at k : ℕ) → window_to bars (min at (length bars) + k) ≡ window_to bars (at + k)
unfolding window_to
windows-end bars at k = go (ltb at (length bars)) refl
  where
    go : (t : Bool) → ltb at (length bars) ≡ t → window_to bars (min at (length bars) + k) ≡ window_to bars (at + k)
    go true e = let same : min at (length bars) ≡ at = omega (arith, ltb-true at (length bars) e) in rw same
    go false e =
        let past = ltb-false at (length bars) e in
        rw (le-ltb (min at (length bars) + k) (length bars) (omega (arith, past)), le-ltb (at + k) (length bars) (omega (arith, past)))

-- ---- the places

module _ (bars : List Bar) (at : ℕ) where
  abbrev old : ℕ → Extremes
  old k = extremes_of (bars_before bars at k)

  abbrev new : ℕ → Extremes
  new k = extremes_of (window_to bars (at + k))

  abbrev olds : List Extremes
  olds = map old (numbers quarter_bars 0)

  abbrev news : List Extremes
  news = map new (numbers quarter_bars 0)

  -- from the last back: the places from one on, and one more
  abbrev pub Laid : List Extremes → ℕ → Type 0
  Laid l k = drop k l ≡ map old (numbers (quarter_bars - k) k)

  pub none-laid : (l : List Extremes) → length l ≡ quarter_bars → Laid l quarter_bars
  unfolding numbers
  none-laid l size = let past : length l ≤ quarter_bars = omega (arith, size) in drop_of_length-le l past

  pub laid_next : (l : List Extremes) (k : ℕ) (e : Extremes) → k < quarter_bars → length l ≡ quarter_bars → e ≡ extremes_of (newest (quarter_bars - (k + 1)) (take at bars)) → Laid l (k + 1)
      → Laid (set l k e) k
  unfolding numbers
  laid_next l k e few size is was =
      let one : quarter_bars - k ≡ suc (quarter_bars - (k + 1)) = omega arith in
      let back : quarter_bars - 1 - k ≡ quarter_bars - (k + 1) = omega arith in
      let rest : drop (suc k) l ≡ map old (numbers (quarter_bars - (k + 1)) (k + 1)) = rw (← add-one k) was in
      rw (one, set_split l k e (omega (arith, size))) (drop_at (take k l) (e ∷ drop (suc k) l) k (length-take-le k l (omega (arith, size))) ∙ rw (rest, is, back))

  -- from the first on: the first k places, what stands in the next, and one more
  abbrev pub Joined : List Extremes → ℕ → Type 0
  Joined l k = l ≡ take k news ++ drop k olds

  pub stands : (l : List Extremes) (k : ℕ) (d : Extremes) → k < quarter_bars → Joined l k → get_or l k d ≡ old k
  stands l k d few e =
      rw (e, drop-cons olds k d (rw (length-numbers old quarter_bars 0) few))
      (get_or_at (take k news) (get_or olds k d) _ d k (length-take-le k news (rw (length-numbers new quarter_bars 0) (omega arith))) ∙ number_at old quarter_bars 0 k d few ∙ rw zero-add)

  pub joined-next : (l : List Extremes) (k : ℕ) (w : Extremes) → k < quarter_bars → Joined l k → w ≡ extremes_of (window_to bars (at + k)) → Joined (set l k w) (k + 1)
  joined-next l k w few e is =
      let there : get_or news k w ≡ new k = number_at new quarter_bars 0 k w few ∙ rw zero-add in
      let put : get_or news k w ≡ w = there ∙ sym is in
      rw e (rw put at (place-next news olds k w (rw (length-numbers new quarter_bars 0) few) (rw (length-numbers old quarter_bars 0) few)))

-- ---- for others: the extremes in the k-th place, where there is such a bar

pub window-at : (bars : List Bar) (at k : ℕ) (d : Extremes) → k < quarter_bars → at + k < length bars
    → get_or (window_extremes bars at) k d ≡ extremes_of (newest quarter_bars (take (at + k + 1) bars))
unfolding window_extremes window_to
window-at bars at k d few within =
    let there : window_to bars (at + (0 + k)) ≡ newest quarter_bars (take (at + k + 1) bars) = rw zero-add (simp (lt-ltb (at + k) (length bars) within)) in
    number_at (λ k. extremes_of (window_to bars (at + k))) quarter_bars 0 k d few ∙ rw there
