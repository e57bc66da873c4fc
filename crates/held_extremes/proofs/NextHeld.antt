-- One bar more: what the code makes of what was held is what the definition gives. Once for both sides. Assumes nothing.
use Prim.Native.Nat.{ℕ, suc, ◌+◌, ◌-◌, ◌<◌, ◌≤◌, min}
use mathlib.Core.Path.{◌≡◌, refl, ap, ◌∙◌}
use mathlib.Core.Bool.{Bool, true, false}
use mathlib.Core.List.{List, [], ◌∷◌, ◌++◌, map-append}
use native.Mathlib.Omega.{arith}
use borrow.Author.Tests.{leb-true, leb-false}
use lib.Dec.{leb}
use lib.ListN.{length, length-append, get_or-append}
use lib.Seq.{drop-append-le, get_or-append_seam}
use lib.Ieee.{Float}
use Rattle.measures.specs.Bar.{Bar, no_bar}
use Rattle.measures.specs.declared.folds.Column.{Column}
use Rattle.measures.specs.declared.folds.Column.TheVariants.{High, Low}
use Rattle.measures.specs.Fold.{price_of, column_of}
use Rattle.measures.specs.Window.{newest, back_of}
use Rattle.measures.proofs.WindowLaws.{newest-more}
use Rattle.rule_types.specs.Number.{quarter_bars}
use Rattle.held_extremes.specs.Candidate.{greater, smaller, candidates, placed, held_of}
use Rattle.held_extremes.specs.CandidateSteps.{bar_price, left_of, room_for, next_ordinals, next_held}
use Rattle.held_extremes.proofs.CandidateLaws.{Way, rising, falling, among, length-candidates}
use Rattle.held_extremes.proofs.NextLaws.{price_from, left-none, oldest-leaves, room-left, room-same, newest-enters}
use Rattle.held_extremes.proofs.HeldLaws.{length-newest, newest-few, length-column, column-price, bar-near, held_first}

-- ---- a bar behind others

newest-with : (m : ℕ) (bars : List Bar) (x : Bar) → newest (m + 1) (bars ++ (x ∷ [])) ≡ newest m bars ++ (x ∷ [])
unfolding newest
newest-with m bars x =
    let e : length (bars ++ (x ∷ [])) - (m + 1) ≡ length bars - m = rw length-append (omega arith) in
    rw e (drop-append-le (length bars - m) bars (x ∷ []) (omega arith))

newest-bar : (bars : List Bar) (x : Bar) → back_of (bars ++ (x ∷ [])) 1 ≡ x
unfolding back_of
newest-bar bars x =
    let e : length (bars ++ (x ∷ [])) - min 1 (length (bars ++ (x ∷ []))) ≡ length bars = rw length-append (omega arith) in
    rw e (get_or-append_seam bars x [] no_bar)

column-with : (c : Column) (bars : List Bar) (x : Bar) → column_of c (bars ++ (x ∷ [])) ≡ column_of c bars ++ (price_of c x ∷ [])
unfolding column_of
column-with c bars x = map-append (price_of c) bars (x ∷ [])

module _ (beyond : Float → Float → Bool) (o : Way beyond) (c : Column) (n : ℕ) (bars : List Bar) (few : length bars ≤ n) where
  -- ---- the bars that stay: all but the one that falls out, if 20 were there

  abbrev held : List ℕ
  held = candidates beyond (n - length (newest quarter_bars bars)) (column_of c (newest quarter_bars bars))

  abbrev staying : List ℕ
  staying = candidates beyond (n - length (newest (quarter_bars - 1) bars)) (column_of c (newest (quarter_bars - 1) bars))

  one-falls-out : quarter_bars ≤ length bars → left_of (n + 1 - quarter_bars) held ≡ staying
  unfolding column_of
  one-falls-out many =
      let kept = newest (quarter_bars - 1) bars in
      let size : length kept ≡ quarter_bars - 1 = length-newest (quarter_bars - 1) bars ∙ omega arith in
      let e : n + 1 - quarter_bars ≡ n - quarter_bars + 1 = omega arith in
      let f : n - length kept ≡ n - quarter_bars + 1 = omega arith in
      let g : n - suc (length kept) ≡ n - quarter_bars = omega arith in
      rw (newest-more bars (quarter_bars - 1), e, f, g) (oldest-leaves beyond (n - quarter_bars) (price_of c (back_of bars quarter_bars)) (column_of c kept))

  none-falls-out : length bars < quarter_bars → left_of (n + 1 - quarter_bars) held ≡ staying
  none-falls-out less =
      rw (newest-few quarter_bars bars (omega arith), newest-few (quarter_bars - 1) bars (omega arith))
      (left-none beyond (n + 1 - quarter_bars) (n - length bars) n (candidates beyond (n - length bars) (column_of c bars)) (omega arith)
      (among beyond (n - length bars) n (column_of c bars) (rw length-column (omega arith))))

  stay-left : left_of (n + 1 - quarter_bars) held ≡ staying
  stay-left = go (leb quarter_bars (length bars)) refl
    where
      go : (t : Bool) → leb quarter_bars (length bars) ≡ t → left_of (n + 1 - quarter_bars) held ≡ staying
      go true e = one-falls-out (leb-true quarter_bars (length bars) e)
      go false e = none-falls-out (leb-false quarter_bars (length bars) e)

  -- ---- the new bar

  module _ (x : Bar) where
    abbrev kept : List Bar
    kept = newest (quarter_bars - 1) bars

    abbrev lo : ℕ
    lo = n - length kept

    size : length kept ≤ n
    size = omega (arith, length-newest (quarter_bars - 1) bars)

    window : newest quarter_bars (bars ++ (x ∷ [])) ≡ kept ++ (x ∷ [])
    window = newest-with (quarter_bars - 1) bars x

    base : n + 1 - length (newest quarter_bars (bars ++ (x ∷ []))) ≡ lo
    base = rw (window, length-append) (omega (arith, size))

    price-kept : (i : ℕ) → lo < i → i ≤ n → bar_price c (n + 1 - length (bars ++ (x ∷ []))) (bars ++ (x ∷ [])) i ≡ price_from lo (column_of c kept) i
    price-kept i after upto =
        let near = bar-near (n + 1) quarter_bars (bars ++ (x ∷ [])) i (rw length-append (omega arith)) (rw base after) in
        let there : i - (lo + 1) < length kept = omega (arith, size) in
        rw (near, base, window, get_or-append kept (x ∷ []) no_bar (i - (lo + 1)) there) (column-price c kept (i - (lo + 1)))

    pub next-candidates : next_ordinals beyond c (n + 1 - length (bars ++ (x ∷ []))) (n + 1) (bars ++ (x ∷ [])) (placed held)
        ≡ candidates beyond (n + 1 - length (newest quarter_bars (bars ++ (x ∷ [])))) (column_of c (newest quarter_bars (bars ++ (x ∷ []))))
    next-candidates =
        let y = price_of c x in
        let xs = column_of c kept in
        let price = bar_price c (n + 1 - length (bars ++ (x ∷ []))) (bars ++ (x ∷ [])) in
        let short : length (left_of (n + 1 - quarter_bars) held) ≤ quarter_bars - 1 = rw stay-left (omega (arith, length-candidates beyond lo xs, length-column c kept, length-newest (quarter_bars - 1) bars)) in
        let room = room-left beyond y price (quarter_bars - 1) (quarter_bars - length held) (n + 1 - quarter_bars) held short
        ∙ ap (room_for beyond y price) stay-left
        ∙ room-same beyond y price (price_from lo xs) lo n staying (among beyond lo n xs (rw length-column (omega (arith, size)))) price-kept in
        let last : lo + length xs + 1 ≡ n + 1 = rw length-column (omega (arith, size)) in
        rw (newest-bar bars x, room, base, window, column-with c kept x, newest-enters beyond o lo xs y, last)

-- ---- both

pub next-held : (n : ℕ) (bars : List Bar) (x : Bar) → length bars ≤ n → next_held (held_of n bars) (n + 1) (bars ++ (x ∷ [])) ≡ held_of (n + 1) (bars ++ (x ∷ []))
unfolding next_held held_of
next-held n bars x few =
    rw (next-candidates greater rising.way High n bars few x, next-candidates smaller falling.way Low n bars few x)
    (held_first (n + 1) (bars ++ (x ∷ [])) (rw length-append (omega arith)))
