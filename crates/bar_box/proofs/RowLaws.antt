-- Codes and rows on a sheet, one pair and one row after the other. Assumes nothing.
use Prim.Native.Nat.{ℕ, ◌+◌, ◌-◌, ◌*◌, ◌≤◌, ◌<◌}
use mathlib.Core.Path.{◌≡◌, refl, sym, ◌∙◌, ap}
use mathlib.Core.List.{List, [], ◌∷◌, ◌++◌, append_assoc}
use native.Mathlib.Omega.{arith}
use native.Mathlib.Numerals.{add-one}
use lib.ListN.{length, get_or, take, drop, set, length-append, length-drop}
use lib.Seq.{take-suc, take-add, length-take-le}
use Rattle.measures.specs.Bar.{Bar, no_bar, overlay}
use Rattle.recognisers.specs.Threshold.{Thresholds}
use Rattle.recognisers.specs.Number.{row_bytes}
use Rattle.recognisers.specs.Label.{Pair, code_of}
use Rattle.recognisers.specs.Table.{codes_of}
use Rattle.bar_box.specs.Sheet.{row_of, rows_of}
use Rattle.measures.proofs.Overlay.{overlay-next, overlay-more}
use Rattle.bar_box.proofs.SheetLaws.{length-codes, length-row, length-rows, rows_append, rows-one}

codes-append : (xs ys : List Pair) → codes_of (xs ++ ys) ≡ codes_of xs ++ codes_of ys
unfolding codes_of
codes-append [] ys = refl
codes-append (x ∷ xs) ys = rw (codes-append xs ys)

-- the codes of one pair more
pub overlay-codes : (ps : List Pair) (k : ℕ) (d : Pair) (s : List ℕ) (at place : ℕ) → k < length ps → place ≡ at + 2 * k → place + 2 ≤ length s
    → set (set (overlay s at (codes_of (take k ps))) place (code_of (get_or ps k d).v1)) (place + 1) (code_of (get_or ps k d).v2) ≡ overlay s at (codes_of (take (k + 1) ps))
unfolding codes_of
overlay-codes ps k d s at place h place_is room =
    let pair = get_or ps k d in
    let old = codes_of (take k ps) in
    let n : length old ≡ 2 * k = length-codes (take k ps) ∙ ap (λ (i : ℕ). 2 * i) (length-take-le k ps (omega arith)) in
    rw (
      overlay-next s at old (code_of pair.v1) place (omega arith) (omega arith),
      overlay-next s at (old ++ (code_of pair.v1 ∷ [])) (code_of pair.v2) (place + 1) (rw length-append (omega arith)) (omega arith),
      add-one k,
      take-suc ps k d h,
      codes-append (take k ps) (pair ∷ []),
    ) (simp append_assoc)

-- the row of one bar more, after the first j of the bars behind the first ones
pub overlay-row : (t : Thresholds) (len : ℕ) (bars : List Bar) (first j : ℕ) (s : List ℕ) (at : ℕ) → first + j < length bars → at + row_bytes * (j + 1) ≤ length s
    → let old = take first bars in
    overlay (overlay s at (rows_of t len old (take j (drop first bars)))) (at + row_bytes * j) (row_of t (len + j + 1) (take (first + j + 1) bars))
    ≡ overlay s at (rows_of t len old (take (j + 1) (drop first bars)))
overlay-row t len bars first j s at within room =
    let old = take first bars in
    let new = drop first bars in
    let b = get_or new j no_bar in
    let m : length new ≡ length bars - first = length-drop first bars in
    let one_more : take (j + 1) new ≡ take j new ++ (b ∷ []) = rw (add-one j) (take-suc new j no_bar (omega arith)) in
    let j-bars : length (take j new) ≡ j = length-take-le j new (omega arith) in
    let sum : first + j + 1 ≡ first + (j + 1) = omega arith in
    let history : take (first + j + 1) bars ≡ old ++ take j new ++ (b ∷ []) = rw (sum, take-add first (j + 1) bars, one_more) (sym (append_assoc old (take j new) (b ∷ []))) in
    let size = length-rows t len old (take j new) in
    let row-size = length-row t (len + j + 1) (old ++ take j new ++ (b ∷ [])) in
    rw (history, one_more, rows_append t len old (take j new) (b ∷ []), j-bars, rows-one t (len + j) (old ++ take j new) b)
    (overlay-more s at (rows_of t len old (take j new)) (row_of t (len + j + 1) (old ++ take j new ++ (b ∷ []))) (at + row_bytes * j) (omega arith) (omega arith))
