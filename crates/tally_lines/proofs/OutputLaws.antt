-- The lines of counts and of rows, one behind the other. Assumes nothing.
use Prim.Native.Nat.{ℕ, suc, ◌+◌, ◌≤◌, ◌<◌}
use mathlib.Core.Bool.{Bool, true, false, cond}
use mathlib.Core.List.{List, [], ◌∷◌, ◌++◌, append_assoc, append-nil}
use mathlib.Core.Path.{◌≡◌}
use native.Mathlib.Nat.{add-zero}
use native.Mathlib.Numerals.{add-one}
use native.Mathlib.Omega.{arith}
use lib.Dec.{eqb}
use lib.ListN.{length, get_or, take}
use lib.Seq.{take-suc, length-take-le}
use Rattle.tallies.specs.declared.table.TallyRow.{TallyRow}
use Rattle.output_lines.specs.Output.{count_line, longest_count}
use Rattle.output_lines.proofs.OutputLaws.{count_most}
use Rattle.tally_lines.specs.Output.{cell_line, cell_lines, lines_of_tally}

pub cell-most : (k c count : ℕ) → length (cell_line k c count) ≤ longest_count
cell-most k c count = go (eqb count 0)
  where
    go : (t : Bool) → length (cond t [] (count_line k c count)) ≤ longest_count
    go true = omega arith
    go false = count_most k c count

cells-append : (k c : ℕ) (xs ys : List ℕ) → cell_lines k c (xs ++ ys) ≡ cell_lines k c xs ++ cell_lines k (c + length xs) ys
unfolding cell_lines
cells-append k c [] ys = rw add-zero
cells-append k c (x ∷ xs) ys =
    let more : c + 1 + length xs ≡ c + suc (length xs) = omega arith in
    rw (cells-append k (c + 1) xs ys, more, append_assoc)

-- one count more
pub cells-next : (k : ℕ) (counts : List ℕ) (c : ℕ) → c < length counts
    → cell_lines k 0 (take (c + 1) counts) ≡ cell_lines k 0 (take c counts) ++ cell_line k c (get_or counts c 0)
unfolding cell_lines
cells-next k counts c h =
    let size : 0 + length (take c counts) ≡ c = rw (length-take-le c counts (omega arith)) (omega arith) in
    rw (add-one c, take-suc counts c 0 h, cells-append k 0 (take c counts) (get_or counts c 0 ∷ []), size, append-nil)

rows_append : (k : ℕ) (xs ys : List TallyRow) → lines_of_tally k (xs ++ ys) ≡ lines_of_tally k xs ++ lines_of_tally (k + length xs) ys
unfolding lines_of_tally
rows_append k [] ys = rw add-zero
rows_append k (x ∷ xs) ys =
    let more : k + 1 + length xs ≡ k + suc (length xs) = omega arith in
    rw (rows_append (k + 1) xs ys, more, append_assoc)

-- one row more
pub rows_next : (tally : List TallyRow) (k : ℕ) (none : TallyRow) → k < length tally
    → lines_of_tally 0 (take (k + 1) tally) ≡ lines_of_tally 0 (take k tally) ++ cell_lines k 0 (get_or tally k none).counts
unfolding lines_of_tally
rows_next tally k none h =
    let size : 0 + length (take k tally) ≡ k = rw (length-take-le k tally (omega arith)) (omega arith) in
    rw (add-one k, take-suc tally k none h, rows_append 0 (take k tally) (get_or tally k none ∷ []), size, append-nil)
