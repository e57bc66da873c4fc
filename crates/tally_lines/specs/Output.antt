-- "prints the non-zero cells as recogniser,label,count in rising order of recogniser, then code".
use Rattle.std.specs.Prelude.{ℕ, ◌+◌, ◌*◌, cond, List, [], ◌∷◌, ◌++◌, eqb}
use Rattle.recognisers.specs.Number.{recognisers, labels}
use Rattle.tallies.specs.declared.table.TallyRow.{TallyRow}
use Rattle.output_lines.specs.Output.{count_line, longest_count}

-- a cell's line, if it isn't zero
abbrev pub cell_line : ℕ → ℕ → ℕ → List ℕ
cell_line k c count = cond (eqb count 0) [] (count_line k c count)

-- the lines of a recogniser's counts, from code c on; and of a table's rows, from recogniser k on
unfoldable pub cell_lines : ℕ → ℕ → List ℕ → List ℕ
cell_lines k c [] = []
cell_lines k c (count ∷ counts) = cell_line k c count ++ cell_lines k (c + 1) counts

unfoldable pub lines_of_tally : ℕ → List TallyRow → List ℕ
lines_of_tally k [] = []
lines_of_tally k (row ∷ tally) = cell_lines k 0 row.counts ++ lines_of_tally (k + 1) tally

-- the room for a row's lines, and for those of a table
abbrev pub row_room : ℕ
row_room = labels * longest_count

abbrev pub tally_room : ℕ
tally_room = recognisers * row_room
