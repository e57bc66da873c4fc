-- A table as a run of numbers, those of recogniser k from labels × k on.
use Rattle.std.specs.Prelude.{ℕ, ◌+◌, ◌*◌, ◌/◌, ◌%◌, List, get_or, replicate}
use Rattle.recognisers.specs.Number.{labels}
use Rattle.recognisers.specs.Refusal.{leaves}
use Rattle.tallies.specs.declared.table.TallyRow.{TallyRow}
use Rattle.tallies.specs.Tally.{fresh_tally, cell_of, by_place, gained}
use Rattle.tallies.specs.Count.{cells}
use Rattle.tallies.specs.Feed.{Tallied}
use Rattle.term_calls.specs.Numbers.{written_to}

-- the table with these numbers; those that are missing are zeros
unfoldable pub tally_in : List ℕ → List TallyRow
tally_in numbers = gained (λ k c. get_or numbers (labels * k + c) 0) fresh_tally

-- the numbers of a table
unfoldable pub numbers_of : List TallyRow → List ℕ
numbers_of tally = by_place (λ i n. cell_of tally (i / labels) (i % labels)) 0 (replicate cells 0)

-- the numbers after a feed; a refusal leaves them
abbrev pub numbers_after : List ℕ → Tallied → List ℕ
numbers_after numbers o = leaves o.verdict numbers (written_to numbers (numbers_of o.tally))
