-- "A second program reads the lines that the labels program reads": what it prints for an input, said of the whole history, without box
-- and tally.
use Rattle.std.specs.Prelude.{ℕ, List, [], map}
use Rattle.measures.specs.Bar.{Bar}
use Rattle.recognisers.specs.Threshold.{standard_set}
use Rattle.tallies.specs.declared.table.TallyRow.{TallyRow}
use Rattle.tallies.specs.Tally.{fresh_tally, gained}
use Rattle.tallies.specs.History.{bars_with}
use Rattle.text.specs.LineText.{Line, line_of}
use Rattle.input_lines.specs.Lines.{lines_of}
use Rattle.label_lines.specs.History.{lines_print}
use Rattle.tally_lines.specs.Output.{lines_of_tally}

-- the tally of a history: each cell the number of bars that get its code from the rules, over the history up to each
unfoldable pub history_tally : List Bar → List TallyRow
history_tally history = gained (bars_with standard_set history) fresh_tally

-- what lines print that follow a history: the tally of all bars; at a refused line its refusal and nothing else
abbrev pub tally_prints : List Bar → List Line → List ℕ
tally_prints = lines_print (λ h. []) (λ h. lines_of_tally 0 (history_tally h))

-- what an input prints
abbrev pub output_of : List ℕ → List ℕ
output_of input = tally_prints [] (map line_of (lines_of input))
