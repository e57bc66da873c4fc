-- "At a refused line it prints the labels program's refusal line and nothing else": what this program prints beside what the labels program
-- prints for the same input. proofs/SameRefusal.antt shows it of every input.
use Rattle.std.specs.Prelude.{ℕ, ◌≤◌, false, List, [], ◌∷◌, ◌++◌, map, ◌⊎◌, ◌≡◌, length, Option, Ok}
use Rattle.measures.specs.Bar.{Bar}
use Rattle.recognisers.specs.Number.{most_bars}
use Rattle.text.specs.LineText.{Line, line_of}
use Rattle.input_lines.specs.Lines.{line_feed, lines_of}
use Rattle.output_lines.specs.declared.output.Stop.{Stop}
use Rattle.output_lines.specs.Output.{goes_on, refusal_line}
use Rattle.label_lines.specs.Output.{output_of as labelsOutput}
use Rattle.tally_lines.specs.Output.{lines_of_tally}
use Rattle.tally_lines.specs.History.{history_tally, output_of}

-- whole lines, or nothing: what follows them begins a line
abbrev pub WholeLines : List ℕ → Type 0
WholeLines rows = (rows ≡ []) ⊎ ((bytes : List ℕ) × (rows ≡ bytes ++ (line_feed ∷ [])))

-- no line that follows a history is refused, and the table of all bars is printed
pub record Tabled (history : List Bar) (lines : List Line) (tally : List ℕ) : Type 0 where
  pub bars : List Bar
  pub accepted : lines ≡ map Ok bars
  pub few : length (history ++ bars) ≤ most_bars
  pub prints : tally ≡ lines_of_tally 0 (history_tally (history ++ bars))

-- a refusal line, which is one line, is printed and nothing else, and the labels program prints it last
pub record Refused (labels tally : List ℕ) : Type 0 where
  pub ordinal : ℕ
  pub stop : Option Stop
  pub refused : goes_on stop ≡ false
  pub prints : tally ≡ refusal_line ordinal stop
  pub one_line : (line : List ℕ) × (lines_of tally ≡ line ∷ [])
  pub rows : List ℕ
  pub whole : WholeLines rows
  pub last : labels ≡ rows ++ tally

abbrev pub SameRefusal : List ℕ → Type 0
SameRefusal input = Tabled [] (map line_of (lines_of input)) (output_of input) ⊎ Refused (labelsOutput input) (output_of input)
