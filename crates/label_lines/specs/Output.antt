-- "The labels program": what it prints for an input.
use Rattle.std.specs.Prelude.{Err, Ok, Some}
use Rattle.answers.specs.Refusal.{Verdict}
use Rattle.std.specs.Prelude.{ℕ, ◌+◌, Bool, true, false, cond, List, [], ◌∷◌, ◌++◌, replicate}
use Rattle.measures.specs.Bar.{Bar, prices_of}
use Rattle.answers.specs.declared.refusals.Refusal.TheVariants as refusal
use Rattle.recognisers.specs.Number.{row_bytes}
use Rattle.recognisers.specs.Threshold.{standard_set}
use Rattle.box_record.specs.declared.boxes.BarBox.{BarBox}
use Rattle.bar_box.specs.Box.{fresh_box, fed_of, sheet_of}
use Rattle.text.specs.declared.line_text.LineError.{LineError, TheVariants.BadShape, TheVariants.BadPrice}
use Rattle.text.specs.LineText.{Line, line_of}
use Rattle.input_lines.specs.Lines.{lines_of}
use Rattle.output_lines.specs.declared.output.Stop.{Stop, TheVariants.By, TheVariants.Price}
use Rattle.output_lines.specs.Output.{row_lines, refusal_line}

-- ---- a line of input

-- what a line prints, the box after it, and whether the program stops there
pub record Step : Type 0 where
  pub printed : List ℕ
  pub after : BarBox
  pub stops : Bool

-- a refused line leaves the box; its ordinal is one more than the bars before
abbrev pub refused_step : BarBox → Stop → Step
refused_step b stop = record { printed = refusal_line (b.count + 1) (Some stop); after = b; stops = true }

-- an accepted bar prints its rows, a refused one the refusal, and stops
abbrev pub judged_of : Verdict → BarBox → List ℕ → BarBox → Step
judged_of (Ok tt) b sheet after = record { printed = row_lines (b.count + 1) 0 sheet; after = after; stops = false }
judged_of (Err r) b sheet after = refused_step b (By r)

-- a bar is fed by itself, with a sheet for its row
unfoldable pub fed_step : BarBox → Bar → Step
fed_step b bar =
    judged_of (fed_of b (prices_of (bar ∷ [])) row_bytes).verdict b (sheet_of b (prices_of (bar ∷ [])) (replicate row_bytes 0)) (fed_of b (prices_of (bar ∷ [])) row_bytes).after

-- what a line that is no bar is refused by
abbrev pub stop_by : LineError → Stop
stop_by BadShape = By refusal.BadShape
stop_by (BadPrice place) = Price place

-- a line is read as text first, then fed as one bar
abbrev pub read_step : BarBox → Line → Step
read_step b (Ok bar) = fed_step b bar
read_step b (Err why) = refused_step b (stop_by why)

unfoldable pub line_step : BarBox → List ℕ → Step
line_step b line = read_step b (line_of line)

-- ---- the program

-- what lines print, one after the other, up to the first that stops
unfoldable pub printed_of : BarBox → List (List ℕ) → List ℕ
printed_of b [] = []
printed_of b (line ∷ lines) = (line_step b line).printed ++ cond (line_step b line).stops [] (printed_of (line_step b line).after lines)

-- what an input prints, with the standard set
abbrev pub output_of : List ℕ → List ℕ
output_of input = printed_of (fresh_box standard_set) (lines_of input)
