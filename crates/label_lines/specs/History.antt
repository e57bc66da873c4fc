-- "The labels program": what it prints for an input, said of the whole history up to each bar, without the box.
use Rattle.text.specs.LineText.{Line}
use Rattle.std.specs.Prelude.{ℕ, ◌+◌, cond, List, [], ◌∷◌, ◌++◌, ltb, length, Some, Ok, Err}
use Rattle.measures.specs.Bar.{Bar}
use Rattle.answers.specs.declared.refusals.Refusal.TheVariants as refusal
use Rattle.recognisers.specs.Number.{most_bars}
use Rattle.recognisers.specs.Threshold.{standard_set}
use Rattle.bar_box.specs.Sheet.{row_of}
use Rattle.text.specs.declared.line_text.LineError.TheVariants.{BadShape, BadPrice}
use Rattle.output_lines.specs.declared.output.Stop.TheVariants.{By, Price}
use Rattle.output_lines.specs.Output.{row_lines, refusal_line}

-- the lines of a history's newest bar: its ordinal is the history's count, its row is over the whole history
abbrev pub newest_lines : List Bar → List ℕ
newest_lines history = row_lines (length history) 0 (row_of standard_set (length history) history)

-- what lines print that follow a history: something for each bar, up to 1,000,000 of them, and at the end; the first line that is none, or
-- is one more, its refusal, after which nothing is printed
unfoldable pub lines_print : (List Bar → List ℕ) → (List Bar → List ℕ) → List Bar → List Line → List ℕ
lines_print each end history [] = end history
lines_print each end history (Ok bar ∷ lines) =
    cond (ltb (length history) most_bars)
    (each (history ++ (bar ∷ [])) ++ lines_print each end (history ++ (bar ∷ [])) lines)
    (refusal_line (length history + 1) (Some (By refusal.TooManyBars)))
lines_print each end history (Err BadShape ∷ lines) = refusal_line (length history + 1) (Some (By refusal.BadShape))
lines_print each end history (Err (BadPrice place) ∷ lines) = refusal_line (length history + 1) (Some (Price place))

-- this program prints the rows of each bar, over the history up to it
abbrev pub history_prints : List Bar → List Line → List ℕ
history_prints = lines_print newest_lines (λ h. [])
