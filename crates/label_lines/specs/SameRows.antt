-- What an input prints beside what it printed while refusal 8 was for bad prices too, as in 01's own words for it: nothing else, but for
-- the line of a bad price. proofs/SameRows.antt shows it of every input.
use Rattle.std.specs.Prelude.{ℕ, List, [], ◌++◌, map, ◌⊎◌, ◌≡◌, Some, Ok, Err}
use Rattle.answers.specs.declared.refusals.Refusal.TheVariants as refusal
use Rattle.text.specs.declared.line_text.LineError.TheVariants.{BadShape, BadPrice}
use Rattle.text.specs.LineText.{Line, line_of}
use Rattle.input_lines.specs.Lines.{lines_of}
use Rattle.output_lines.specs.declared.output.Stop.TheVariants.{By, Price}
use Rattle.output_lines.specs.Output.{refusal_line}
use Rattle.label_lines.specs.Output.{output_of}
use Rattle.label_lines.specs.History.{history_prints}

-- a line of which it is said no more than 8
abbrev pub by8 : Line → Line
by8 (Ok bar) = Ok bar
by8 (Err BadShape) = Err BadShape
by8 (Err (BadPrice place)) = Err BadShape

-- the same, or the same up to the refusal of the same line, which has a bad price
abbrev pub Same : List ℕ → List ℕ → Type 0
Same now then =
    (now ≡ then)
    ⊎ ((rows : List ℕ) × (ordinal : ℕ) × (place : ℕ) × (now ≡ rows ++ refusal_line ordinal (Some (Price place))) × (then ≡ rows ++ refusal_line ordinal (Some (By refusal.BadShape))))

abbrev pub SameRows : List ℕ → Type 0
SameRows input = Same (output_of input) (history_prints [] (map by8 (map line_of (lines_of input))))
