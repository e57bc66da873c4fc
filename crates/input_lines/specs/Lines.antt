-- "The other ways in", text: a line ends before a line feed or at the input's end; an empty line is a line, but after a line feed that ends
-- the input no further line begins.
use Rattle.std.specs.Prelude.{ℕ, suc, ◌-◌, Bool, cond, not, List, [], ◌∷◌, ◌++◌, eqb, length, take, replicate}
use Rattle.rule_types.specs.Number.{longest_line}
use Rattle.input_lines.specs.declared.lines.Partial.{Partial}

-- what ends a line, and what stands between two fields of one
abbrev pub line_feed : ℕ
line_feed = 10

abbrev pub comma : ℕ
comma = 44

-- the pieces of bytes between separators, where the first piece has begun with the bytes cur: one more than there are separators
unfoldable pub pieces_from : ℕ → List ℕ → List ℕ → List (List ℕ)
pieces_from sep cur [] = cur ∷ []
pieces_from sep cur (b ∷ bs) = cond (eqb b sep) (cur ∷ pieces_from sep [] bs) (pieces_from sep (cur ++ (b ∷ [])) bs)

abbrev pub pieces_of : ℕ → List ℕ → List (List ℕ)
pieces_of sep s = pieces_from sep [] s

-- pieces without an empty one at their end
unfoldable pub ended_lines : List (List ℕ) → List (List ℕ)
ended_lines [] = []
ended_lines ([] ∷ []) = []
ended_lines ((b ∷ bs) ∷ []) = (b ∷ bs) ∷ []
ended_lines (l ∷ m ∷ ls) = l ∷ ended_lines (m ∷ ls)

-- the lines of an input, where the first has begun with the bytes cur
abbrev pub lines_from : List ℕ → List ℕ → List (List ℕ)
lines_from cur s = ended_lines (pieces_from line_feed cur s)

-- the lines of an input
abbrev pub lines_of : List ℕ → List (List ℕ)
lines_of s = lines_from [] s

-- ---- the code's helpers: where a piece ends, and a line of which only the first bytes are kept

-- how many bytes that pass a test the bytes begin with
unfoldable pub run_of : (ℕ → Bool) → List ℕ → ℕ
run_of p [] = 0
run_of p (b ∷ bs) = cond (p b) (suc (run_of p bs)) 0

-- how many bytes come before the first separator
abbrev pub piece_end : ℕ → List ℕ → ℕ
piece_end sep s = run_of (λ b. not (eqb b sep)) s

-- the bytes of a line that are kept: one more than a line may have, which are enough to tell
abbrev pub kept_line : List ℕ → List ℕ
kept_line s = take (suc longest_line) s

abbrev pub content : Partial → List ℕ
content p = take p.len p.bytes

-- the line that has these bytes, and zeros behind them
unfoldable pub partial_of : List ℕ → Partial
partial_of l = record { bytes = l ++ replicate (suc longest_line - length l) 0; len = length l }
