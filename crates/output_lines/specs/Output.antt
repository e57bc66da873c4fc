-- Lines of output: the rows of a bar, refusals and counts, and what a buffer holds once one was written.
use Rattle.std.specs.Prelude.{ℕ, zero, suc, ◌+◌, ◌-◌, ◌*◌, ◌/◌, Bool, true, false, cond, List, [], ◌∷◌, ◌++◌, ◌≡◌, ltb, leb, eqb, length, Option, Some, None}
use Rattle.io.specs.Digits.{last_digits}
use Rattle.measures.specs.Bar.{overlay}
use Rattle.answers.specs.declared.refusals.Refusal.{Refusal}
use Rattle.answers.specs.declared.refusals.Refusal.TheVariants as refusal
use Rattle.recognisers.specs.Number.{recognisers}
use Rattle.recognisers.specs.Refusal.{refusal_number}
use Rattle.label_texts.specs.LabelText.{bytes_of}
use Rattle.input_lines.specs.Lines.{line_feed, comma}
use Rattle.output_lines.specs.declared.output.Stop.{Stop, TheVariants.By, TheVariants.Price}

-- ---- lines

-- how many decimal digits a number has, of which there are at most one more than the first argument
unfoldable pub digit_count : ℕ → ℕ → ℕ
digit_count zero n = 1
digit_count (suc most) n = cond (ltb n 10) 1 (suc (digit_count most (n / 10)))

-- a number below 2 to the power of 64 in decimal
unfoldable pub numeral : ℕ → List ℕ
numeral n = last_digits 10 (digit_count 19 n) n

-- bytes with the one that ends them
abbrev pub field : List ℕ → ℕ → List ℕ
field s end = s ++ end ∷ []

-- the bar's ordinal, recogniser, v1, v2
unfoldable pub row_line : ℕ → ℕ → ℕ → ℕ → List ℕ
row_line ordinal k v1 v2 = field (numeral ordinal) comma ++ field (numeral k) comma ++ field (bytes_of v1) comma ++ field (bytes_of v2) line_feed

-- the line of a recogniser, if its v1 isn't 其他
abbrev pub pair_line : ℕ → ℕ → ℕ → ℕ → List ℕ
pair_line ordinal k v1 v2 = cond (eqb v1 0) [] (row_line ordinal k v1 v2)

-- the lines of a bar whose sheet row has these codes, for the recognisers from k on
unfoldable pub row_lines : ℕ → ℕ → List ℕ → List ℕ
row_lines ordinal k [] = []
row_lines ordinal k (v1 ∷ []) = []
row_lines ordinal k (v1 ∷ v2 ∷ codes) = pair_line ordinal k v1 v2 ++ row_lines ordinal (k + 1) codes

-- the most bytes of a row, of a count's line and of a refusal's
abbrev pub longest_row : ℕ
longest_row = 74

abbrev pub longest_count : ℕ
longest_count = 58

abbrev pub longest_refusal : ℕ
longest_refusal = 71

-- the room for what a line may print: a row for each recogniser
abbrev pub line_room : ℕ
line_room = recognisers * longest_row

-- the bytes of the word refused
abbrev pub refused_word : List ℕ
refused_word = 114 ∷ 101 ∷ 102 ∷ 117 ∷ 115 ∷ 101 ∷ 100 ∷ []

-- the word, the line's ordinal, the refusal, and the byte behind it
unfoldable pub refusal_part : ℕ → Refusal → ℕ → List ℕ
refusal_part ordinal r end = field refused_word comma ++ field (numeral ordinal) comma ++ field (numeral (refusal_number r)) end

-- whether no line was refused
abbrev pub goes_on : Option Stop → Bool
goes_on None = true
goes_on (Some stop) = false

-- a refusal prints a line such as refused,3,8: the line's ordinal, the refusal; for a bad price it gains at its end the field's place:
-- refused,3,9,2
unfoldable pub refusal_line : ℕ → Option Stop → List ℕ
refusal_line ordinal None = []
refusal_line ordinal (Some (By r)) = refusal_part ordinal r line_feed
refusal_line ordinal (Some (Price place)) = refusal_part ordinal refusal.BadPrice comma ++ field (numeral place) line_feed

-- the recogniser, a label, and how many bars got it
unfoldable pub count_line : ℕ → ℕ → ℕ → List ℕ
count_line k code count = field (numeral k) comma ++ field (bytes_of code) comma ++ field (numeral count) line_feed

-- a line in so much room: all of it, or nothing where the room is less than such a line may need
abbrev pub line_in : ℕ → ℕ → List ℕ → List ℕ
line_in need room line = cond (leb need room) line []

-- ---- what a buffer holds

-- bytes were written over s from a place on: what it is then, and the place behind them
abbrev pub Written : List ℕ → ℕ → List ℕ → List ℕ → ℕ → Type 0
Written s at xs t i = (i ≡ at + length xs) × (t ≡ overlay s at xs)

-- the same of a line, where there is room for the longest of its kind
abbrev pub Printed : ℕ → List ℕ → List ℕ → ℕ → List ℕ → ℕ → Type 0
Printed need line s at t i = Written s at (line_in need (length s - at) line) t i
