-- Counting, as the code has it: numbers in one run, those of recogniser k from labels × k on. Serves the code alone; no public contract
-- cites it.
use Rattle.std.specs.Prelude.{ℕ, ◌+◌, ◌*◌, ◌/◌, ◌<◌, List, ◌≡◌, length, get_or}
use Rattle.recognisers.specs.Number.{recognisers, labels, row_bytes}
use Rattle.tallies.specs.Count.{cells}
use Rattle.tallies.specs.Tally.{v1_in, first_with}

-- each row has a label's code as v1 of each recogniser
abbrev pub Known : List ℕ → Type 0
Known rows = (i k : ℕ) → i < length rows / row_bytes → k < recognisers → v1_in rows i k < labels

-- the numbers count the first n rows
abbrev pub Counted : List ℕ → ℕ → List ℕ → Type 0
Counted rows n numbers =
    (length numbers ≡ cells) × ((k c : ℕ) → k < recognisers → c < labels → get_or numbers (labels * k + c) 0 ≡ first_with rows n k c)

-- the numbers of recogniser k, added to these counts, stay within 32 bits
abbrev pub Fits : List ℕ → ℕ → List ℕ → Type 0
Fits numbers k counts = (c : ℕ) → c < labels → get_or counts c 0 + get_or numbers (labels * k + c) 0 < 4294967296
