-- "A tally of labels for each instrument": the table, and what counting the rows of a sheet makes of it.
use Rattle.std.specs.Prelude.{ℕ, zero, suc, ◌+◌, ◌*◌, ◌/◌, ◌<◌, Bool, cond, List, [], ◌∷◌, ◌≡◌, ◌==◌, eqb, length, get_or, sum, replicate}
use Rattle.std.specs.List.{list_all}
use Rattle.recognisers.specs.Number.{recognisers, labels, row_bytes}
use Rattle.tallies.specs.declared.table.TallyRow.{TallyRow}

-- ---- the table

-- a row has a count for each label, by its code
abbrev pub row_of_counts : List ℕ → TallyRow
row_of_counts counts = record { counts = counts }

-- a fresh table is all zeros
unfoldable pub fresh_tally : List TallyRow
fresh_tally = replicate recognisers (row_of_counts (replicate labels 0))

-- the counts of recogniser k; its count of code c
abbrev pub counts_of : List TallyRow → ℕ → List ℕ
counts_of tally k = (get_or tally k (row_of_counts [])).counts

abbrev pub cell_of : List TallyRow → ℕ → ℕ → ℕ
cell_of tally k c = get_or (counts_of tally k) c 0

-- eighteen rows of thirty-eight counts, as the table's type has them
abbrev pub Shaped : List TallyRow → Type 0
Shaped tally = (length tally ≡ recognisers) × ((k : ℕ) → k < recognisers → length (counts_of tally k) ≡ labels)

-- what the counts of a row add up to
unfoldable pub total_of : List ℕ → ℕ
total_of counts = sum counts

-- whether each row adds up to n
unfoldable pub adds_up : ℕ → List TallyRow → Bool
adds_up n tally = list_all (λ row. total_of row.counts == n) tally

-- ---- the rows of a sheet

-- how many of the numbers below n pass a test
unfoldable pub count_below : (ℕ → Bool) → ℕ → ℕ
count_below test zero = 0
count_below test (suc n) = count_below test n + cond (test n) 1 0

-- v1 of recogniser k in the i-th row, from 0
abbrev pub v1_in : List ℕ → ℕ → ℕ → ℕ
v1_in rows i k = get_or rows (row_bytes * i + 2 * k) 0

-- how many of the first n rows have code c as v1 of recogniser k; how many of all
abbrev pub first_with : List ℕ → ℕ → ℕ → ℕ → ℕ
first_with rows n k c = count_below (λ i. eqb (v1_in rows i k) c) n

unfoldable pub rows_with : List ℕ → ℕ → ℕ → ℕ
rows_with rows k c = first_with rows (length rows / row_bytes) k c

-- ---- counting

-- each element is changed by its place, from i on
unfoldable pub by_place : {A : Type 0} → (ℕ → A → A) → ℕ → List A → List A
by_place f i [] = []
by_place f i (x ∷ xs) = f i x ∷ by_place f (i + 1) xs

-- each count of a row gains a number, by its code; and each row of a table, by its recogniser
abbrev pub gain_row : (ℕ → ℕ) → List ℕ → List ℕ
gain_row more counts = by_place (λ c count. count + more c) 0 counts

abbrev pub gained : (ℕ → ℕ → ℕ) → List TallyRow → List TallyRow
gained more tally = by_place (λ k row. row_of_counts (gain_row (more k) row.counts)) 0 tally

-- each cell gains the number of rows that have its code as v1 of its recogniser
unfoldable pub counted : List ℕ → List TallyRow → List TallyRow
counted rows tally = gained (rows_with rows) tally
