-- A table with the rows of a sheet counted: its shape, what it adds up to, and rows counted one run after the other. Assumes nothing.
use Prim.Native.Nat.{ℕ, zero, suc, ◌+◌, ◌*◌, ◌/◌, ◌<◌}
use mathlib.Core.Bool.{true}
use mathlib.Core.List.{List, [], ◌∷◌, ◌++◌}
use mathlib.Core.Path.{◌≡◌, refl, ap, sym, ◌∙◌}
use native.Mathlib.Omega.{arith}
use lib.ListN.{length, get_or, replicate, get_or-replicate}
use Rattle.measures.specs.Bar.{Bar}
use Rattle.recognisers.proofs.CodeLaws.{code-known}
use Rattle.recognisers.specs.Label.{Pair}
use Rattle.recognisers.specs.Number.{recognisers, labels, row_bytes}
use Rattle.recognisers.specs.Table.{pairs_at, codes_of}
use Rattle.recognisers.specs.Threshold.{Thresholds}
use Rattle.bar_box.specs.Sheet.{row_of, rows_of}
use Rattle.tallies.specs.declared.table.TallyRow.{TallyRow}
use Rattle.tallies.specs.Tally.{fresh_tally, row_of_counts, counts_of, cell_of, Shaped, total_of, adds_up, count_below, v1_in, rows_with, by_place, gain_row, counted}
use Rattle.tallies.specs.CountSteps.{Known}
use Rattle.tallies.proofs.PlaceLaws.{length-places, places-kept}
use Rattle.tallies.proofs.TallyLaws.{row-adds, rows-add, gain-none, counts-gained, gained-same, gained-gained}
use Rattle.tallies.proofs.CountLaws.{total-counted, with_append}

-- ---- each byte of a row is a label's code

bytes-append : (xs ys : List ℕ) → ((i : ℕ) → get_or xs i 0 < labels) → ((i : ℕ) → get_or ys i 0 < labels) → (i : ℕ) → get_or (xs ++ ys) i 0 < labels
bytes-append [] ys front back i = back i
bytes-append (x ∷ xs) ys front back zero = front zero
bytes-append (x ∷ xs) ys front back (suc i) = bytes-append xs ys (λ j. front (suc j)) back i

codes-known : (ps : List Pair) (i : ℕ) → get_or (codes_of ps) i 0 < labels
unfolding codes_of
codes-known [] i = omega arith
codes-known (p ∷ ps) zero = code-known p.v1
codes-known (p ∷ ps) (suc zero) = code-known p.v2
codes-known (p ∷ ps) (suc (suc i)) = codes-known ps i

bytes-known : (t : Thresholds) (n : ℕ) (h bars : List Bar) (i : ℕ) → get_or (rows_of t n h bars) i 0 < labels
unfolding rows_of row_of
bytes-known t n h [] i = omega arith
bytes-known t n h (b ∷ bars) i =
    let more = h ++ (b ∷ []) in
    bytes-append (row_of t (n + 1) more) (rows_of t (n + 1) more bars) (codes-known (pairs_at t (n + 1) more 1)) (bytes-known t (n + 1) more bars) i

pub rows-known : (t : Thresholds) (n : ℕ) (h bars : List Bar) → Known (rows_of t n h bars)
rows-known t n h bars i k within known = bytes-known t n h bars (row_bytes * i + 2 * k)

-- ---- the fresh table

pub fresh-shaped : Shaped fresh_tally
unfolding fresh_tally
fresh-shaped = (refl, λ k known. ap (λ (row : TallyRow). length row.counts) (get_or-replicate recognisers k (row_of_counts (replicate labels 0)) (row_of_counts []) known))

pub fresh-cell : (k c : ℕ) → k < recognisers → c < labels → cell_of fresh_tally k c ≡ 0
unfolding fresh_tally
fresh-cell k c known label =
    ap (λ (row : TallyRow). get_or row.counts c 0) (get_or-replicate recognisers k (row_of_counts (replicate labels 0)) (row_of_counts []) known) ∙ get_or-replicate {A = ℕ} labels c 0 0 label

pub fresh-adds : adds_up 0 fresh_tally ≡ true
unfolding fresh_tally adds_up total_of
fresh-adds = refl

-- ---- counted rows

-- of no rows
pub none-counted : (tally : List TallyRow) → counted [] tally ≡ tally
unfolding counted rows_with count_below
none-counted tally = places-kept (λ k row. row_of_counts (gain_row (λ c. 0) row.counts)) 0 tally (λ k row. ap row_of_counts (gain-none row.counts))

module _ (tally : List TallyRow) (shaped : Shaped tally) where
  pub counted-shaped : (rows : List ℕ) → Shaped (counted rows tally)
  unfolding counted
  counted-shaped rows = (
    length-places _ 0 tally ∙ shaped.0,
    λ k known. rw (counts-gained (rows_with rows) tally k (omega (arith, shaped.0))) (length-places (λ c count. count + rows_with rows k c) 0 (counts_of tally k) ∙ shaped.1 k known),
  )

  -- each row has n more
  pub counted-adds : (rows : List ℕ) (n : ℕ) → Known rows → adds_up n tally ≡ true → adds_up (n + length rows / row_bytes) (counted rows tally) ≡ true
  unfolding counted rows_with
  counted-adds rows n known adds =
      rows-add (n + length rows / row_bytes) (counted rows tally) (λ k h.
      let inside : k < length tally = omega (arith, length-places (λ k row. record { counts = by_place (λ c count. count + rows_with rows k c) 0 row.counts }) 0 tally) in
      let mine : k < recognisers = omega (arith, shaped.0) in
      rw (counts-gained (rows_with rows) tally k inside)
      (total-counted (λ i. v1_in rows i k) (length rows / row_bytes) (counts_of tally k) (λ i w. let is = shaped.1 k mine in omega (arith, known i k w mine)) ∙ rw (row-adds n tally adds k inside)))

  -- the rows of two runs, one after the other
  pub counted-append : (xs ys : List ℕ) (m : ℕ) → length xs ≡ row_bytes * m → counted ys (counted xs tally) ≡ counted (xs ++ ys) tally
  unfolding counted
  counted-append xs ys m size =
      gained-gained (rows_with xs) (rows_with ys) tally
      ∙ gained-same (λ k c. rows_with xs k c + rows_with ys k c) (rows_with (xs ++ ys)) tally (λ k c h w. sym (with_append xs ys m size k c (omega (arith, shaped.0))))
