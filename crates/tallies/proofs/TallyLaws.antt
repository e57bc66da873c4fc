-- Rows and what they add up to, and cells that gain a number. Assumes nothing.
use Prim.Native.Nat.{ℕ, zero, suc, ◌+◌, ◌≤◌, ◌<◌}
use mathlib.Core.Bool.{Bool, true, false, cond, and-eq-true_iff}
use mathlib.Core.List.{List, [], ◌∷◌}
use mathlib.Core.Path.{◌≡◌, refl, ap, ◌∙◌}
use native.Mathlib.Nat.{add-zero, add_assoc, not-suc-le-zero}
use native.Mathlib.Omega.{arith}
use borrow.Author.Tests.{eqb-true, eq-eqb, ne_eqb, eqb-false}
use lib.Dec.{eqb}
use lib.ListN.{length, get_or}
use Rattle.std.proofs.lemmas.List.Sums.{sum_by-cons}
use Rattle.tallies.specs.declared.table.TallyRow.{TallyRow}
use Rattle.tallies.specs.Tally.{row_of_counts, counts_of, total_of, adds_up, by_place, gain_row, gained}
use Rattle.tallies.proofs.PlaceLaws.{at_place, same-places, place-place, places-kept, places-past}

-- ---- what a row adds up to

total-cons : (count : ℕ) (counts : List ℕ) → total_of (count ∷ counts) ≡ count + total_of counts
unfolding total_of
total-cons count counts = sum_by-cons (λ x. x) count counts

-- no count is more than its row's total
pub cell-total : (counts : List ℕ) (c : ℕ) → get_or counts c 0 ≤ total_of counts
cell-total [] c = omega arith
cell-total (x ∷ counts) zero = omega (arith, total-cons x counts)
cell-total (x ∷ counts) (suc c) = omega (arith, total-cons x counts, cell-total counts c)

-- ---- whether each row adds up to n

pub row-adds : (n : ℕ) (tally : List TallyRow) → adds_up n tally ≡ true → (k : ℕ) → k < length tally → total_of (counts_of tally k) ≡ n
unfolding adds_up
row-adds n [] e k h = absurd (not-suc-le-zero h)
row-adds n (row ∷ tally) e zero h = eqb-true _ _ ((and-eq-true_iff (eqb (total_of row.counts) n) (adds_up n tally)).0 e).0
row-adds n (row ∷ tally) e (suc k) h = row-adds n tally ((and-eq-true_iff (eqb (total_of row.counts) n) (adds_up n tally)).0 e).1 k (omega arith)

pub rows-add : (n : ℕ) (tally : List TallyRow) → ((k : ℕ) → k < length tally → total_of (counts_of tally k) ≡ n) → adds_up n tally ≡ true
unfolding adds_up
rows-add n [] each = refl
rows-add n (row ∷ tally) each = rw (eq-eqb _ _ (each 0 (omega arith)), rows-add n tally (λ k h. each (suc k) (omega arith)))

-- ---- gains

-- one gain after the other
pub gain-gain : (f g : ℕ → ℕ) (counts : List ℕ) → gain_row g (gain_row f counts) ≡ gain_row (λ c. f c + g c) counts
gain-gain f g counts =
    place-place (λ c count. count + f c) (λ c count. count + g c) 0 counts
    ∙ same-places (λ c count. count + f c + g c) (λ c count. count + (f c + g c)) 0 0 counts (λ c h. add_assoc (get_or counts c 0) (f (0 + c)) (g (0 + c)))

-- no gain
pub gain-none : (counts : List ℕ) → gain_row (λ c. 0) counts ≡ counts
gain-none counts = places-kept (λ c count. count + 0) 0 counts (λ c x. add-zero x)

-- a row that gains one at one of its codes adds up to one more
ones : (v c : ℕ) (counts : List ℕ) → c ≤ v → v < c + length counts → total_of (by_place (λ i count. count + cond (eqb v i) 1 0) c counts) ≡ total_of counts + 1
unfolding by_place
ones v c [] from below = absurd (let z : ⊥ = omega arith in z)
ones v c (x ∷ counts) from below =
    rw (total-cons (x + cond (eqb v c) 1 0) (by_place (λ i count. count + cond (eqb v i) 1 0) (c + 1) counts), total-cons x counts)
    (go (eqb v c) refl (λ later. ones v (c + 1) counts later (omega arith)))
  where
    go : (t : Bool) → eqb v c ≡ t → (c + 1 ≤ v → total_of (by_place (λ i count. count + cond (eqb v i) 1 0) (c + 1) counts) ≡ total_of counts + 1)
        → x + cond t 1 0 + total_of (by_place (λ i count. count + cond (eqb v i) 1 0) (c + 1) counts) ≡ x + total_of counts + 1
    go true e rest =
        let is : v ≡ c = eqb-true v c e in
        let past : (i count : ℕ) → c + 1 ≤ i → count + cond (eqb v i) 1 0 ≡ count = λ i count h. rw (ne_eqb v i (λ e. omega arith)) (add-zero count) in
        rw (places-past (λ i count. count + cond (eqb v i) 1 0) (c + 1) counts past) (omega arith)
    go false e rest = let other = eqb-false v c e in omega (arith, rest (omega arith))

pub total-one : (v : ℕ) (counts : List ℕ) → v < length counts → total_of (gain_row (λ c. cond (eqb v c) 1 0) counts) ≡ total_of counts + 1
total-one v counts below = ones v 0 counts (omega arith) (omega arith)

-- ---- the same of a table

-- the counts of a recogniser
pub counts-gained : (more : ℕ → ℕ → ℕ) (tally : List TallyRow) (k : ℕ) → k < length tally → counts_of (gained more tally) k ≡ gain_row (more k) (counts_of tally k)
counts-gained more tally k h =
    let from_first : 0 + k ≡ k = omega arith in
    ap (λ (row : TallyRow). row.counts) (at_place (λ k row. row_of_counts (gain_row (more k) row.counts)) 0 tally k (row_of_counts []) h) ∙ rw from_first

-- the same numbers give the same table
pub gained-same : (f g : ℕ → ℕ → ℕ) (tally : List TallyRow) → ((k c : ℕ) → k < length tally → c < length (counts_of tally k) → f k c ≡ g k c) → gained f tally ≡ gained g tally
gained-same f g tally same =
    same-places (λ k row. row_of_counts (gain_row (f k) row.counts)) (λ k row. row_of_counts (gain_row (g k) row.counts)) (row_of_counts []) 0 tally (λ k h.
    let from_first : 0 + k ≡ k = omega arith in
    let row : gain_row (f k) (counts_of tally k) ≡ gain_row (g k) (counts_of tally k) =
    same-places (λ c count. count + f k c) (λ c count. count + g k c) 0 0 (counts_of tally k) (λ c w. let from : 0 + c ≡ c = omega arith in rw (from, same k c h w)) in
    rw (from_first, row))

pub gained-gained : (f g : ℕ → ℕ → ℕ) (tally : List TallyRow) → gained g (gained f tally) ≡ gained (λ k c. f k c + g k c) tally
gained-gained f g tally =
    place-place (λ k row. row_of_counts (gain_row (f k) row.counts)) (λ k row. row_of_counts (gain_row (g k) row.counts)) 0 tally
    ∙ same-places (λ k row. row_of_counts (gain_row (g k) (gain_row (f k) row.counts))) (λ k row. row_of_counts (gain_row (λ c. f k c + g k c) row.counts)) (row_of_counts []) 0 tally
    (λ k h. rw (gain-gain (f (0 + k)) (g (0 + k)) (counts_of tally k)))
