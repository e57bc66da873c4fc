-- How many of the numbers below n pass a test, and rows of a sheet that have a code. Assumes nothing.
use Prim.Native.Nat.{ℕ, zero, suc, ◌+◌, ◌*◌, ◌/◌, ◌≤◌, ◌<◌}
use mathlib.Core.Bool.{Bool, true, false, cond}
use mathlib.Core.List.{List, ◌++◌}
use mathlib.Core.Path.{◌≡◌, refl, sym, ◌∙◌}
use native.Mathlib.Nat.{add-zero, add_assoc}
use native.Mathlib.Numerals.{add-one}
use native.Mathlib.Omega.{arith}
use borrow.Author.Tests.{eqb-true, eqb-false, ltb-true, ltb-false, lt-ltb, le-ltb}
use lib.Dec.{ltb, eqb}
use lib.ListN.{length, get_or, set, length-append, replicate, length-set, length-replicate, get_or-replicate, get_or-append}
use lib.Seq.{get_or-set_same, get_or-set_other, get_or-append-add}
use Rattle.recognisers.specs.Number.{recognisers, labels, row_bytes}
use Rattle.tallies.specs.Tally.{total_of, count_below, v1_in, first_with, rows_with, gain_row}
use Rattle.tallies.specs.Count.{cells}
use Rattle.tallies.specs.CountSteps.{Counted}
use Rattle.tallies.proofs.PlaceLaws.{length-places}
use Rattle.tallies.proofs.TallyLaws.{gain-gain, gain-none, total-one}

-- ---- numbers that pass a test

pub count_most : (test : ℕ → Bool) (n : ℕ) → count_below test n ≤ n
unfolding count_below
count_most test zero = omega arith
count_most test (suc n) = go (test n) (count_most test n)
  where
    go : (t : Bool) → count_below test n ≤ n → count_below test n + cond t 1 0 ≤ suc n
    go true h = omega arith
    go false h = omega arith

pub count_same : (f g : ℕ → Bool) (n : ℕ) → ((i : ℕ) → i < n → f i ≡ g i) → count_below f n ≡ count_below g n
unfolding count_below
count_same f g zero same = refl
count_same f g (suc n) same = rw (count_same f g n (λ i h. same i (omega arith)), same n (omega arith))

pub count-append : (test : ℕ → Bool) (m n : ℕ) → count_below test (m + n) ≡ count_below test m + count_below (λ i. test (m + i)) n
unfolding count_below
count-append test m zero = rw (add-zero m, add-zero (count_below test m))
count-append test m (suc n) =
    let next : m + suc n ≡ suc (m + n) = omega arith in
    rw (next, count-append test m n, add_assoc (count_below test m) (count_below (λ i. test (m + i)) n) (cond (test (m + n)) 1 0))

-- ---- what counted codes add up to

-- the codes of n bars, each within a row, add n to its total
pub total-counted : (code : ℕ → ℕ) (n : ℕ) (counts : List ℕ) → ((i : ℕ) → i < n → code i < length counts)
    → total_of (gain_row (λ c. count_below (λ i. eqb (code i) c) n) counts) ≡ total_of counts + n
unfolding count_below
total-counted code zero counts known = rw (gain-none counts, add-zero (total_of counts))
total-counted code (suc n) counts known =
    let before = gain_row (λ c. count_below (λ i. eqb (code i) c) n) counts in
    let size : length before ≡ length counts = length-places (λ c count. count + count_below (λ i. eqb (code i) c) n) 0 counts in
    let last = known n (omega arith) in
    rw (← gain-gain (λ c. count_below (λ i. eqb (code i) c) n) (λ c. cond (eqb (code n) c) 1 0) counts)
    (total-one (code n) before (omega arith) ∙ omega (arith, total-counted code n counts (λ i h. known i (omega arith))))

-- ---- rows of a sheet

-- one row after the other
pub with_append : (xs ys : List ℕ) (m : ℕ) → length xs ≡ row_bytes * m → (k c : ℕ) → k < recognisers → rows_with (xs ++ ys) k c ≡ rows_with xs k c + rows_with ys k c
unfolding rows_with
with_append xs ys m size k c known =
    let all : length (xs ++ ys) / row_bytes ≡ m + length ys / row_bytes = rw length-append (omega arith) in
    let front : length xs / row_bytes ≡ m = omega arith in
    let n = length ys / row_bytes in
    let first = count_same (λ i. eqb (v1_in (xs ++ ys) i k) c) (λ i. eqb (v1_in xs i k) c) m
    (λ i h. rw (get_or-append xs ys 0 (row_bytes * i + 2 * k) (omega arith))) in
    let second = count_same (λ i. eqb (v1_in (xs ++ ys) (m + i) k) c) (λ i. eqb (v1_in ys i k) c) n
    (λ i h. let at : row_bytes * (m + i) + 2 * k ≡ length xs + (row_bytes * i + 2 * k) = omega arith in rw (at, get_or-append-add xs ys (row_bytes * i + 2 * k) 0)) in
    rw (all, front, count-append (λ i. eqb (v1_in (xs ++ ys) i k) c) m n, first, second)

-- ---- counting row by row, in one run of numbers

-- before the first row all are zeros
pub none-counted : (rows : List ℕ) → Counted rows 0 (replicate {A = ℕ} cells 0)
unfolding count_below
none-counted rows = (length-replicate {A = ℕ} cells 0, λ k c known label. get_or-replicate {A = ℕ} cells (labels * k + c) 0 0 (omega arith))

-- the numbers count the first i rows, and of the recognisers below k one row more
abbrev pub Passed : List ℕ → ℕ → ℕ → List ℕ → Type 0
Passed rows i k numbers =
    (length numbers ≡ cells) × ((j c : ℕ) → j < recognisers → c < labels → get_or numbers (labels * j + c) 0 ≡ first_with rows (cond (ltb j k) (i + 1) i) j c)

pub none_passed : (rows : List ℕ) (i : ℕ) (numbers : List ℕ) → Counted rows i numbers → Passed rows i 0 numbers
none_passed rows i numbers h = (h.0, λ j c known label. rw (le-ltb j 0 (omega arith)) (h.1 j c known label))

pub all-passed : (rows : List ℕ) (i : ℕ) (numbers : List ℕ) → Passed rows i recognisers numbers → Counted rows (i + 1) numbers
all-passed rows i numbers h = (h.0, λ j c known label. rw (lt-ltb j recognisers known) at (h.1 j c known label))

-- a number that isn't k is below k + 1 exactly if it is below k
beside : (j k : ℕ) (t : Bool) → ltb j k ≡ t → (j ≡ k → ⊥) → ltb j (k + 1) ≡ ltb j k
beside j k true e differ = rw (e, lt-ltb j (k + 1) (omega (arith, ltb-true j k e)))
beside j k false e differ = rw (e, le-ltb j (k + 1) (omega (arith, ltb-false j k e)))

module _ (rows : List ℕ) (i k : ℕ) (numbers : List ℕ) (h : Passed rows i k numbers) (known : k < recognisers) (label : v1_in rows i k < labels) where
  -- where the next row is counted
  abbrev place : ℕ
  place = labels * k + v1_in rows i k

  -- its number is not more than the rows before
  pub number-most : get_or numbers place 0 ≤ i
  number-most = rw (h.1 k (v1_in rows i k) known label, le-ltb k k (omega arith)) (count_most (λ r. eqb (v1_in rows r k) (v1_in rows i k)) i)

  one-row : (c : ℕ) → first_with rows (i + 1) k c ≡ first_with rows i k c + cond (eqb (v1_in rows i k) c) 1 0
  unfolding count_below
  one-row c = rw (add-one i)

  pub next-passed : Passed rows i (k + 1) (set numbers place (get_or numbers place 0 + 1))
  next-passed = (rw length-set h.0, λ j c one two. go j c one two (eqb j k) refl (eqb (v1_in rows i k) c) refl)
    where
      go : (j c : ℕ) → j < recognisers → c < labels → (t : Bool) → eqb j k ≡ t → (u : Bool) → eqb (v1_in rows i k) c ≡ u
          → get_or (set numbers place (get_or numbers place 0 + 1)) (labels * j + c) 0 ≡ first_with rows (cond (ltb j (k + 1)) (i + 1) i) j c
      go j c one two true e true f =
          let same : j ≡ k = eqb-true j k e in
          let is : v1_in rows i k ≡ c = eqb-true (v1_in rows i k) c f in
          let here : labels * j + c ≡ place = omega arith in
          let had : get_or numbers place 0 ≡ first_with rows i k c = rw (← is) (rw (le-ltb k k (omega arith)) at (h.1 k (v1_in rows i k) known label)) in
          rw (here, get_or-set_same numbers place (get_or numbers place 0 + 1) 0 (omega (arith, h.0)), same, lt-ltb k (k + 1) (omega arith), one-row c, f, had)
      go j c one two true e false f =
          let same : j ≡ k = eqb-true j k e in
          let other : labels * j + c ≡ place → ⊥ = λ q. eqb-false (v1_in rows i k) c f (omega arith) in
          rw (get_or-set_other numbers place (labels * j + c) (get_or numbers place 0 + 1) 0 other, h.1 j c one two, same, lt-ltb k (k + 1) (omega arith), le-ltb k k (omega arith), one-row c, f) (sym (add-zero (first_with rows i k c)))
      go j c one two false e u f =
          let differ = eqb-false j k e in
          let other : labels * j + c ≡ place → ⊥ = λ q. differ (omega arith) in
          rw (get_or-set_other numbers place (labels * j + c) (get_or numbers place 0 + 1) 0 other, h.1 j c one two, beside j k (ltb j k) refl differ)
