-- Numbers into a table, and a table into numbers. Assumes nothing.
use Prim.Native.Nat.{ℕ, zero, suc, ◌+◌, ◌/◌, ◌%◌, ◌<◌}
use mathlib.Core.List.{List, map}
use mathlib.Core.Path.{◌≡◌, refl, ◌∙◌}
use native.Mathlib.Omega.{arith}
use lib.ListN.{length, get_or, replicate, length-replicate}
use Rattle.recognisers.specs.Number.{labels}
use Rattle.tallies.specs.declared.table.TallyRow.{TallyRow}
use Rattle.std.specs.List.{range_with_len}
use Rattle.tallies.specs.Tally.{by_place, cell_of}
use Rattle.tallies.specs.Count.{cells}
use Rattle.tallies.proofs.PlaceLaws.{length-places, at_place}
use Rattle.exports.specs.Tally.{numbers_of}

-- a list of one value, each place changed
pub places-made : {A : Type 0} (f : ℕ → A → A) (h : ℕ → A) (z : A) (i n : ℕ) → ((j : ℕ) → f j z ≡ h j) → map h (range_with_len i n) ≡ by_place f i (replicate n z)
unfolding by_place
places-made f h z i zero e = refl
places-made f h z i (suc n) e = rw (e i, places-made f h z (i + 1) n e)

pub length-numbers : (tally : List TallyRow) → length (numbers_of tally) ≡ cells
unfolding numbers_of
length-numbers tally = length-places {A = ℕ} (λ i n. cell_of tally (i / labels) (i % labels)) 0 (replicate cells 0) ∙ length-replicate {A = ℕ} cells 0

pub number_of : (tally : List TallyRow) (i : ℕ) → i < cells → get_or (numbers_of tally) i 0 ≡ cell_of tally (i / labels) (i % labels)
unfolding numbers_of
number_of tally i h =
    let first : 0 + i ≡ i = omega arith in
    at_place {A = ℕ} (λ i n. cell_of tally (i / labels) (i % labels)) 0 (replicate cells 0) i 0 (rw (length-replicate {A = ℕ} cells 0) h) ∙ rw first
