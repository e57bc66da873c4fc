-- Bars taken in and counted in two parts, one after the other, for every box and tally. Assumes nothing.
use Prim.Native.Nat.{ℕ, ◌+◌, ◌/◌}
use mathlib.Core.Bool.{true}
use mathlib.Core.List.{List, ◌++◌}
use mathlib.Core.Path.{◌≡◌, ap, sym, ◌∙◌}
use native.Mathlib.Omega.{arith}
use lib.ListN.{length}
use Rattle.measures.specs.Bar.{Bar}
use Rattle.recognisers.specs.Number.{row_bytes, places}
use Rattle.box_record.specs.declared.boxes.BarBox.{BarBox}
use Rattle.bar_box.specs.Box.{kept, taken_in}
use Rattle.bar_box.proofs.SheetLaws.{length-rows}
pub use Rattle.bar_box.proofs.PartLaws.{rows_from}
use Rattle.bar_box.proofs.PartLaws.{rows-parts}
use Rattle.tallies.specs.declared.table.TallyRow.{TallyRow}
use Rattle.tallies.specs.Tally.{Shaped, adds_up, counted}
use Rattle.tallies.proofs.RowLaws.{rows-known, counted-adds, counted-append}

module _ (b : BarBox) (all : length b.bars ≡ places) where
  module _ (tally : List TallyRow) (shaped : Shaped tally) where
    -- after the first part the tally adds up to the bars
    pub parts_add : (xs : List Bar) → adds_up b.count tally ≡ true → adds_up (taken_in b xs).count (counted (rows_from b xs) tally) ≡ true
    parts_add xs adds =
        let rows = rows_from b xs in
        let size : b.count + length rows / row_bytes ≡ b.count + length xs = omega (arith, length-rows b.thresholds b.count (kept b) xs) in
        rw size at (counted-adds tally shaped rows b.count (rows-known b.thresholds b.count (kept b) xs) adds)

    -- the second part is counted after the first as both are at once
    pub parts-counted : (xs ys : List Bar) → counted (rows_from (taken_in b xs) ys) (counted (rows_from b xs) tally) ≡ counted (rows_from b (xs ++ ys)) tally
    parts-counted xs ys =
        counted-append tally shaped (rows_from b xs) (rows_from (taken_in b xs) ys) (length xs) (length-rows b.thresholds b.count (kept b) xs)
        ∙ ap (λ (rows : List ℕ). counted rows tally) (sym (rows-parts b all xs ys))
