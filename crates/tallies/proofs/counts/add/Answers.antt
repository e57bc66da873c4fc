-- The loop's invariant: the rows passed have gained their numbers. Assumes nothing.
use Prim.Native.Nat.{ℕ, ◌+◌, ◌*◌, ◌<◌}
use mathlib.Core.List.{[]}
use mathlib.Core.Path.{◌≡◌, refl, ap}
use native.Mathlib.Omega.{arith}
use lib.ListN.{length, get_or}
use Rattle.recognisers.specs.Number.{labels}
use Rattle.tallies.specs.declared.table.TallyRow.{TallyRow}
use Rattle.tallies.specs.Tally.{row_of_counts, by_place, gain_row}
use Rattle.tallies.proofs.PlaceLaws.{changed-next}
use Rattle.tallies.proofs.counts.add.Goals as goal

pub loop-k-init : goal.loop-k-init
unfolding by_place
loop-k-init c = (c.well_formed.0.1.0.1, refl)

pub loop-k-preserved : goal.loop-k-preserved
loop-k-preserved c =
    let tally = c.args.tally in
    let k = c.loop-k.k in
    let inside : k < length tally = omega (arith, c.loop-k.invariant.0) in
    let change : ℕ → TallyRow → TallyRow = λ i row. row_of_counts (gain_row (λ n. get_or c.args.numbers.now (labels * i + n) 0) row.counts) in
    let row : c.add_row.result ≡ change k (get_or tally k (row_of_counts [])) = ap row_of_counts c.add_row.ensures in
    (c.loop-k.invariant.0, rw (c.loop-k.invariant.1, row) (changed-next change tally k (row_of_counts []) inside))
