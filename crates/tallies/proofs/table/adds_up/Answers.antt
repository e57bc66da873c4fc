-- Assumes nothing.
use Rattle.std.proofs.Common.{[], length, ◌<◌, refl, arith, below_more}
use native.Mathlib.Nat.{not-suc-le-zero}
use lib.Dec.{eqb}
use Rattle.std.proofs.lemmas.List.Folds.{list_all_more}
use Rattle.tallies.specs.declared.table.TallyRow.{TallyRow}
use Rattle.tallies.specs.Tally.{row_of_counts, total_of, adds_up}
use Rattle.tallies.proofs.table.adds_up.Goals as goal

pub loop-row-init : goal.loop-row-init
unfolding adds_up
loop-row-init c = (refl, λ j h. absurd (not-suc-le-zero h))

pub loop-row-preserved : goal.loop-row-preserved
unfolding adds_up
loop-row-preserved c =
    let i = c.loop-row.row-index in
    let within : i < length c.args.tally.now = omega arith in
    (rw (list_all_more (λ (row : TallyRow). eqb (total_of row.counts) c.args.n) c.args.tally.now i (row_of_counts []) within, c.total.ensures.0, c.from.ensures, c.loop-row.invariant.0), below_more _ _ c.loop-row.invariant.1 c.total.ensures.1)
