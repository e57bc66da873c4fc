-- The loop's invariant: the lines of the rows passed stand at the front. Assumes nothing.
use Prim.Native.Nat.{◌<◌}
use mathlib.Core.List.{[]}
use mathlib.Core.Path.{refl, sym, ◌∙◌}
use native.Mathlib.Omega.{arith}
use lib.ListN.{length, get_or, take}
use Rattle.measures.proofs.Overlay.{overlay-none}
use Rattle.tallies.specs.Tally.{row_of_counts}
use Rattle.output_lines.proofs.OutputLaws.{written_on}
use Rattle.tally_lines.specs.Output.{cell_lines, lines_of_tally}
use Rattle.tally_lines.proofs.OutputLaws.{rows_next}
use Rattle.tally_lines.proofs.output.write_tally.Goals as goal

pub loop-k-init : goal.loop-k-init
unfolding lines_of_tally
loop-k-init c = (refl, omega arith, (refl, sym (overlay-none c.args.out.now 0)))

pub loop-k-preserved : goal.loop-k-preserved
loop-k-preserved c =
    let loop = c.loop-k in
    let inv = loop.invariant in
    let args = c.args in
    let tally = args.tally.now in
    let inside : loop.k < length tally = omega arith in
    let lines = cell_lines loop.k 0 (get_or tally loop.k (row_of_counts [])).counts in
    let did = c.write_cells-place.ensures in
    let on = written_on args.out.now 0 (lines_of_tally 0 (take loop.k tally)) _ _ lines _ _ (omega (arith, did.0, did.1.0, c.requires, inv.1)) inv.2 did.1 in
    (c.write_cells-place.auto.out ∙ inv.0, omega (arith, did.0, inv.1), rw (rows_next tally loop.k (row_of_counts []) inside) on)
