-- The loop's invariant: the lines of the counts passed stand from the place on. Assumes nothing.
use Prim.Native.Nat.{◌<◌}
use mathlib.Core.Path.{refl, sym, ◌∙◌}
use native.Mathlib.Omega.{arith}
use lib.ListN.{length, get_or, take}
use Rattle.measures.proofs.Overlay.{overlay-none}
use Rattle.output_lines.proofs.OutputLaws.{written_on}
use Rattle.tally_lines.specs.Output.{cell_line, cell_lines}
use Rattle.tally_lines.proofs.OutputLaws.{cell-most, cells-next}
use Rattle.tally_lines.proofs.output.write_cells.Goals as goal

pub loop-c-init : goal.loop-c-init
unfolding cell_lines
loop-c-init c = let args = c.args in (refl, omega arith, (omega arith, sym (overlay-none args.out.now args.at)))

pub loop-c-preserved : goal.loop-c-preserved
loop-c-preserved c =
    let loop = c.loop-c in
    let inv = loop.invariant in
    let args = c.args in
    let counts = args.row.now.counts in
    let inside : loop.c < length counts = omega arith in
    let line = cell_line args.k loop.c (get_or counts loop.c 0) in
    let most = cell-most args.k loop.c (get_or counts loop.c 0) in
    let did = rw c.from.ensures at c.write_cell-place.ensures in
    let on = written_on args.out.now args.at (cell_lines args.k 0 (take loop.c counts)) _ _ line _ _ (omega (arith, most, c.requires, inv.1)) inv.2 did.1 in
    (c.write_cell-place.auto.out ∙ inv.0, omega (arith, did.0, inv.1), rw (cells-next args.k counts loop.c inside) on)
