-- The loop's invariant: the codes of the pairs passed stand from the place on. Assumes nothing.
use Prim.Native.Nat.{◌+◌, ◌*◌}
use mathlib.Core.Path.{◌≡◌, refl, sym}
use native.Mathlib.Omega.{arith}
use lib.ListN.{length, length-set}
use lib.Seq.{take_all}
use Rattle.recognisers.specs.Label.{pair_a}
use Rattle.recognisers.specs.Number.{recognisers}
use Rattle.recognisers.specs.Table.{codes_of}
use Rattle.measures.proofs.Overlay.{overlay-none}
use Rattle.bar_box.proofs.RowLaws.{overlay-codes}
use Rattle.bar_box.proofs.sheets.write_row.Goals as goal

pub loop-k-init : goal.loop-k-init
unfolding codes_of
loop-k-init c = (omega arith, refl, sym (overlay-none c.args.sheet.now c.args.at))

pub loop-k-preserved : goal.loop-k-preserved
loop-k-preserved c =
    let inv = c.loop-k.invariant in
    let n : length c.args.pairs ≡ recognisers = c.well_formed.0.1.0.1 in
    (omega arith, simp length-set inv.1, simp (c.code-in-loop-k.ensures, c.code.ensures) (rw inv.2 (overlay-codes c.args.pairs c.loop-k.k pair_a c.args.sheet.now c.args.at (c.args.at + 2 * c.loop-k.k) (omega arith) (omega arith) (omega arith))))

pub returns : goal.returns
returns c =
    let n : length c.args.pairs ≡ recognisers = c.well_formed.0.1.0.1 in
    rw (take_all c.loop-k.k c.args.pairs (omega arith)) at c.loop-k.invariant.2
