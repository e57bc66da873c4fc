-- The loop's invariant: the numbers passed are written. Assumes nothing.
use Prim.Native.Nat.{◌<◌}
use mathlib.Core.Path.{◌∙◌}
use native.Mathlib.Omega.{arith}
use lib.ListN.{length, length-set}
use Rattle.measures.proofs.Overlay.{overlay-copy}
use Rattle.bar_box.proofs.BoxLaws.{take_same}
use Rattle.tallies.specs.Count.{cells}
use Rattle.exports.specs.Tally.{numbers_of}
use Rattle.exports.proofs.NumberLaws.{length-numbers, number_of}
use Rattle.exports.proofs.tally.put.Goals as goal

pub loop-i-preserved : goal.loop-i-preserved
loop-i-preserved c =
    let tally = c.args.tally in
    let i = c.loop-i.i in
    let most : i < cells = omega arith in
    let room : i < length c.args.numbers.now = omega arith in
    let size = length-numbers tally in
    (rw length-set c.loop-i.invariant.0, rw (c.loop-i.invariant.1, ← number_of tally i most) (overlay-copy c.args.numbers.now 0 (numbers_of tally) i i 0 (omega arith) (omega arith) room))

pub returns : goal.returns
returns c =
    let tally = c.args.tally in
    let size = length-numbers tally in
    c.loop-i.invariant.1 ∙ rw (take_same (numbers_of tally) c.loop-i.i (length c.args.numbers.now) (omega arith))
