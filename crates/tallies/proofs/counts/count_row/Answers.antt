-- The loop's invariant: of the recognisers passed the row is counted. Assumes nothing.
use native.Mathlib.Omega.{arith}
use Rattle.tallies.proofs.CountLaws.{number-most, next-passed}
use Rattle.tallies.proofs.counts.count_row.Goals as goal

pub overflow_add-numbers-in-loop-k : goal.overflow_add-numbers-in-loop-k
overflow_add-numbers-in-loop-k c =
    let label = c.requires.0 c.args.i c.loop-k.k c.requires.1 (omega arith) in
    let numbers = number-most c.args.sheet.now c.args.i c.loop-k.k c.loop-k.numbers c.loop-k.invariant.1 (omega arith) label in
    rw c.from-code.ensures (omega (arith, numbers, c.requires.2))

pub loop-k-preserved : goal.loop-k-preserved
loop-k-preserved c =
    let label = c.requires.0 c.args.i c.loop-k.k c.requires.1 (omega arith) in
    rw c.from-code.ensures (c.loop-k.invariant.0, next-passed c.args.sheet.now c.args.i c.loop-k.k c.loop-k.numbers c.loop-k.invariant.1 (omega arith) label)
