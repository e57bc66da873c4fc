-- The loop's invariant: the pairs passed are those of their rows, the others still what the rules gave. Assumes nothing.
use Rattle.measures.specs.Bar.{bars_of}
use Rattle.rule_table.proofs.TableLaws.{pairs-start, pairs-next, pairs-end}
use Rattle.rule_table.proofs.table.pairs.Goals as goal

pub loop-k-init : goal.loop-k-init
loop-k-init c = rw (c.rules-pairs.ensures, c.first_short-k.ensures) (pairs-start c.args.t c.args.len c.args.p (bars_of c.args.w.now) (bars_of c.args.gate.now))

pub loop-k-preserved : goal.loop-k-preserved
loop-k-preserved c =
    rw c.row.ensures (pairs-next c.args.t c.args.len c.args.p (bars_of c.args.w.now) (bars_of c.args.gate.now) c.loop-k.pairs c.loop-k.k _ c.loop-k-test.true c.loop-k.invariant)

pub returns : goal.returns
returns c =
    pairs-end c.args.t c.args.len c.args.p (bars_of c.args.w.now) (bars_of c.args.gate.now) c.loop-k.pairs c.loop-k.k c.loop-k-test.false c.loop-k.invariant
