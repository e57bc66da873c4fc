-- The code is the definition. Assumes nothing.
use borrow.Author.Tests.{lt-ltb, le-ltb}
use lib.ListN.{length}
use native.Mathlib.Omega.{arith}
use Rattle.measures.specs.Bar.{bars_of}
use Rattle.middles.specs.MiddleSteps.{grown_by}
use Rattle.middles.proofs.grow.Goals as goal

pub returns-then-n-count : goal.returns-then-n-count
unfolding grown_by
returns-then-n-count c =
    let w = bars_of c.args.w.now in
    simp (c.enter.ensures, c.back.ensures, lt-ltb c.args.n (length w) (omega arith))

pub returns-else-n-count : goal.returns-else-n-count
unfolding grown_by
returns-else-n-count c =
    let w = bars_of c.args.w.now in
    simp (le-ltb c.args.n (length w) (omega arith))
