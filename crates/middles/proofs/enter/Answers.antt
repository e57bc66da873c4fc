-- The code is the definition. Assumes nothing.
use Rattle.middles.specs.MiddleSteps.{entered}
use Rattle.middles.proofs.enter.Goals as goal

pub returns : goal.returns
unfolding entered
returns c =
    simp (c.is_nan-2.ensures, c.is_nan.ensures, c.min.ensures, c.max.ensures)
