-- The code is the definition. Assumes nothing.
use Rattle.measures.specs.Fold.{column_of, highest_of, lowest_of, every_of, extremes_of}
use Rattle.middles.specs.MiddleSteps.{middle_of}
use Rattle.middles.proofs.no_middle.Goals as goal

pub returns : goal.returns
unfolding middle_of extremes_of column_of highest_of lowest_of every_of
returns c = simp (c.plus_infinity.ensures, c.minus_infinity.ensures)
