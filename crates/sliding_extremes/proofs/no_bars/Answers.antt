-- The folds of no price are their starts. Assumes nothing.
use Rattle.measures.specs.Fold.{column_of, highest_of, lowest_of, extremes_of}
use Rattle.sliding_extremes.proofs.no_bars.Goals as goal

pub returns : goal.returns
unfolding extremes_of highest_of lowest_of column_of
returns c = rw (c.plus_infinity.ensures, c.minus_infinity.ensures)
