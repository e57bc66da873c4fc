-- A column has a price for each bar.
use lib.ListN.{length-map}
use Rattle.measures.specs.Fold.{size_of, column_of}
use Rattle.measures.proofs.folds.size.Goals as goal

pub returns : goal.returns
unfolding size_of column_of
returns c = simp (c.nearest_u64_to_f64.ensures, c.count.ensures, length-map)
