-- The code is the definition over two values; their number is 2.0, which antt computes.
use lib.Count.{count_trailing_zeros}
use lib.Ieee.{of_bits, of_fields, of_int, round, size, span, climb, units, odd}
use Rattle.measures.specs.Fold.{variance_of, mean_of, sum_of, size_of}
use Rattle.measures.proofs.folds.pair_variance.Goals as goal

pub returns : goal.returns
unfolding variance_of mean_of sum_of size_of of_int round size span climb units odd of_bits of_fields count_trailing_zeros
returns c = simp (c.square-2.ensures, c.square.ensures)
