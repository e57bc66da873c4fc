-- The code is the definition. The tactic finds what the calls say, whatever they are.
use Rattle.std.proofs.Common.{rules}
use Rattle.measures.specs.Fold.{mean_of, sum_of}
use Rattle.measures.proofs.folds.mean.Goals as goal

pub returns : goal.returns
unfolding mean_of sum_of
returns c = search rules
