-- The loop squares as it sums; the definition sums the squares. The tactic finds what the calls say, whatever they are.
use Rattle.std.proofs.Common.{rules}
use mathlib.Core.List.{foldl-map}
use Rattle.measures.specs.Fold.{variance_of, sum_of}
use Rattle.measures.proofs.folds.variance.Goals as goal

pub returns : goal.returns
unfolding variance_of sum_of
returns c = simp foldl-map (search rules)
