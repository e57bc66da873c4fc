-- The code is the definition. The tactic finds what the calls say, whatever they are.
use Rattle.std.proofs.Common.{rules}
use Rattle.measures.specs.Fold.{lowest_of}
use Rattle.measures.proofs.folds.lowest.Goals as goal

pub returns : goal.returns
unfolding lowest_of
returns c = search rules
