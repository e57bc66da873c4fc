-- The code is the definition. The tactic finds what the calls say, whatever they are.
use Rattle.std.proofs.Common.{rules}
use Rattle.measures.specs.Fold.{highest_of}
use Rattle.measures.proofs.folds.highest.Goals as goal

pub returns : goal.returns
unfolding highest_of
returns c = search rules
