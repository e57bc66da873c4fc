-- The code is the definition. Assumes nothing.
use mathlib.Core.Path.{refl}
use Rattle.growing_rules.specs.SearchSteps.{may_fall}
use Rattle.growing_rules.proofs.may_fall.Goals as goal

pub returns : goal.returns
unfolding may_fall
returns c = refl
