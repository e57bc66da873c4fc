-- The code is the definition. Assumes nothing.
use mathlib.Core.Path.{refl}
use Rattle.growing_rules.specs.SearchSteps.{may_be_top}
use Rattle.growing_rules.proofs.may_be_top.Goals as goal

pub returns : goal.returns
unfolding may_be_top
returns c = refl
