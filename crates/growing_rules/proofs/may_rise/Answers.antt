-- The code is the definition. Assumes nothing.
use mathlib.Core.Path.{refl}
use Rattle.growing_rules.specs.SearchSteps.{may_rise}
use Rattle.growing_rules.proofs.may_rise.Goals as goal

pub returns : goal.returns
unfolding may_rise
returns c = refl
