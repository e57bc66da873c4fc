-- The code is the definition.
use mathlib.Core.Path.{refl}
use Rattle.growing_rules.specs.SearchSteps.{beyond}
use Rattle.growing_rules.proofs.is_beyond.Goals as goal

pub returns : goal.returns
unfolding beyond
returns c = refl
