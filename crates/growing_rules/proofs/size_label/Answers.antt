-- The code is the definition.
use mathlib.Core.Path.{refl}
use Rattle.growing_rules.specs.GrowingRule.{size_label, sizes}
use Rattle.growing_rules.proofs.size_label.Goals as goal

pub returns : goal.returns
unfolding size_label sizes
returns c = refl
