-- The code is the definition.
use Rattle.growing_rules.specs.GrowingRule.{bodies_down, bodies_known}
use Rattle.growing_rules.specs.SearchSteps.{two_of}
use Rattle.growing_rules.proofs.no_leaders.Goals as goal

pub returns : goal.returns
unfolding two_of bodies_down bodies_known
returns c = simp c.not_a_number-nan.ensures
