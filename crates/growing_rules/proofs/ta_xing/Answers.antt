-- The search up to this rule's end is the rule. Assumes nothing.
use Rattle.growing_rules.specs.GrowingRule.{ta_xing}
use Rattle.growing_rules.specs.SearchSteps.{found_of}
use Rattle.growing_rules.proofs.ta_xing.Goals as goal

pub returns : goal.returns
unfolding ta_xing found_of
returns c = rw c.found_in.ensures
