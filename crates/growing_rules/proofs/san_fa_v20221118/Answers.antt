-- The search up to this rule's end is the rule. Assumes nothing.
use Rattle.growing_rules.specs.GrowingRule.{san_fa_v20221118}
use Rattle.growing_rules.specs.SearchSteps.{found_of}
use Rattle.growing_rules.proofs.san_fa_v20221118.Goals as goal

pub returns : goal.returns
unfolding san_fa_v20221118 found_of
returns c = rw c.found_in.ensures
