-- The search up to both ends is the two rules. Assumes nothing.
use Rattle.growing_rules.specs.GrowingRule.{san_fa_v20221118, ta_xing}
use Rattle.growing_rules.specs.SearchSteps.{found_of}
use Rattle.growing_rules.proofs.growing_pairs.Goals as goal

pub returns : goal.returns
unfolding san_fa_v20221118 ta_xing found_of
returns c = c.found_in.ensures
