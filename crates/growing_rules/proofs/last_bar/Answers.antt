-- The code is the definition.
use Rattle.growing_rules.specs.GrowingRule.{last_of}
use Rattle.growing_rules.proofs.last_bar.Goals as goal

pub returns : goal.returns
unfolding last_of
returns c = simp c.back.ensures
