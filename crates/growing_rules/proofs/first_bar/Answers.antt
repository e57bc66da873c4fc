-- The code is the definition.
use Rattle.growing_rules.specs.GrowingRule.{first_of}
use Rattle.growing_rules.proofs.first_bar.Goals as goal

pub returns : goal.returns
unfolding first_of
returns c =
    simp (
      c.back.ensures,
      c.count.ensures,
    )
