-- The code is the definition.
use Rattle.growing_rules.specs.SearchSteps.{body_joined}
use Rattle.growing_rules.proofs.join.Goals as goal

pub returns : goal.returns
unfolding body_joined
returns c =
    simp (
      c.pick-3.ensures,
      c.pick-2.ensures,
      c.pick.ensures,
    )
