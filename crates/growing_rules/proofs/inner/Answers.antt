-- The code is the definition.
use Rattle.growing_rules.specs.GrowingRule.{inner_of}
use Rattle.growing_rules.proofs.inner.Goals as goal

pub returns : goal.returns
unfolding inner_of
returns c =
    simp (
      c.last_bars.ensures.bars,
      c.saturating_sub.ensures,
      c.count.ensures,
    )
