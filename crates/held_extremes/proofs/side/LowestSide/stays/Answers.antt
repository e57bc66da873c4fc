use Rattle.measures.proofs.Order.{reaches-down}
use Rattle.held_extremes.proofs.side.LowestSide.stays.Goals as goal

pub returns : goal.returns
returns c = reaches-down _ _ c.requires
