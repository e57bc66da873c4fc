use Rattle.measures.proofs.Order.{reaches-up}
use Rattle.held_extremes.proofs.side.HighestSide.stays.Goals as goal

pub returns : goal.returns
returns c = reaches-up _ _ c.requires
