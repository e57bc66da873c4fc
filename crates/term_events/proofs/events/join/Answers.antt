-- The code is the definition. Assumes nothing.
use Rattle.term_events.specs.Events.{joined_bar}
use Rattle.term_events.proofs.events.join.Goals as goal

pub returns : goal.returns
unfolding joined_bar
returns c = simp (c.max.ensures, c.min.ensures)
