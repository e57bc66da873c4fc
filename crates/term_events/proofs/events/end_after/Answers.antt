-- By the last stamp. Assumes nothing.
use Rattle.term_events.specs.EventSteps.{end_after}
use Rattle.term_events.proofs.events.end_after.Goals as goal

pub returns-in-None : goal.returns-in-None
unfolding end_after
returns-in-None c = simp c.in-None.is

pub returns-in-Some : goal.returns-in-Some
unfolding end_after
returns-in-Some c = simp (c.in-Some.is, c.end_of.ensures)
