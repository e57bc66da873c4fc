-- By the last stamp. Assumes nothing.
use Rattle.term_events.specs.Verdicts.{above}
use Rattle.term_events.proofs.verdicts.is_above.Goals as goal

pub returns-in-None : goal.returns-in-None
unfolding above
returns-in-None c = simp c.in-None.is

pub returns-in-Some : goal.returns-in-Some
unfolding above
returns-in-Some c = simp c.in-Some.is
