-- A line that has begun takes its line feed in. Assumes nothing.
use Rattle.tally_lines.specs.Session.{closed}
use Rattle.tally_lines.proofs.SessionLaws.{state-session}
use Rattle.tally_lines.proofs.session.close.Goals as goal

pub returns-then-is_empty : goal.returns-then-is_empty
unfolding closed
returns-then-is_empty c = rw (← c.is_empty.ensures, c.if-is_empty.true)

pub returns-else-is_empty : goal.returns-else-is_empty
unfolding closed
returns-else-is_empty c =
    let args = c.args in
    rw (← c.is_empty.ensures, c.if-is_empty.false, c.absorb.ensures) (state-session _)
