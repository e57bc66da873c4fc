-- Both sides, from the ordinals of the bars before. Assumes nothing.
use Rattle.held_extremes.specs.CandidateSteps.{next_held}
use Rattle.held_extremes.proofs.held_next.Goals as goal

pub returns : goal.returns
unfolding next_held
returns c = rw (c.both.ensures, c.next_side.ensures, c.next_side-2.ensures, c.before_of-before.ensures, c.count.ensures)
