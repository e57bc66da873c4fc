-- The fields are compared as the definition does. Assumes nothing.
use Rattle.held_extremes.specs.Candidate.{same_held}
use Rattle.held_extremes.proofs.SameLaws.{same-by}
use Rattle.held_extremes.proofs.is_held.Goals as goal

pub returns-clause-answer : goal.returns-clause-answer
unfolding same_held
returns-clause-answer c =
    rw (c.same_price.ensures.0, c.same_price-2.ensures.0, c.eq.ensures, c.eq-2.ensures, c.held_of-made.ensures, same-by, same-by)
