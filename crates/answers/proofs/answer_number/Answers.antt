-- Both cases are those of the definition. Assumes nothing.
use Rattle.answers.proofs.answer_number.Goals as goal

pub returns-in-Ok : goal.returns-in-Ok
returns-in-Ok c = simp (c.pair_number.ensures, c.in-Ok.is)

pub returns-in-Err : goal.returns-in-Err
returns-in-Err c = simp (c.refusal_number.ensures, c.in-Err.is)
