-- Each answer of the reader is a case of read_step. Assumes nothing.
use mathlib.Core.Path.{sym}
use Rattle.label_lines.specs.Output.{line_step}
use Rattle.label_lines.proofs.session.step.Goals as goal

pub returns-in-Ok : goal.returns-in-Ok
unfolding line_step
returns-in-Ok c = rw (sym c.in-Ok.ensures.answer) c.feed_bar.ensures

pub returns-in-Err : goal.returns-in-Err
unfolding line_step
returns-in-Err c = rw (sym c.in-Err.ensures.answer) (rw c.stop_by.ensures at c.refuse.ensures)
