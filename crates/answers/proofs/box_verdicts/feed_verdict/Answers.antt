-- A feed tries nothing besides. Assumes nothing.
use Rattle.answers.specs.Refusal.{first_true, next_after}
use Rattle.answers.specs.Refusal.{feed_tried, feed_verdict, checked_tried}
use Rattle.answers.proofs.box_verdicts.feed_verdict.Goals as goal

pub returns : goal.returns
unfolding feed_verdict checked_tried feed_tried next_after first_true
returns c = c.checked.ensures
