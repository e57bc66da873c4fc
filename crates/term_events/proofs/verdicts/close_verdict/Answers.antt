-- A feed's tests, with 12. Assumes nothing.
use mathlib.Core.Path.{◌∙◌}
use Rattle.recognisers.specs.Refusal.{first_true, next_after, feed_tried, checked_tried}
use Rattle.term_events.specs.Verdicts.{close_tried}
use Rattle.term_events.proofs.verdicts.close_verdict.Goals as goal

pub returns : goal.returns
unfolding close_tried checked_tried feed_tried next_after first_true
returns c = c.checked.ensures ∙ rw c.layer_valid-layer.ensures
