-- A feed's tests, with the tally's beside the other of 5. Assumes nothing.
use mathlib.Core.Path.{◌∙◌}
use Rattle.recognisers.specs.Refusal.{first_true, next_after, feed_tried, checked_tried}
use Rattle.tallies.specs.Feed.{tally_verdict}
use Rattle.tallies.proofs.feeds.tally_verdict.Goals as goal

pub returns : goal.returns
unfolding tally_verdict checked_tried feed_tried next_after first_true
returns c = let sums = c.adds_up.ensures in (c.checked.ensures ∙ rw sums.0, sums.1)
