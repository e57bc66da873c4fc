-- A refused feed leaves the table. Assumes nothing.
use mathlib.Core.Path.{ap, sym, ◌∙◌}
use Rattle.tallies.specs.Feed.{tallied_of, verdict_in}
use Rattle.tallies.proofs.FeedLaws.{verdict-answered}
use Rattle.part_feeds.proofs.parts.feed_part.Goals as goal

pub returns-in_err-tally-clause-table : goal.returns-in_err-tally-clause-table
unfolding tallied_of
returns-in_err-tally-clause-table c =
    let denied = sym (ap verdict_in c.in_err-tally.ensures.answer ∙ verdict-answered _ _) in
    rw c.if-counts.true (simp denied)
