-- A refusal leaves all; otherwise the feeds are made. Assumes nothing.
use mathlib.Core.Path.{sym}
use Rattle.std.proofs.lemmas.Result.{err_from_is_err_and}
use Rattle.tallies.specs.Feed.{tallied_of, tallied_sheet}
use Rattle.part_feeds.proofs.parts.feed_parts.Goals as goal

pub returns-in_err-tally_verdict : goal.returns-in_err-tally_verdict
unfolding tallied_of tallied_sheet
returns-in_err-tally_verdict c =
    let denied = sym c.in_err-tally_verdict.ensures.0 in
    let p = err_from_is_err_and c.from_residual.result c.from_residual.ensures.1 in
    rw (p.1, p.2) (simp denied, simp denied, simp denied)
