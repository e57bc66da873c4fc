-- A refusal is the answer; otherwise the look is at the box that the feeds leave. Assumes nothing.
use mathlib.Core.Path.{sym, ◌∙◌}
use Rattle.std.proofs.lemmas.Result.{err_from_is_err_and}
use Rattle.bar_box.specs.Box.{look_answer_of}
use Rattle.exports.specs.Feeds.{look_after}
use Rattle.exports.proofs.feeds.look_after.Goals as goal

pub returns-in_err-feed : goal.returns-in_err-feed
unfolding look_after
returns-in_err-feed c =
    let denied = rw c.fresh-b.ensures at (sym c.in_err-feed.ensures.verdict) in
    let p = err_from_is_err_and c.from_residual.result c.from_residual.ensures.1 in
    rw (p.1, p.2) (rw denied, c.in_err-feed.ensures.sheet ∙ rw c.fresh-b.ensures)

pub returns : goal.returns
unfolding look_after look_answer_of
returns c =
    let accepted = rw c.fresh-b.ensures at (sym c.in_ok-feed.ensures.verdict) in
    (c.look.ensures.answer ∙ rw (c.in_ok-feed.ensures.after, c.fresh-b.ensures, accepted), c.in_ok-feed.ensures.sheet ∙ rw c.fresh-b.ensures)
