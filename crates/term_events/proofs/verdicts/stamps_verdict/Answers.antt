-- The loop's invariant: the verdict is that of the stamps that are left, and the end of the last one's term is known. Assumes nothing.
use mathlib.Core.Path.{sym, ◌∙◌}
use Rattle.term_events.proofs.StampLaws.{stamps-late, stamps-outside, stamps-next, stamps-past}
use Rattle.term_events.proofs.StepLaws.{end-next, inside_is, next-end-is}
use Rattle.term_events.proofs.verdicts.stamps_verdict.Goals as goal

pub returns-then-not-is_above : goal.returns-then-not-is_above
returns-then-not-is_above c =
    let at = c.loop-stamp in
    let late = sym c.is_above.ensures ∙ c.if-not-is_above.true in
    sym (at.invariant.0 ∙ stamps-late c.args.h at.last c.args.stamps.now at.stamp-index c.loop-stamp-test.true late)

pub returns-then-not-is_inside : goal.returns-then-not-is_inside
returns-then-not-is_inside c =
    let at = c.loop-stamp in
    let args = c.args in
    let up = sym c.is_above.ensures ∙ c.if-not-is_above.false in
    let out = sym (c.is_inside.ensures ∙ inside_is args.h args.m at.end _ at.last at.invariant.1 up) ∙ c.if-not-is_inside.true in
    sym (at.invariant.0 ∙ stamps-outside args.h at.last args.stamps.now at.stamp-index c.loop-stamp-test.true up out)

pub loop-stamp-preserved : goal.loop-stamp-preserved
loop-stamp-preserved c =
    let at = c.loop-stamp in
    let args = c.args in
    let known = at.invariant.1 in
    let up = sym c.is_above.ensures ∙ c.if-not-is_above.false in
    let there = sym (c.is_inside.ensures ∙ inside_is args.h args.m at.end _ at.last known up) ∙ c.if-not-is_inside.false in (
      at.invariant.0 ∙ stamps-next args.h at.last args.stamps.now at.stamp-index c.loop-stamp-test.true up there,
      rw (c.next_end-end.ensures, next-end-is args.h args.m at.end _ at.last known up) (end-next args.h args.m at.end _ at.last known there),
    )

pub returns : goal.returns
returns c =
    sym (c.loop-stamp.invariant.0 ∙ stamps-past c.args.h c.loop-stamp.last c.args.stamps.now c.loop-stamp.stamp-index c.loop-stamp-test.false)
