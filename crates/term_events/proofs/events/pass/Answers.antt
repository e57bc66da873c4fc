-- The loop's invariant: what is left of the definition, from the bar at hand. Assumes nothing.
use mathlib.Core.Path.{◌≡◌, ap, sym, ◌∙◌}
use mathlib.Core.Bool.{false, ◌&&◌, and-false}
use mathlib.Core.List.{List}
use native.Mathlib.Omega.{arith}
use Prim.Native.Nat.{◌/◌}
use borrow.Author.Tests.{ne_eqb}
use lib.Dec.{eqb}
use lib.Ieee.{Float}
use lib.ListN.{length}
use Rattle.std.specs.Prelude.{is_some}
use Rattle.measures.specs.Bar.{bars_of}
use Rattle.term_events.specs.declared.events.Passed.{Passed}
use Rattle.term_events.proofs.EventLaws.{few-in}
use Rattle.term_events.proofs.StepLaws.{pass-stops, pass-next, pass-past}
use Rattle.term_events.proofs.events.pass.Goals as goal
use Rattle.term_events.proofs.events.pass.Goals.{else-is_some-via-then-is_some+else-count-room, else-is_some-via-else-is_some}

pub returns-then-count-room : goal.returns-then-count-room
returns-then-count-room c =
    let at = c.loop-k in
    let args = c.args in
    let e = at.invariant.3 ∙ pass-stops args.h args.m (bars_of args.prices.now) at.carried at.end at.k at.count at.run args.stamps.now c.step_by-next.result (c.step_by-next.ensures ∙ rw c.bar_or_none-bar.ensures) c.loop-k-test.true
    (sym c.is_some.ensures ∙ c.if-is_some.true) (rw at.invariant.2 c.if-count-room.true) in
    (sym (ap (λ (x : Passed × List Float). x.0) e), sym (ap (λ (x : Passed × List Float). x.1) e))

pub loop-k-preserved : goal.loop-k-preserved
loop-k-preserved c =
    let at = c.loop-k in
    let args = c.args in
    let few = few-in c.step_by-next.result.ended in
    let put = c.put_ended-count.ensures in
    let on : (is_some c.step_by-next.result.ended && eqb at.count (length at.run / 4)) ≡ false =
    elim c.else-is_some.branch [
      | else-is_some-via-then-is_some+else-count-room w ↦ rw (ne_eqb at.count (length at.run / 4) (rw at.invariant.2 w.if-count-room.false), and-false (is_some c.step_by-next.result.ended))
      | else-is_some-via-else-is_some w ↦ rw (sym c.is_some.ensures ∙ w.if-is_some.false)
    ] in (
      omega arith,
      omega (arith, put.0),
      c.put_ended-count.auto.run ∙ at.invariant.2,
      at.invariant.3 ∙ pass-next args.h args.m (bars_of args.prices.now) at.carried at.end at.k at.count at.run args.stamps.now c.step_by-next.result (c.step_by-next.ensures ∙ rw c.bar_or_none-bar.ensures) c.loop-k-test.true on
          ∙ rw (put.0, put.1, c.next_end-end.ensures),
    )

pub returns : goal.returns
returns c =
    let at = c.loop-k in
    let args = c.args in
    let e = at.invariant.3 ∙ pass-past args.h args.m (bars_of args.prices.now) at.carried at.end at.k at.count at.run args.stamps.now c.loop-k-test.false in
    let k : c.max.result ≡ at.k = omega arith in
    rw k (sym (ap (λ (x : Passed × List Float). x.0) e), sym (ap (λ (x : Passed × List Float). x.1) e))
