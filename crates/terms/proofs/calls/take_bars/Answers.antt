-- The loop's invariant: the term bars that ended in the bars passed are taken in, and their rows stand on the sheet. Assumes nothing.
use Prim.Native.Nat.{◌*◌}
use mathlib.Core.Path.{refl, ap, sym, ◌∙◌}
use native.Mathlib.Omega.{arith}
use lib.ListN.{take, length-append}
use Rattle.measures.specs.Bar.{bars_of}
use Rattle.measures.proofs.Overlay.{overlay-none}
use Rattle.bar_box.specs.Sheet.{rows_of}
use Rattle.bar_box.proofs.BoxLaws.{taken_none, taken-append}
use Rattle.bar_box.proofs.PartLaws.{rows_both}
use Rattle.term_events.specs.Events.{ended_of, carried_of}
use Rattle.terms.specs.declared.layers.Layer.{Layer}
use Rattle.terms.proofs.PartLaws.{ended_to, layer-next}
use Rattle.terms.proofs.TakeLaws.{next-part, all-taken}
use Rattle.terms.proofs.calls.take_bars.Goals as goal

pub loop-done-init : goal.loop-done-init
unfolding rows_of ended_of carried_of
loop-done-init c =
    record {
      within = omega arith;
      same_sheet = refl;
      same_run = refl;
      layer = rw (taken_none c.args.l.now.inner c.if-prove.false);
      rows = refl;
      written = sym (overlay-none c.args.sheet.now 0);
    }

pub feed_front-requires : goal.feed_front-requires
feed_front-requires c =
    let at = c.loop-done in
    let fit = next-part c.args.l.now c.args.prices.now c.args.stamps.now c.args.sheet.now c.requires at.done c.loop-done-test.true at.run at.invariant.same_run at.l _ at.invariant.layer _ _ c.pass-part.ensures in
    (rw (ap (λ (x : Layer). x.inner) at.invariant.layer) fit.accepted, (fit.enough, omega (arith, fit.room)))

pub overflow_add-rows : goal.overflow_add-rows
overflow_add-rows c =
    let at = c.loop-done in
    let fit = next-part c.args.l.now c.args.prices.now c.args.stamps.now c.args.sheet.now c.requires at.done c.loop-done-test.true at.run at.invariant.same_run at.l _ at.invariant.layer _ _ c.pass-part.ensures in
    omega (arith, fit.few)

pub loop-done-smaller : goal.loop-done-smaller
loop-done-smaller c =
    let at = c.loop-done in
    let fit = next-part c.args.l.now c.args.prices.now c.args.stamps.now c.args.sheet.now c.requires at.done c.loop-done-test.true at.run at.invariant.same_run at.l _ at.invariant.layer _ _ c.pass-part.ensures in
    omega (arith, fit.some, fit.within)

pub loop-done-preserved : goal.loop-done-preserved
loop-done-preserved c =
    let at = c.loop-done in
    let inv = at.invariant in
    let was = c.args.l.now in
    let b = was.inner in
    let fit = next-part c.args.l.now c.args.prices.now c.args.stamps.now c.args.sheet.now c.requires at.done c.loop-done-test.true at.run at.invariant.same_run at.l _ at.invariant.layer _ _ c.pass-part.ensures in
    let old = ended_to was.hours was.minutes was.carried c.args.prices.now c.args.stamps.now at.done in
    let new = bars_of (take (4 * c.pass-part.result.count) c.pass-part.new.run) in
    let inner = ap (λ (x : Layer). x.inner) inv.layer in
    record {
      within = fit.within;
      same_sheet = c.feed_front.auto.sheet ∙ inv.same_sheet;
      same_run = c.pass-part.auto.run ∙ inv.same_run;
      layer = layer-next _ _ _ _ at.l inv.layer (c.feed_front.ensures.after ∙ rw (inner, fit.ended) (taken-append b c.if-prove.false old new)) fit.carried;
      rows = rw (fit.ended, length-append, fit.count, inv.rows);
      written = c.feed_front.ensures.sheet ∙ rw (inner, inv.written, fit.ended) (rows_both b c.if-prove.false old new c.args.sheet.now at.rows inv.rows (omega (arith, fit.room, fit.count)));
    }

pub returns : goal.returns
returns c =
    let inv = c.loop-done.invariant in
    let whole = all-taken c.args.l.now c.args.prices.now c.args.stamps.now c.args.sheet.now c.requires c.loop-done.done c.loop-done-test.false in
    (rw (inv.rows, whole), rw (inv.layer, whole), rw (inv.written, whole))
