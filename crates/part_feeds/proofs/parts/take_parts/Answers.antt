-- The loop's invariant: the bars passed are taken in and counted, if that is asked for, and their rows stand on the sheet. Assumes nothing.
use Rattle.std.specs.Prelude.{Ok, Err}
use Rattle.answers.specs.Refusal.{Verdict}
use Prim.Native.Nat.{◌+◌, ◌-◌, ◌*◌, ◌≤◌}
use mathlib.Core.Path.{◌≡◌, refl, ap, sym, ◌∙◌, subst}
use mathlib.Core.Bool.{Bool, true, false, cond}
use native.Mathlib.Omega.{arith}
use borrow.Author.Rules.{rules}
use borrow.Rule.Slice.PartMut.{put_mid}
use lib.ListN.{length}
use lib.Seq.{take_all}
use Rattle.measures.specs.Bar.{bars_of}
use Rattle.measures.proofs.RunLaws.{length-bars}
use Rattle.measures.proofs.Overlay.{overlay-none}
use Rattle.recognisers.specs.Number.{places, row_bytes}
use Rattle.answers.specs.declared.refusals.Refusal.{Refusal}
use Rattle.bar_box.specs.Sheet.{rows_of}
use Rattle.bar_box.proofs.BoxLaws.{taken_none}
use Rattle.bar_box.proofs.FeedSteps.{fits}
use Rattle.bar_box.proofs.PartLaws.{fed-sheet}
use Rattle.tallies.specs.Feed.{lent, tallied_sheet}
use Rattle.tallies.proofs.FeedLaws.{accepted-plain, tallied-accepted}
use Rattle.tallies.proofs.RowLaws.{none-counted}
use Rattle.part_feeds.proofs.PartLaws.{length-written, next}
use Rattle.part_feeds.proofs.parts.take_parts.Goals as goal

same : {A : Type 0} (b : Bool) (x : A) → cond b x x ≡ x
same true x = refl
same false x = refl

refused-accepted : (r : Refusal) (v : Verdict) → v ≡ Err r → v ≡ Ok tt → ⊥
refused-accepted r v denied accepted = let P : Verdict → Type 0 = λ x. elim x [ Ok _ ↦ ⊥ | Err _ ↦ Unit {0} ] in subst P (sym denied ∙ accepted) tt

pub loop-size-init : goal.loop-size-init
unfolding rows_of
loop-size-init c =
    let args = c.args in
    let b = args.b.now in
    let all : length b.bars ≡ places = search rules in
    let met = fits _ _ _ _ (accepted-plain b args.tally (lent args.prices.now args.sheet.now) c.requires.0) in
    record {
      within = omega arith;
      lent = omega (arith, c.count-total.ensures, length-bars args.prices.now);
      whole = omega (arith, c.count-total.ensures, length-bars args.prices.now, met.room);
      room = refl;
      box = sym (taken_none b all);
      table = sym (rw (none-counted args.tally) (same args.counts args.tally));
      rows = sym (overlay-none args.sheet.now 0);
    }

-- no part is refused
pub returns-in_err-feed_part : goal.returns-in_err-feed_part
returns-in_err-feed_part c =
    let args = c.args in
    let b = args.b.now in
    let inv = c.loop-size.invariant in
    let done = c.loop-size.done in
    let s = c.loop-size.sheet in
    let all : length b.bars ≡ places = search rules in
    let n = c.least-n.result in
    let enough : done + n ≤ length (bars_of args.prices.now) = omega (arith, c.count-total.ensures) in
    let fed = next b all args.tally args.prices.now args.sheet.now s c.requires.0 done n enough inv.room inv.rows c.requires.1 args.counts c.loop-size.b c.loop-size.table _ inv.box inv.table refl in
    absurd (refused-accepted _ _ (sym c.in_err-feed_part.ensures.verdict) fed.0)

pub loop-size-preserved : goal.loop-size-preserved
loop-size-preserved c =
    let args = c.args in
    let b = args.b.now in
    let inv = c.loop-size.invariant in
    let done = c.loop-size.done in
    let s = c.loop-size.sheet in
    let all : length b.bars ≡ places = search rules in
    let n = c.least-n.result in
    let enough : done + n ≤ length (bars_of args.prices.now) = omega (arith, c.count-total.ensures) in
    let fed = next b all args.tally args.prices.now args.sheet.now s c.requires.0 done n enough inv.room inv.rows c.requires.1 args.counts c.loop-size.b c.loop-size.table _ inv.box inv.table refl in
    let part = c.in_ok-feed_part.ensures in
    let rows = ap (put_mid (row_bytes * done) (length s - row_bytes * done) s) part.sheet ∙ fed.3 in
    record {
      within = omega arith;
      lent = inv.lent;
      whole = inv.whole;
      room = ap length rows ∙ length-written b (bars_of args.prices.now) args.sheet.now (done + n) (omega (arith, c.count-total.ensures, inv.whole));
      box = part.after ∙ fed.2;
      table = part.table ∙ fed.1;
      rows = rows;
    }

pub returns-in_err-feed_part-2 : goal.returns-in_err-feed_part-2
returns-in_err-feed_part-2 c =
    let args = c.args in
    let b = args.b.now in
    let inv = c.loop-size.invariant in
    let done = c.loop-size.done in
    let s = c.loop-size.sheet in
    let all : length b.bars ≡ places = search rules in
    let n = c.count-total.result - done in
    let enough : done + n ≤ length (bars_of args.prices.now) = omega (arith, c.count-total.ensures) in
    let past : c.count-total.result ≡ done + n = omega arith in
    let fed = next b all args.tally args.prices.now args.sheet.now s c.requires.0 done n enough inv.room inv.rows c.requires.1 args.counts c.loop-size.b c.loop-size.table c.count-total.result inv.box inv.table past in
    absurd (refused-accepted _ _ (sym c.in_err-feed_part-2.ensures.verdict) fed.0)

pub returns : goal.returns
unfolding tallied_sheet
returns c =
    let args = c.args in
    let b = args.b.now in
    let inv = c.loop-size.invariant in
    let done = c.loop-size.done in
    let s = c.loop-size.sheet in
    let all : length b.bars ≡ places = search rules in
    let n = c.count-total.result - done in
    let enough : done + n ≤ length (bars_of args.prices.now) = omega (arith, c.count-total.ensures) in
    let past : c.count-total.result ≡ done + n = omega arith in
    let fed = next b all args.tally args.prices.now args.sheet.now s c.requires.0 done n enough inv.room inv.rows c.requires.1 args.counts c.loop-size.b c.loop-size.table c.count-total.result inv.box inv.table past in
    let f = lent args.prices.now args.sheet.now in
    let whole = take_all (done + n) (bars_of args.prices.now) (omega (arith, c.count-total.ensures)) in
    let part = c.in_ok-feed_part-2.ensures in
    let table = rw whole at (part.table ∙ fed.1) in
    let box = rw whole at (part.after ∙ fed.2) in
    let rows = rw whole at (ap (put_mid (row_bytes * done) (length s - row_bytes * done) s) part.sheet ∙ fed.3) in (
      rw (tallied-accepted b args.tally f c.requires.0, table),
      rw (tallied-accepted b args.tally f c.requires.0) box,
      rw (c.requires.0, fed-sheet b args.prices.now args.sheet.now (accepted-plain b args.tally f c.requires.0)) rows,
    )
