-- One feed of the first bars, which is accepted, on its part of the sheet. Assumes nothing.
use Prim.Native.Nat.{◌*◌}
use mathlib.Core.Path.{sym, ◌∙◌}
use Rattle.measures.specs.Bar.{bars_of}
use Rattle.measures.proofs.Overlay.{overlay-none}
use Rattle.recognisers.specs.Number.{row_bytes}
use Rattle.bar_box.specs.Box.{fed_of}
use Rattle.bar_box.specs.Sheet.{rows_of}
use Rattle.bar_box.proofs.BoxLaws.{taken_none}
use Rattle.terms.proofs.FeedLaws.{front-accepted, front-box, front-sheet}
use Rattle.terms.proofs.calls.feed_front.Goals as goal

pub returns-then-n-eq0 : goal.returns-then-n-eq0
unfolding bars_of rows_of
returns-then-n-eq0 c =
    rw c.if-n-eq0.true record { after = sym (taken_none c.args.b.now c.if-prove.false); sheet = sym (overlay-none c.args.sheet.now (row_bytes * c.args.row)) }

pub unwrap-requires : goal.unwrap-requires
unfolding fed_of
unwrap-requires c =
    let args = c.args in
    let pre = c.requires in
    rw (c.feed.ensures.verdict, front-accepted args.b.now args.run.now args.n args.sheet.now args.row pre.0 pre.1.0 pre.1.1)

pub returns : goal.returns
returns c =
    let args = c.args in
    let pre = c.requires in
    record {
      after = c.feed.ensures.after ∙ front-box args.b.now args.run.now args.n args.sheet.now args.row pre.0 pre.1.0 pre.1.1;
      sheet = rw c.feed.ensures.sheet (front-sheet args.b.now args.run.now args.n args.sheet.now args.row pre.0 pre.1.0 pre.1.1);
    }
