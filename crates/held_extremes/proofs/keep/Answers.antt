-- The places passed are put over the others, and make no room. Assumes nothing.
use native.Mathlib.Omega.{arith}
use Rattle.measures.specs.Bar.{bars_of}
use Rattle.held_extremes.specs.CandidateSteps.{bar_price}
use Rattle.held_extremes.proofs.KeepLaws.{none-passed, room-here, one-passed, all-passed}
use Rattle.held_extremes.proofs.keep.Goals as goal

pub loop-i-init : goal.loop-i-init
loop-i-init g c = let s = g.S.Side in none-passed s.beyond c.args.y (bar_price s.column c.args.before (bars_of c.args.w.now)) c.args.left.now c.args.out.now

pub returns-then-is_room : goal.returns-then-is_room
returns-then-is_room g c =
    let s = g.S.Side in
    room-here s.beyond c.args.y (bar_price s.column c.args.before (bars_of c.args.w.now)) c.args.left.now c.args.out.now _ c.loop-i.i c.is_room.result c.loop-i-test.true c.is_room.ensures c.if-is_room.true c.loop-i.invariant

pub loop-i-preserved : goal.loop-i-preserved
loop-i-preserved g c =
    let s = g.S.Side in
    one-passed s.beyond c.args.y (bar_price s.column c.args.before (bars_of c.args.w.now)) c.args.left.now c.args.out.now _ c.loop-i.i c.is_room.result c.loop-i-test.true c.requires c.is_room.ensures c.if-is_room.false c.loop-i.invariant

pub returns : goal.returns
returns g c =
    let s = g.S.Side in
    all-passed s.beyond c.args.y (bar_price s.column c.args.before (bars_of c.args.w.now)) c.args.left.now c.args.out.now _ c.loop-i.i (omega arith) c.loop-i.invariant
