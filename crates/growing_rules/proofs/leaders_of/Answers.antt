-- The loop's invariant: of the i newest bars no body is NaN, and their leaders are found. Assumes nothing.
use Prim.Native.Nat.{◌+◌}
use mathlib.Core.Path.{◌≡◌}
use mathlib.Core.Bool.{false}
use native.Mathlib.Omega.{arith}
use lib.ListN.{length}
use Rattle.measures.specs.Bar.{bars_of}
use Rattle.measures.specs.Window.{newest}
use Rattle.measures.proofs.WindowLaws.{newest-more, newest-none, newest-all}
use Rattle.growing_rules.specs.GrowingRule.{bodies_known}
use Rattle.growing_rules.specs.SearchSteps.{leaders_of}
use Rattle.growing_rules.proofs.GrowingLaws.{two-grow, known-newest}
use Rattle.growing_rules.proofs.leaders_of.Goals as goal

pub loop-i-init : goal.loop-i-init
unfolding bodies_known
loop-i-init c = (simp newest-none, simp (newest-none, c.no_leaders-l.ensures))

pub returns-then-is_nan : goal.returns-then-is_nan
unfolding leaders_of bodies_known
returns-then-is_nan c =
    let bars = bars_of c.args.s.now in
    let now = c.loop-i in
    let nan = rw (c.is_nan.ensures, c.body-x.ensures, c.back.ensures) at c.if-is_nan.true in
    let unknown : bodies_known (newest (now.i + 1) bars) ≡ false = rw (newest-more bars now.i (omega arith)) (simp nan) in
    rw (known-newest (now.i + 1) bars unknown)

pub loop-i-preserved : goal.loop-i-preserved
unfolding bodies_known
loop-i-preserved c =
    let bars = bars_of c.args.s.now in
    let now = c.loop-i in
    let step = newest-more bars now.i (omega arith) in
    let known = rw (c.is_nan.ensures, c.body-x.ensures, c.back.ensures) at c.if-is_nan.false in
    (rw step (simp (known, now.invariant.0)), simp (c.join-l.ensures, c.body-x.ensures, c.back.ensures, step, two-grow, now.invariant.1))

pub returns : goal.returns
unfolding leaders_of
returns c =
    let bars = bars_of c.args.s.now in
    let now = c.loop-i in
    let e : now.i ≡ length bars = omega arith in
    let whole = rw (e, newest-all bars) at now.invariant in
    simp (whole.0, whole.1)
