-- The loop's invariant: the extremes of the middle at n bars, and what is found in the windows of fewer. Assumes nothing.
use Prim.Native.Nat.{◌+◌}
use mathlib.Core.Path.{◌≡◌, ◌∙◌}
use native.Mathlib.Omega.{arith}
use Rattle.measures.specs.Bar.{bars_of}
use Rattle.growing_rules.proofs.GrowingNeeds.{search-ends, searched-none}
use Rattle.middles.proofs.MiddleLaws.{at-grown}
use Rattle.growing_rules.proofs.search.Goals as goal

pub loop-n-init : goal.loop-n-init
loop-n-init c =
    (omega arith, c.requires, c.no_match-found.ensures ∙ searched-none c.args.ends (bars_of c.args.w.now))

pub returns-then-not-is_beyond : goal.returns-then-not-is_beyond
returns-then-not-is_beyond c =
    let a = c.args in
    let w = bars_of a.w.now in
    let now = c.loop-n in
    let unmet = rw (c.is_beyond.ensures, c.back-last.ensures, c.grow-m.ensures, now.invariant.1, at-grown w now.n (omega arith)) at c.if-not-is_beyond.true in
    c.try_window-found.ensures ∙ search-ends w (now.n + 1) (omega arith) (omega arith) (unmet) a.ends

pub loop-n-preserved : goal.loop-n-preserved
loop-n-preserved c =
    let now = c.loop-n in
    let w = bars_of c.args.w.now in
    (omega arith, rw (c.grow-m.ensures, now.invariant.1, at-grown w now.n (omega arith)), c.try_window-found.ensures)

pub returns : goal.returns
returns c =
    let now = c.loop-n in
    let e : now.n ≡ 10 = omega arith in
    now.invariant.2 ∙ rw e
