-- The loop's invariant: the first k places have the extremes of their windows, and e those of the bars passed. Assumes nothing.
use Prim.Native.Nat.{◌+◌, ◌<◌}
use mathlib.Core.Path.{◌≡◌, ap, ◌∙◌}
use native.Mathlib.Omega.{arith}
use lib.ListN.{length, take, drop, length-set}
use Rattle.measures.specs.Bar.{bars_of}
use Rattle.measures.specs.Fold.{extremes_of}
use Rattle.measures.proofs.RunLaws.{length-bars}
use Rattle.rule_types.specs.Number.{quarter_bars, numbers}
use Rattle.rule_types.proofs.ListLaws.{length-numbers}
use Rattle.sliding_extremes.specs.WindowExtreme.{window_to, window_extremes}
use Rattle.sliding_extremes.specs.WindowExtremeSteps.{older_extremes}
use Rattle.sliding_extremes.proofs.SlideLaws.{stands, joined-next, next-newer, window-joined}
use Rattle.sliding_extremes.proofs.newer.Goals as goal

pub loop-k-init : goal.loop-k-init
unfolding older_extremes
loop-k-init c = (ap length c.requires.1 ∙ length-numbers _ quarter_bars 0, λ h. c.no_bars-e.ensures, c.requires.1)

pub overflow_add-at : goal.overflow_add-at
overflow_add-at c =
    omega (arith, length-bars c.args.prices.now, c.requires.0, c.loop-k-test.true)

pub overflow_add-at-in-loop-k : goal.overflow_add-at-in-loop-k
overflow_add-at-in-loop-k c =
    omega (arith, length-bars c.args.prices.now, c.requires.0, c.loop-k-test.true)

pub loop-k-preserved : goal.loop-k-preserved
loop-k-preserved c =
    let bars = bars_of c.args.prices.now in
    let at = c.args.at in
    let k = c.loop-k.k in
    let inv = c.loop-k.invariant in
    let few : k < quarter_bars = c.loop-k-test.true in
    let newer = c.with_newer-e in
    let grown : at + k < length bars → newer.result ≡ extremes_of (take (k + 1) (drop at bars)) = λ h. newer.ensures ∙ rw (c.bar_or_none-b.ensures, inv.1 (omega (arith, h))) (next-newer bars at k h) in
    let w : c.join.result ≡ extremes_of (window_to bars (at + k)) = c.join.ensures ∙ rw c.count-n.ensures (window-joined bars at k few _ newer.result (stands bars at c.loop-k.places k _ few inv.2) grown) in
    (simp length-set inv.0, λ h. grown (omega (arith, h)), joined-next bars at c.loop-k.places k c.join.result few inv.2 w)

pub returns : goal.returns
unfolding window_extremes numbers
returns c = let all : c.loop-k.k ≡ quarter_bars = omega arith in rw all at c.loop-k.invariant.2
