-- The loop's invariant: the places from k on have their extremes, and e those of the next. Assumes nothing.
use Prim.Native.Nat.{◌+◌, ◌-◌, ◌<◌}
use mathlib.Core.Path.{◌≡◌, sym, ap, ◌∙◌}
use native.Mathlib.Omega.{arith}
use lib.ListN.{take, length-set}
use Rattle.measures.specs.Bar.{bars_of}
use Rattle.measures.specs.Fold.{extremes_of}
use Rattle.measures.proofs.WindowLaws.{newest-none}
use Rattle.rule_types.specs.Number.{quarter_bars}
use Rattle.sliding_extremes.specs.WindowExtremeSteps.{older_extremes}
use Rattle.sliding_extremes.proofs.SlideLaws.{none-laid, laid_next, next-older}
use Rattle.sliding_extremes.proofs.older.Goals as goal

pub loop-k-init : goal.loop-k-init
loop-k-init c =
    let bars = bars_of c.args.prices.now in
    (c.requires.1, c.no_bars-e.ensures ∙ ap extremes_of (sym (newest-none (take c.args.at bars))), none-laid bars c.args.at c.args.places.now c.requires.1)

pub loop-k-preserved : goal.loop-k-preserved
loop-k-preserved c =
    let bars = bars_of c.args.prices.now in
    let at = c.args.at in
    let inv = c.loop-k.invariant in
    let k = c.loop-k.k - 1 in
    let some : k < quarter_bars = omega arith in
    let here : c.loop-k.k ≡ k + 1 = omega arith in
    let more : quarter_bars - (k + 1) + 1 ≡ quarter_bars - k = omega arith in
    let is = rw here at inv.1 in
    (simp length-set inv.0, c.next_older-e.ensures ∙ rw (is, ← more) (next-older bars at c.requires.0 (quarter_bars - (k + 1))), laid_next bars at c.loop-k.places k c.loop-k.e some inv.0 is (rw here at inv.2))

pub returns : goal.returns
unfolding older_extremes
returns c = let none : c.loop-k.k ≡ 0 = omega arith in rw none at c.loop-k.invariant.2
