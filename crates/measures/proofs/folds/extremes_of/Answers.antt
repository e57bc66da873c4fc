-- The loop's invariant: so far they are the extremes of the bars so far; neither is NaN, so that one comparison is the fold's step.
use Rattle.std.proofs.Common.{ap, map, ◌∙◌, arith}
use lib.Seq.{take_all}
use Rattle.measures.specs.Bar.{bar_of_four}
use Rattle.measures.specs.Fold.{extremes_of}
use Rattle.measures.proofs.FoldLaws.{extremes-none, extremes-later}
use Rattle.measures.proofs.folds.extremes_of.Goals as goal

pub loop-four-init : goal.loop-four-init
loop-four-init c = simp (c.minus_infinity-top.ensures, c.plus_infinity-bottom.ensures) extremes-none

pub loop-four-preserved : goal.loop-four-preserved
loop-four-preserved c =
    let now = c.loop-four in
    simp (c.pick-top.ensures, c.pick-bottom.ensures, c.bar_from-b.ensures) (extremes-later c.bars_in-four-items.result.now now.four-index _ (omega arith) now.invariant)

pub returns : goal.returns
returns c =
    let fours = c.bars_in-four-items.result.now in
    c.loop-four.invariant
    ∙ ap (λ fs. extremes_of (map bar_of_four fs)) (take_all c.loop-four.four-index fours (omega arith))
    ∙ ap extremes_of c.bars_in-four-items.ensures
