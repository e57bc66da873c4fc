-- The newest bar's side leaves one of the two. Assumes nothing.
use mathlib.Core.Bool.{or-false}
use Rattle.growing_rules.proofs.ShapeLaws.{no-top-up, no-bottom-down}
use Rattle.growing_rules.proofs.TowerShape.may_be.Goals as goal

pub returns-then-last : goal.returns-then-last
returns-then-last c =
    let a = c.args in
    simp (c.may_be_bottom.ensures, no-top-up a.first a.last a.m c.if-last.true)

pub returns-else-last : goal.returns-else-last
returns-else-last c =
    let a = c.args in
    simp (c.may_be_top.ensures, no-bottom-down a.first a.last a.m c.if-last.false, or-false)
