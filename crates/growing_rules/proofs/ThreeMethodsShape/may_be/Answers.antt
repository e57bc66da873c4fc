-- The newest bar's side leaves one of the two. Assumes nothing.
use mathlib.Core.Bool.{or-false}
use Rattle.growing_rules.proofs.ShapeLaws.{no-fall-up, no-rise-down}
use Rattle.growing_rules.proofs.ThreeMethodsShape.may_be.Goals as goal

pub returns-then-last : goal.returns-then-last
returns-then-last c =
    let a = c.args in
    simp (c.may_rise.ensures, no-fall-up a.first a.last a.m c.if-last.true, or-false)

pub returns-else-last : goal.returns-else-last
returns-else-last c =
    let a = c.args in
    simp (c.may_fall.ensures, no-rise-down a.first a.last a.m c.if-last.false)
