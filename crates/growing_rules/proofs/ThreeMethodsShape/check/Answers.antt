-- What the ends and the extremes answer is given; the closes of the newest bar's side are left. Assumes nothing.
use mathlib.Core.Path.{sym}
use Rattle.measures.specs.Bar.{bars_of}
use Rattle.growing_rules.proofs.ShapeLaws.{methods-up, methods-down}
use Rattle.growing_rules.proofs.ThreeMethodsShape.check.Goals as goal

pub returns-then-last : goal.returns-then-last
returns-then-last c =
    let up = rw c.last_bar-last.ensures at c.if-last.true in
    simp (c.pick.ensures, c.highest.ensures, c.inner.ensures, c.first_bar-first.ensures) (sym (methods-up (bars_of c.args.s.now) up c.requires))

pub returns-else-last : goal.returns-else-last
returns-else-last c =
    let down = rw c.last_bar-last.ensures at c.if-last.false in
    simp (c.pick-else-last.ensures, c.lowest.ensures, c.inner-else-last.ensures, c.first_bar-first.ensures) (sym (methods-down (bars_of c.args.s.now) down c.requires))
