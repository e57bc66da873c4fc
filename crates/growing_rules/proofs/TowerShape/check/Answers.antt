-- What the ends and the extremes answer is given; the bodies, and the variance of the newest bar's side, are left. Assumes nothing.
use mathlib.Core.Path.{sym, ◌∙◌}
use Rattle.measures.specs.Bar.{bars_of}
use Rattle.growing_rules.proofs.ShapeLaws.{no-tower, tower-up, tower-down}
use Rattle.growing_rules.proofs.TowerShape.check.Goals as goal

pub returns-then-last : goal.returns-then-last
returns-then-last c =
    let up = rw c.last_bar-last.ensures at c.if-last.true in
    let leads = sym c.do_ends_lead.ensures ∙ c.if-do_ends_lead.true in
    simp (c.pick.ensures, c.variance-level.ensures, c.inner.ensures) (sym (rw leads at (tower-up (bars_of c.args.s.now) up c.requires)))

pub returns-else-last : goal.returns-else-last
returns-else-last c =
    let down = rw c.last_bar-last.ensures at c.if-last.false in
    let leads = sym c.do_ends_lead.ensures ∙ c.if-do_ends_lead.true in
    simp (c.pick-else-last.ensures, c.variance-level-else-last.ensures, c.inner-else-last.ensures) (sym (rw leads at (tower-down (bars_of c.args.s.now) down c.requires)))

pub returns-else-do_ends_lead : goal.returns-else-do_ends_lead
returns-else-do_ends_lead c =
    sym (no-tower (bars_of c.args.s.now) (sym c.do_ends_lead.ensures ∙ c.if-do_ends_lead.false))
