-- Each shape's test is of the window's ends and its middle's extremes, and a window that fails it has no label. Assumes nothing.
use mathlib.Core.Path.{sym, ◌∙◌}
use native.Mathlib.Omega.{arith}
use Rattle.measures.specs.Bar.{bars_of}
use Rattle.growing_rules.proofs.GrowingNeeds.{no-window}
use Rattle.growing_rules.proofs.ShapeLaws.{methods_test, tower_test}
use Rattle.growing_rules.proofs.try_window.Goals as goal

pub found_with-methods-requires : goal.found_with-methods-requires
found_with-methods-requires c =
    let is = rw (c.back-last.ensures, c.back-first.ensures, c.requires.3) at c.may_be-may_be_four.ensures in
    (c.requires.0, c.requires.1, rw c.requires.2, is, λ unfit. no-window methods_test (bars_of c.args.w.now) c.args.n (omega arith) (sym is ∙ unfit))

pub found_with-tower-requires : goal.found_with-tower-requires
found_with-tower-requires c =
    let is = rw (c.back-last.ensures, c.back-first.ensures, c.requires.3) at c.may_be-may_be_seventeen.ensures in
    (c.requires.0, c.requires.1, rw c.requires.2, is, λ unfit. no-window tower_test (bars_of c.args.w.now) c.args.n (omega arith) (sym is ∙ unfit))
