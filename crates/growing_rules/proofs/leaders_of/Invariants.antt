use mathlib.Core.Path.{◌≡◌}
use mathlib.Core.Bool.{true}
use Rattle.measures.specs.Bar.{bars_of}
use Rattle.measures.specs.Window.{newest}
use Rattle.growing_rules.specs.GrowingRule.{bodies_known}
use Rattle.growing_rules.specs.SearchSteps.{two_of}
use Rattle.growing_rules.proofs.leaders_of.Given as goal

abbrev pub invariant-loop-i : goal.invariant-loop-i
invariant-loop-i l = (bodies_known (newest l.i (bars_of l.s)) ≡ true) × (l.l ≡ two_of (newest l.i (bars_of l.s)))
