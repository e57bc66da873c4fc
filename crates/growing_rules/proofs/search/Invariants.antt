use Prim.Native.Nat.{◌≤◌}
use mathlib.Core.Path.{◌≡◌}
use Rattle.measures.specs.Bar.{bars_of}
use Rattle.middles.specs.MiddleSteps.{middle_at}
use Rattle.growing_rules.specs.SearchSteps.{searched_of}
use Rattle.growing_rules.proofs.search.Given as goal

abbrev pub invariant-loop-n : goal.invariant-loop-n
invariant-loop-n l = (5 ≤ l.n) × (l.m ≡ middle_at (bars_of l.w) l.n) × (l.found ≡ searched_of l.ends (bars_of l.w) l.n)
