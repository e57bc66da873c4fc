use mathlib.Core.Path.{◌≡◌}
use lib.ListN.{length}
use Rattle.tallies.specs.Count.{cells}
use Rattle.tallies.proofs.CountLaws.{Passed}
use Rattle.tallies.proofs.counts.count_row.Given as goal

abbrev pub invariant-loop-k : goal.invariant-loop-k
invariant-loop-k l = (length l.initial.numbers ≡ cells) × (Passed l.sheet l.i l.k l.numbers)
