use Rattle.tallies.specs.CountSteps.{Counted}
use Rattle.tallies.proofs.counts.count_rows.Given as goal

abbrev pub invariant-loop-i : goal.invariant-loop-i
invariant-loop-i l = Counted l.sheet l.i l.numbers
