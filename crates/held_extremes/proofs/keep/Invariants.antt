use Rattle.measures.specs.Bar.{bars_of}
use Rattle.held_extremes.specs.CandidateSteps.{bar_price}
use Rattle.held_extremes.proofs.KeepLaws.{Passed}
use Rattle.held_extremes.proofs.keep.Given as goal

abbrev pub invariant-loop-i : goal.invariant-loop-i
invariant-loop-i g l =
    let s = g.S.Side in
    Passed s.beyond l.y (bar_price s.column l.before (bars_of l.w)) l.left l.initial.out l.out l.i
