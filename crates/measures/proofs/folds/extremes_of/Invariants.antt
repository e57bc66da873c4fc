use Rattle.std.proofs.Common.{◌≡◌, map, take}
use Rattle.measures.specs.Bar.{bar_of_four}
use Rattle.measures.specs.Fold.{extremes_of}
use Rattle.measures.proofs.folds.extremes_of.Given as goal

abbrev pub invariant-loop-four : goal.invariant-loop-four
invariant-loop-four l =
    record { highest = l.top; lowest = l.bottom } ≡ extremes_of (map bar_of_four (take l.four-index l.four-items))
