-- The first i bars are in place.
use Rattle.std.proofs.Common.{◌≡◌, map, take}
use Rattle.measures.specs.Bar.{prices_of, overlay}
use Rattle.recognisers.proofs.history.prices_of.Given as goal

abbrev pub invariant-loop-i : goal.invariant-loop-i
invariant-loop-i g l = l.out ≡ overlay l.initial.out 0 (prices_of (take l.i (map g.B.ToBar.bar l.bars)))
