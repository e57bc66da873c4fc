use mathlib.Core.Path.{◌≡◌}
use lib.ListN.{length, take}
use Rattle.measures.specs.Bar.{overlay}
use Rattle.exports.specs.Tally.{numbers_of}
use Rattle.exports.proofs.tally.put.Given as goal

abbrev pub invariant-loop-i : goal.invariant-loop-i
invariant-loop-i l = (length l.numbers ≡ length l.initial.numbers) × (l.numbers ≡ overlay l.initial.numbers 0 (take l.i (numbers_of l.tally)))
