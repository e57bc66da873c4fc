use Prim.Native.Nat.{◌+◌, ◌*◌}
use mathlib.Core.Path.{◌≡◌}
use lib.ListN.{length, get_or}
use Rattle.recognisers.specs.Number.{recognisers, labels}
use Rattle.tallies.specs.Tally.{row_of_counts, gain_row}
use Rattle.tallies.proofs.PlaceLaws.{changed}
use Rattle.tallies.proofs.counts.add.Given as goal

abbrev pub invariant-loop-k : goal.invariant-loop-k
invariant-loop-k l = (length l.tally ≡ recognisers) × (l.next ≡ changed (λ i row. row_of_counts (gain_row (λ c. get_or l.numbers (labels * i + c) 0) row.counts)) l.k l.tally)
