use Prim.Native.Nat.{◌+◌, ◌*◌}
use mathlib.Core.Path.{◌≡◌}
use lib.ListN.{length, get_or}
use Rattle.recognisers.specs.Number.{labels}
use Rattle.tallies.proofs.PlaceLaws.{changed}
use Rattle.tallies.proofs.counts.add_row.Given as goal

abbrev pub invariant-loop-c : goal.invariant-loop-c
invariant-loop-c l = (length l.initial.counts ≡ labels) × (l.counts ≡ changed (λ i count. count + get_or l.numbers (labels * l.k + i) 0) l.c l.initial.counts)
