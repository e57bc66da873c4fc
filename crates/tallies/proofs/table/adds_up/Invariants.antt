-- The rows passed add up to n, or one of them doesn't; each has a count for each label.
use Prim.Native.Nat.{ℕ, ◌<◌}
use mathlib.Core.Path.{◌≡◌}
use lib.ListN.{length, take}
use Rattle.recognisers.specs.Number.{labels}
use Rattle.tallies.specs.Tally.{counts_of, adds_up}
use Rattle.tallies.proofs.table.adds_up.Given as goal

abbrev pub invariant-loop-row : goal.invariant-loop-row
invariant-loop-row l = (l.all ≡ adds_up l.n (take l.row-index l.tally)) × ((j : ℕ) → j < l.row-index → length (counts_of l.tally j) ≡ labels)
