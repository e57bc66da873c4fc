use Prim.Native.Nat.{◌+◌, ◌≤◌}
use mathlib.Core.Path.{◌≡◌}
use lib.ListN.{length, take, drop}
use Rattle.measures.specs.Bar.{bars_of}
use Rattle.measures.specs.Fold.{extremes_of}
use Rattle.rule_types.specs.Number.{quarter_bars}
use Rattle.sliding_extremes.proofs.SlideLaws.{Joined}
use Rattle.sliding_extremes.proofs.newer.Given as goal

abbrev pub invariant-loop-k : goal.invariant-loop-k
invariant-loop-k l =
    (length l.places ≡ quarter_bars) × (l.at + l.k ≤ length (bars_of l.prices) → l.e ≡ extremes_of (take l.k (drop l.at (bars_of l.prices)))) × Joined (bars_of l.prices) l.at l.places l.k
