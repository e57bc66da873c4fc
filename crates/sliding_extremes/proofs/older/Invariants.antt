use Prim.Native.Nat.{◌-◌}
use mathlib.Core.Path.{◌≡◌}
use lib.ListN.{length, take}
use Rattle.measures.specs.Bar.{bars_of}
use Rattle.measures.specs.Fold.{extremes_of}
use Rattle.measures.specs.Window.{newest}
use Rattle.rule_types.specs.Number.{quarter_bars}
use Rattle.sliding_extremes.proofs.SlideLaws.{Laid}
use Rattle.sliding_extremes.proofs.older.Given as goal

abbrev pub invariant-loop-k : goal.invariant-loop-k
invariant-loop-k l =
    (length l.places ≡ quarter_bars) × (l.e ≡ extremes_of (newest (quarter_bars - l.k) (take l.at (bars_of l.prices)))) × Laid (bars_of l.prices) l.at l.places l.k
