use Prim.Native.Nat.{◌+◌, ◌*◌, ◌≤◌}
use mathlib.Core.Path.{◌≡◌}
use lib.ListN.{length, drop}
use Rattle.measures.specs.Bar.{bars_of}
use Rattle.measures.specs.Fold.{column_of}
use Rattle.rule_types.specs.Number.{quarter_bars}
use Rattle.held_extremes.proofs.ScanLaws.{Scanned}
use Rattle.held_extremes.proofs.scan.Given as goal

abbrev pub invariant-loop-i : goal.invariant-loop-i
invariant-loop-i g l =
    let s = g.S.Side in
    (l.i ≤ length (bars_of l.w)) × (length l.places ≡ 2 * quarter_bars + 1) × (l.at ≤ quarter_bars) × (quarter_bars + l.i ≤ l.at + length (bars_of l.w))
    × Scanned s.beyond l.places (l.at + 1) l.foremost (l.before + l.i) (drop l.i (column_of s.column (bars_of l.w)))
