use Prim.Native.Nat.{◌≤◌}
use mathlib.Core.Path.{◌≡◌}
use lib.ListN.{length, take, drop}
use Rattle.measures.specs.Bar.{bars_of, overlay}
use Rattle.bar_box.specs.Sheet.{rows_of}
use Rattle.bar_box.proofs.sheets.label_run.Given as goal

abbrev pub invariant-loop-j : goal.invariant-loop-j
invariant-loop-j l = (l.j ≤ l.n) × (length l.sheet ≡ length l.initial.sheet) × (l.sheet ≡ overlay l.initial.sheet l.at (rows_of l.t l.len (take l.first (bars_of l.prices)) (take l.j (drop l.first (bars_of l.prices)))))
