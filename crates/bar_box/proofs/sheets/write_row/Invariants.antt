use Prim.Native.Nat.{◌≤◌}
use mathlib.Core.Path.{◌≡◌}
use lib.ListN.{length, take}
use Rattle.recognisers.specs.Number.{recognisers}
use Rattle.recognisers.specs.Table.{codes_of}
use Rattle.measures.specs.Bar.{overlay}
use Rattle.bar_box.proofs.sheets.write_row.Given as goal

abbrev pub invariant-loop-k : goal.invariant-loop-k
invariant-loop-k l = (l.k ≤ recognisers) × (length l.sheet ≡ length l.initial.sheet) × (l.sheet ≡ overlay l.initial.sheet l.at (codes_of (take l.k l.pairs)))
