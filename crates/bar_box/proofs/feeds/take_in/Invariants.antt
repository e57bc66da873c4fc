use Prim.Native.Nat.{◌≤◌}
use mathlib.Core.Path.{◌≡◌}
use lib.ListN.{length, take, drop}
use Rattle.measures.specs.Bar.{overlay, prices_of}
use Rattle.bar_box.specs.Box.{bars_in}
use Rattle.bar_box.proofs.feeds.take_in.Given as goal

abbrev pub invariant-loop-i : goal.invariant-loop-i
invariant-loop-i l = (l.i ≤ l.old) × (length l.run ≡ 168) × (l.run ≡ overlay l.initial.run 0 (prices_of (take l.i (drop l.from (bars_in l.b.bars)))))
