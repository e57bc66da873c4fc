use Prim.Native.Nat.{◌*◌, ◌≤◌}
use mathlib.Core.Path.{◌≡◌}
use lib.ListN.{length, take}
use Rattle.recognisers.specs.Number.{places}
use Rattle.measures.specs.Bar.{overlay, prices_of}
use Rattle.box_record.specs.Box.{bars_in}
use Rattle.box_record.proofs.looks.pair_back.Given as goal

abbrev pub invariant-loop-i : goal.invariant-loop-i
invariant-loop-i l = (l.i ≤ l.kept) × (length l.run ≡ 4 * places) × (l.run ≡ overlay l.initial.run 0 (prices_of (take l.i (bars_in l.bars))))
