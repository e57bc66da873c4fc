use Prim.Native.Nat.{◌*◌, ◌≤◌}
use mathlib.Core.Path.{◌≡◌}
use lib.ListN.{length, take}
use Rattle.output_lines.specs.Output.{Written}
use Rattle.tally_lines.specs.Output.{lines_of_tally, row_room}
use Rattle.tally_lines.proofs.output.write_tally.Given as goal

abbrev pub invariant-loop-k : goal.invariant-loop-k
invariant-loop-k l = (length l.out ≡ length l.initial.out) × (l.place ≤ row_room * l.k) × Written l.initial.out 0 (lines_of_tally 0 (take l.k l.tally)) l.out l.place
