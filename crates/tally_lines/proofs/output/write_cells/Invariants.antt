use Prim.Native.Nat.{◌+◌, ◌*◌, ◌≤◌}
use mathlib.Core.Path.{◌≡◌}
use lib.ListN.{length, take}
use Rattle.output_lines.specs.Output.{longest_count, Written}
use Rattle.tally_lines.specs.Output.{cell_lines}
use Rattle.tally_lines.proofs.output.write_cells.Given as goal

abbrev pub invariant-loop-c : goal.invariant-loop-c
invariant-loop-c l = (length l.out ≡ length l.initial.out) × (l.place ≤ l.at + longest_count * l.c) × Written l.initial.out l.at (cell_lines l.k 0 (take l.c l.row.counts)) l.out l.place
