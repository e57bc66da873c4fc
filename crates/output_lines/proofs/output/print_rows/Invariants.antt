use Prim.Native.Nat.{◌+◌, ◌*◌, ◌≤◌}
use mathlib.Core.Path.{◌≡◌}
use lib.ListN.{length, drop}
use Rattle.measures.specs.Bar.{overlay}
use Rattle.recognisers.specs.Number.{recognisers}
use Rattle.output_lines.specs.Output.{row_lines, longest_row, Written}
use Rattle.output_lines.proofs.output.print_rows.Given as goal

abbrev pub invariant-loop-k : goal.invariant-loop-k
invariant-loop-k l =
    let rest = row_lines l.ordinal l.k (drop (2 * l.k) l.fn.sheet) in
    (length l.pairs ≡ recognisers) × (length l.out ≡ length l.initial.out) × (l.place ≤ l.at + longest_row * l.k) × Written l.initial.out l.at (row_lines l.ordinal 0 l.fn.sheet) (overlay l.out l.place rest) (l.place + length rest)
