-- The bytes that count behind none, and those of s behind them. Assumes nothing.
use mathlib.Core.Path.{◌≡◌}
use lib.ListN.{length}
use Prim.Native.Nat.{suc}
use Rattle.rule_types.specs.Number.{longest_line}
use Rattle.input_lines.proofs.LineLaws.{filled}
use Rattle.input_lines.proofs.lines.extend.Goals as goal

pub returns : goal.returns
returns c =
    let all : length c.args.line.bytes ≡ suc longest_line = c.well_formed.0.1.1.0.1.0.1 in
    filled c.args.line c.args.s.now _ _ _ _ all c.min-begun.ensures c.min-added.ensures c.copy_from_slice.ensures.after c.copy_from_slice-2.ensures.after
