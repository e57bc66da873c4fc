-- No line, or that of print_count. Assumes nothing.
use native.Mathlib.Omega.{arith}
use borrow.Author.Tests.{ne_eqb}
use Rattle.output_lines.specs.Output.{longest_count}
use Rattle.output_lines.proofs.OutputLaws.{written, count_most}
use Rattle.tally_lines.proofs.output.write_cell.Goals as goal

pub returns-else-count-eq0 : goal.returns-else-count-eq0
returns-else-count-eq0 c =
    let args = c.args in
    let did = written longest_count _ args.out.now args.at _ _ c.requires c.print_count.ensures in
    rw (ne_eqb _ _ c.if-count-eq0.false) (omega (arith, did.0, count_most args.k args.c args.count), did)
