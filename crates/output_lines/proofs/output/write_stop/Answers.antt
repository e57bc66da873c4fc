-- The refusal, or the place behind the refusal and its comma. Assumes nothing.
use native.Mathlib.Omega.{arith}
use Rattle.answers.specs.declared.refusals.Refusal.TheVariants.{BadPrice}
use Rattle.input_lines.specs.Lines.{line_feed, comma}
use Rattle.output_lines.specs.Output.{numeral, field, refusal_part, refusal_line}
use Rattle.output_lines.proofs.OutputLaws.{number-most, written_on}
use Rattle.output_lines.proofs.output.write_stop.Goals as goal

pub returns-in-By : goal.returns-in-By
unfolding refusal_line
returns-in-By c =
    let part = c.write_part.ensures in
    rw c.in-By.is (omega (arith, part.0), part.1)

pub returns-in-Price : goal.returns-in-Price
unfolding refusal_line
returns-in-Price c =
    let args = c.args in
    let s = args.out.now in
    let x = refusal_part args.ordinal BadPrice comma in
    let y = field (numeral c.in-Price.place) line_feed in
    let y-most = number-most c.in-Price.place line_feed in
    let part = c.write_part-behind.ensures in
    let last = rw c.from.ensures at c.write_number.ensures in
    let all = written_on s _ x _ _ y _ _ (omega (arith, part.0, y-most)) part.1 last in
    rw c.in-Price.is (omega (arith, part.0, y-most, last.0), all)
