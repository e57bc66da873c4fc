-- Three fields, each behind the one before. Assumes nothing.
use mathlib.Core.List.{◌++◌}
use native.Mathlib.Omega.{arith}
use Rattle.recognisers.specs.Refusal.{refusal_number}
use Rattle.input_lines.specs.Lines.{comma}
use Rattle.output_lines.specs.Output.{numeral, field, refused_word, refusal_part}
use Rattle.output_lines.proofs.OutputLaws.{number-most, written_on}
use Rattle.output_lines.proofs.output.write_part.Goals as goal

pub write_number-requires : goal.write_number-requires
write_number-requires c = omega (arith, number-most c.args.ordinal comma)

pub returns : goal.returns
unfolding refusal_part
returns c =
    let args = c.args in
    let s = args.out.now in
    let x = field refused_word comma in
    let y = field (numeral args.ordinal) comma in
    let z = field (numeral (refusal_number args.why)) args.end in
    let y-most = number-most args.ordinal comma in
    let z-most = number-most (refusal_number args.why) args.end in
    let last = rw (c.from.ensures, c.refusal_number.ensures) at c.write_number.ensures in
    let two = written_on s _ x _ _ y _ _ (omega (arith, y-most)) c.write_field-a.ensures c.write_number-b.ensures in
    let all = written_on s _ (x ++ y) _ _ z _ _ (omega (arith, y-most, z-most)) two last in
    (omega (arith, y-most, z-most, last.0), all)
