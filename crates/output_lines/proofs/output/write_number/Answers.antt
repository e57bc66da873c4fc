-- The digits that io counts are the numeral. Assumes nothing.
use mathlib.Core.Path.{◌∙◌}
use native.Mathlib.Omega.{arith}
use Rattle.output_lines.proofs.NumeralLaws.{fewest-numeral, numeral-short}
use Rattle.output_lines.proofs.output.write_number.Goals as goal

pub write_field-requires : goal.write_field-requires
write_field-requires c =
    let args = c.args in
    let d = c.decimal-n_digits in
    let text = d.ensures.digits ∙ fewest-numeral args.n d.result (omega arith) d.ensures.len in
    rw text (omega (arith, numeral-short args.n))

pub returns : goal.returns
returns c =
    let args = c.args in
    let d = c.decimal-n_digits in
    let text = d.ensures.digits ∙ fewest-numeral args.n d.result (omega arith) d.ensures.len in
    rw text at c.write_field.ensures
