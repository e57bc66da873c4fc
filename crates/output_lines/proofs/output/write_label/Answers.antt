-- The label's bytes. Assumes nothing.
use native.Mathlib.Omega.{arith}
use Rattle.label_texts.proofs.LabelLaws.{short}
use Rattle.output_lines.proofs.output.write_label.Goals as goal

pub write_field-requires : goal.write_field-requires
write_field-requires c = rw (c.as_bytes.ensures.value, c.label_of.ensures) (omega (arith, short c.args.code))

pub returns : goal.returns
returns c = rw (c.as_bytes.ensures.value, c.label_of.ensures) at c.write_field.ensures
