-- No line, or four fields, each behind the one before. Assumes nothing.
use mathlib.Core.List.{◌++◌}
use mathlib.Core.Path.{sym}
use native.Mathlib.Omega.{arith}
use borrow.Author.Tests.{eq-eqb, ne_eqb}
use Rattle.measures.proofs.Overlay.{overlay-none}
use Rattle.label_texts.specs.LabelText.{bytes_of}
use Rattle.input_lines.specs.Lines.{line_feed, comma}
use Rattle.output_lines.specs.Output.{numeral, field, row_line}
use Rattle.output_lines.proofs.OutputLaws.{number-most, label-most, written_on}
use Rattle.output_lines.proofs.output.write_pair.Goals as goal

pub returns-then-v1-eq0 : goal.returns-then-v1-eq0
returns-then-v1-eq0 c =
    let args = c.args in
    rw (eq-eqb _ _ c.if-v1-eq0.true) (omega arith, sym (overlay-none args.out.now args.at))

pub write_number-b-requires : goal.write_number-b-requires
write_number-b-requires c = omega (arith, number-most c.args.ordinal comma)

pub write_label-c-requires : goal.write_label-c-requires
write_label-c-requires c =
    let args = c.args in
    omega (arith, number-most args.ordinal comma, number-most args.k comma)

pub write_label-requires : goal.write_label-requires
write_label-requires c =
    let args = c.args in
    omega (arith, number-most args.ordinal comma, number-most args.k comma, label-most args.v1 comma)

pub returns : goal.returns
unfolding row_line
returns c =
    let args = c.args in
    let s = args.out.now in
    let x = field (numeral args.ordinal) comma in
    let y = field (numeral args.k) comma in
    let z = field (bytes_of args.v1) comma in
    let w = field (bytes_of args.v2) line_feed in
    let x-most = number-most args.ordinal comma in
    let y-most = number-most args.k comma in
    let z-most = label-most args.v1 comma in
    let w-most = label-most args.v2 line_feed in
    let two = written_on s _ x _ _ y _ _ (omega (arith, x-most, y-most)) c.write_number-a.ensures c.write_number-b.ensures in
    let three = written_on s _ (x ++ y) _ _ z _ _ (omega (arith, x-most, y-most, z-most)) two c.write_label-c.ensures in
    rw (ne_eqb _ _ c.if-v1-eq0.false) (written_on s _ (x ++ y ++ z) _ _ w _ _ (omega (arith, x-most, y-most, z-most, w-most)) three c.write_label.ensures)
