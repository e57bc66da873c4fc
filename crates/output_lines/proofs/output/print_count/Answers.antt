-- Three fields, each behind the one before, where there is room. Assumes nothing.
use mathlib.Core.List.{◌++◌}
use native.Mathlib.Omega.{arith}
use Rattle.label_texts.specs.LabelText.{bytes_of}
use Rattle.input_lines.specs.Lines.{line_feed, comma}
use Rattle.output_lines.specs.Output.{numeral, field, longest_count, count_line}
use Rattle.output_lines.proofs.OutputLaws.{number-most, label-most, written_on, printed, unprinted}
use Rattle.output_lines.proofs.output.print_count.Goals as goal

pub returns-then-left-lt-LONGEST_COUNT : goal.returns-then-left-lt-LONGEST_COUNT
returns-then-left-lt-LONGEST_COUNT c =
    let args = c.args in
    unprinted longest_count (count_line args.k args.code args.count) args.out.now args.at (omega arith)

pub write_label-b-requires : goal.write_label-b-requires
write_label-b-requires c = omega (arith, number-most c.args.k comma)

pub write_number-requires : goal.write_number-requires
write_number-requires c =
    let args = c.args in
    omega (arith, number-most args.k comma, label-most args.code comma)

pub returns : goal.returns
unfolding count_line
returns c =
    let args = c.args in
    let s = args.out.now in
    let x = field (numeral args.k) comma in
    let y = field (bytes_of args.code) comma in
    let z = field (numeral args.count) line_feed in
    let x-most = number-most args.k comma in
    let y-most = label-most args.code comma in
    let z-most = number-most args.count line_feed in
    let two = written_on s _ x _ _ y _ _ (omega (arith, x-most, y-most)) c.write_number-a.ensures c.write_label-b.ensures in
    let all = written_on s _ (x ++ y) _ _ z _ _ (omega (arith, x-most, y-most, z-most)) two c.write_number.ensures in
    printed longest_count (x ++ y ++ z) s _ _ _ (omega arith) all
