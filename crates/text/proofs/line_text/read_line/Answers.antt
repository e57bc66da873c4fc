-- A line of at most 80 bytes is what its fields say. Assumes nothing.
use Rattle.std.specs.Prelude.{Err}
use Rattle.text.specs.declared.line_text.LineError.TheVariants.{BadShape}
use Rattle.text.specs.LineText.{line_of, fields_line}
use Rattle.text.proofs.LineTextLaws.{too_long, short-enough, answered}
use Rattle.text.proofs.line_text.read_line.Goals as goal

pub returns-then-s-gt-LONGEST_LINE : goal.returns-then-s-gt-LONGEST_LINE
unfolding line_of
returns-then-s-gt-LONGEST_LINE c =
    let all = answered c.args.s.now (Err BadShape) (rw (too_long _ _ c.if-s-gt-LONGEST_LINE.true)) in
    record { answer = all.0; number = all.1.0; place = all.1.1 }

pub returns : goal.returns
unfolding line_of fields_line
returns c =
    let all = answered c.args.s.now c.fields.result (rw (short-enough _ _ c.if-s-gt-LONGEST_LINE.false) c.fields.ensures) in
    record { answer = all.0; number = all.1.0; place = all.1.1 }
