-- A line with a comma too few, one too many, and one with three. Assumes nothing.
use borrow.Author.Rules.{rules}
use mathlib.Core.Path.{◌≡◌}
use Rattle.std.specs.Prelude.{Err}
use Rattle.recognisers.specs.Refusal.{first_true}
use Rattle.input_lines.specs.Lines.{comma}
use Rattle.text.specs.declared.line_text.LineError.TheVariants.{BadShape}
use Rattle.text.specs.LineText.{Line, line_verdict, said_of, fields_line}
use Rattle.input_lines.proofs.LineLaws.{pieces-some}
use Rattle.text.proofs.LineTextLaws.{too_many}
use Rattle.text.proofs.line_text.fields.Goals as goal

pub returns-in_err-open : goal.returns-in_err-open
unfolding fields_line said_of line_verdict first_true
returns-in_err-open c =
    let e : ◌≡◌ {A = Line} c.from_residual.result (Err BadShape) = search rules in
    rw (e, c.in_err-open.ensures.1)

pub returns-in_err-close : goal.returns-in_err-close
unfolding fields_line said_of line_verdict first_true
returns-in_err-close c =
    let e : ◌≡◌ {A = Line} c.from_residual-in_err-close.result (Err BadShape) = search rules in
    rw (e, c.in_ok-open.ensures, c.in_err-close.ensures.1)

pub returns-in_err-high : goal.returns-in_err-high
unfolding fields_line said_of line_verdict first_true
returns-in_err-high c =
    let e : ◌≡◌ {A = Line} c.from_residual-in_err-high.result (Err BadShape) = search rules in
    rw (e, c.in_ok-open.ensures, c.in_ok-close.ensures, c.in_err-high.ensures.1)

pub returns-in-Ok : goal.returns-in-Ok
returns-in-Ok c =
    rw (c.in_ok-open.ensures, c.in_ok-close.ensures, c.in_ok-high.ensures, c.in-Ok.ensures) (too_many _ _ _ _ _ (pieces-some comma _ _))
