-- `command::parse` meets its contract. Assumes nothing.
use Rattle.std.proofs.Common.{Some, None, sym, ap, ◌∙◌, arith}
use Rattle.test_replay.specs.declared.command.Command.TheVariants.{Thresholds}
use Rattle.test_replay.proofs.Laws.Command.{new-line, bad-line, bar-line, thresholds-line, call-line}
use Rattle.test_replay.proofs.command.parse.Goals as goal

pub returns-in-n : goal.returns-in-n
returns-in-n c = new-line c.args.line.now (omega arith) (omega arith)

pub returns-in_err-decode-in-98 : goal.returns-in_err-decode-in-98
returns-in_err-decode-in-98 c =
    c.from_residual.ensures
    ∙ bar-line c.args.line.now (omega arith) (omega arith) (omega arith) None (sym c.in_err-decode-in-98.was ∙ c.decode.ensures)

pub returns-in_ok-decode-in-98 : goal.returns-in_ok-decode-in-98
returns-in_ok-decode-in-98 c =
    bar-line c.args.line.now (omega arith) (omega arith) (omega arith) (Some c.in_ok-decode-in-98.field-0) (sym c.in_ok-decode-in-98.was ∙ c.decode.ensures)

pub returns-in_err-decode-in-116 : goal.returns-in_err-decode-in-116
returns-in_err-decode-in-116 c =
    c.from_residual-in_err-decode-in-116.ensures
    ∙ thresholds-line c.args.line.now (omega arith) (omega arith) (omega arith) None (sym c.in_err-decode-in-116.was ∙ c.decode-in-116.ensures)

pub returns-in_ok-decode-in-116 : goal.returns-in_ok-decode-in-116
returns-in_ok-decode-in-116 c =
    ap (λ t. Some (Thresholds t)) c.read.ensures ∙ thresholds-line c.args.line.now (omega arith) (omega arith) (omega arith) (Some c.in_ok-decode-in-116.field-0) (sym c.in_ok-decode-in-116.was ∙ c.decode-in-116.ensures)

pub returns-in_err-decode-in-99 : goal.returns-in_err-decode-in-99
returns-in_err-decode-in-99 c =
    c.from_residual-in_err-decode-in-99.ensures
    ∙ call-line c.args.line.now (omega arith) (omega arith) (omega arith) None (sym c.in_err-decode-in-99.was ∙ c.decode-in-99.ensures)

pub returns-in_ok-decode-in-99 : goal.returns-in_ok-decode-in-99
returns-in_ok-decode-in-99 c =
    ap (λ call. Some call) c.call.ensures ∙ call-line c.args.line.now (omega arith) (omega arith) (omega arith) (Some c.in_ok-decode-in-99.field-0) (sym c.in_ok-decode-in-99.was ∙ c.decode-in-99.ensures)

pub returns-in_default : goal.returns-in_default
returns-in_default c = bad-line c.args.line.now (λ a b. omega arith) (λ a b e. omega arith) (λ a b e. omega arith) (λ a b e. omega arith)

pub returns-in_default-2 : goal.returns-in_default-2
returns-in_default-2 c = bad-line c.args.line.now (λ a b. omega arith) (λ a b e. omega arith) (λ a b e. omega arith) (λ a b e. omega arith)

pub returns-in_default-3 : goal.returns-in_default-3
returns-in_default-3 c = bad-line c.args.line.now (λ a b. omega arith) (λ a b e. omega arith) (λ a b e. omega arith) (λ a b e. omega arith)

pub returns-in_default-4 : goal.returns-in_default-4
returns-in_default-4 c = bad-line c.args.line.now (λ a b. omega arith) (λ a b e. omega arith) (λ a b e. omega arith) (λ a b e. omega arith)

pub returns-in_default-5 : goal.returns-in_default-5
returns-in_default-5 c = bad-line c.args.line.now (λ a b. omega arith) (λ a b e. omega arith) (λ a b e. omega arith) (λ a b e. omega arith)

pub returns-in_default-6 : goal.returns-in_default-6
returns-in_default-6 c = bad-line c.args.line.now (λ a b. omega arith) (λ a b e. omega arith) (λ a b e. omega arith) (λ a b e. omega arith)
