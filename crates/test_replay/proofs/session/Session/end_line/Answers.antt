-- `session::Session::end_line` meets its contract. Each arm of the match says what the line asks for. Assumes nothing.
use mathlib.Core.Bool.{false≢true}
use Rattle.std.proofs.Common.{◌≡◌, Some, None, length, refl, sym, ap, ◌∙◌, arith}
use Rattle.std.proofs.lemmas.Result.{err_from_is_err_and}
use Rattle.recognisers.specs.Export.{bar_bytes}
use Rattle.test_replay.specs.Command.{command_of}
use Rattle.test_replay.specs.Session.{history_after, thresholds_after, is_refused}
use Rattle.test_replay.specs.declared.command.Command.TheVariants.{New}
use Rattle.test_replay.proofs.Laws.Session.{executes, bar-kept, bar-refused, or-ok, or-err}
use Rattle.test_replay.proofs.session.Session.end_line.Goals as goal

pub returns-in-New-clause-executes : goal.returns-in-New-clause-executes
unfolding history_after thresholds_after is_refused
returns-in-New-clause-executes g c =
    let asked = c.parse-command.ensures ∙ ap command_of c.as_slice.ensures.value in
    let k : Some New ≡ command_of c.args.self.now.line.items = rw c.in-New.is at (sym c.in_ok-ok_or.ensures.ok_part ∙ asked) in
    executes _ _ _ _ (Some New) k c.clear-in-New.ensures refl (λ bad. absurd (false≢true bad))

pub returns-in-Thresholds-clause-executes : goal.returns-in-Thresholds-clause-executes
unfolding history_after thresholds_after is_refused
returns-in-Thresholds-clause-executes g c =
    let asked = c.parse-command.ensures ∙ ap command_of c.as_slice.ensures.value in
    let k = rw c.in-Thresholds.is at (sym c.in_ok-ok_or.ensures.ok_part ∙ asked) in
    executes _ _ _ _ _ k refl refl (λ bad. absurd (false≢true bad))

pub returns-in_ok-write_number-in-Call-clause-executes : goal.returns-in_ok-write_number-in-Call-clause-executes
unfolding history_after thresholds_after is_refused
returns-in_ok-write_number-in-Call-clause-executes g c =
    let asked = c.parse-command.ensures ∙ ap command_of c.as_slice.ensures.value in
    let k = rw c.in-Call.is at (sym c.in_ok-ok_or.ensures.ok_part ∙ asked) in
    executes _ _ _ _ _ k refl refl (λ bad. absurd (false≢true bad))

pub returns-in_err-write_number-in-Call-clause-executes : goal.returns-in_err-write_number-in-Call-clause-executes
unfolding history_after thresholds_after is_refused
returns-in_err-write_number-in-Call-clause-executes g c =
    let asked = c.parse-command.ensures ∙ ap command_of c.as_slice.ensures.value in
    let k = rw c.in-Call.is at (sym c.in_ok-ok_or.ensures.ok_part ∙ asked) in
    executes _ _ _ _ _ k refl refl (λ bad. absurd (false≢true bad))

pub returns-in_err-ok_or-clause-executes : goal.returns-in_err-ok_or-clause-executes
unfolding history_after thresholds_after is_refused
returns-in_err-ok_or-clause-executes g c =
    let asked = c.parse-command.ensures ∙ ap command_of c.as_slice.ensures.value in
    let none : c.parse-command.result ≡ None = c.in_err-ok_or.ensures.ok_part in
    let named = rw none at c.in_err-ok_or.ensures.value in
    let p = err_from_is_err_and c.from_residual.result c.from_residual.ensures.1 in
    executes _ _ _ _ None (sym none ∙ asked) refl refl (λ bad. rw (p.1, p.2) (cc named))

pub returns-in_ok-or-in-Bar-clause-executes : goal.returns-in_ok-or-in-Bar-clause-executes
unfolding history_after thresholds_after is_refused
returns-in_ok-or-in-Bar-clause-executes g c =
    let asked = c.parse-command.ensures ∙ ap command_of c.as_slice.ensures.value in
    let k = rw c.in-Bar.is at (sym c.in_ok-ok_or.ensures.ok_part ∙ asked) in
    let e = c.try_extend_from_slice.ensures in
    let size : length c.in-Bar.bar ≡ bar_bytes = omega arith in
    let kept = bar-kept _ _ _ c.try_extend_from_slice.result size (or-ok _ _ _ c.in_ok-or-in-Bar.ensures) e.variant.0 e.ok in
    executes _ _ _ _ _ k kept.0 refl (λ bad. absurd (false≢true (sym kept.1 ∙ bad)))

pub returns-in_err-or-in-Bar-clause-executes : goal.returns-in_err-or-in-Bar-clause-executes
unfolding history_after thresholds_after is_refused
returns-in_err-or-in-Bar-clause-executes g c =
    let asked = c.parse-command.ensures ∙ ap command_of c.as_slice.ensures.value in
    let k = rw c.in-Bar.is at (sym c.in_ok-ok_or.ensures.ok_part ∙ asked) in
    let e = c.try_extend_from_slice.ensures in
    let size : length c.in-Bar.bar ≡ bar_bytes = omega arith in
    let stopped = or-err c.try_extend_from_slice.result _ _ c.in_err-or-in-Bar.ensures in
    let refused = bar-refused _ _ _ _ c.try_extend_from_slice.result refl size stopped.0 e.variant.1 e.err in
    let p = err_from_is_err_and c.from_residual-in_err-or-in-Bar.result c.from_residual-in_err-or-in-Bar.ensures.1 in
    executes _ _ _ _ _ k refused refl (λ bad. rw (p.1, p.2, stopped.1))
