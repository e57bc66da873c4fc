-- A feed's tests, with 12 and 4's other one, and then the stamps. Assumes nothing.
use mathlib.Core.Path.{refl, sym, ◌∙◌}
use Rattle.std.proofs.lemmas.Result.{err_from_is_err_and}
use Rattle.term_events.proofs.VerdictLaws.{run-checked, checked-layer}
use Rattle.term_events.proofs.StepLaws.{layer-end}
use Rattle.term_events.proofs.verdicts.run_verdict.Goals as goal

pub returns-in_err-checked : goal.returns-in_err-checked
returns-in_err-checked c =
    let args = c.args in
    let p = err_from_is_err_and c.from_residual.result c.from_residual.ensures.1 in
    rw (p.1, p.2) (sym (rw (← c.layer_valid-layer.ensures) (run-checked args.t _ args.n args.prices args.stamps.now args.sheet _ (sym c.in_err-checked.ensures) args.h args.c.last)))

pub stamps_verdict-requires : goal.stamps_verdict-requires
stamps_verdict-requires c =
    let args = c.args in
    let valid = checked-layer args.t _ args.n args.prices args.stamps.now args.sheet _ (sym c.in_ok-checked.ensures) refl in
    layer-end _ _ _ (sym c.layer_valid-layer.ensures ∙ valid)

pub returns : goal.returns
returns c =
    let args = c.args in
    c.stamps_verdict.ensures ∙ sym (rw (← c.layer_valid-layer.ensures) (run-checked args.t _ args.n args.prices args.stamps.now args.sheet _ (sym c.in_ok-checked.ensures) args.h args.c.last))
