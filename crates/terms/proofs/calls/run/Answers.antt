-- A refused run leaves layer and sheet; the bars of an accepted one are taken in. Assumes nothing.
use mathlib.Core.Path.{sym, ◌∙◌}
use Rattle.std.proofs.lemmas.Result.{err_from_is_err_and}
use Rattle.terms.proofs.TakeLaws.{ran-refused, ran-is, ran-sheet-is}
use Rattle.terms.proofs.calls.run.Goals as goal

pub returns-in_err-run_verdict : goal.returns-in_err-run_verdict
returns-in_err-run_verdict c =
    let p = err_from_is_err_and c.from_residual.result c.from_residual.ensures.1 in
    let v = sym c.in_err-run_verdict.ensures in
    let left = ran-refused c.args.l.now c.args.prices.now c.args.stamps.now c.args.sheet.now _ v in
    record { answer = rw (p.1, p.2, left.0); after = rw left.0; sheet = rw left.1; number = rw (p.1, p.2, v) }

pub returns : goal.returns
returns c =
    let v = sym c.in_ok-run_verdict.ensures in
    let took = c.take_bars.ensures in
    let is = ran-is c.args.l.now c.args.prices.now c.args.stamps.now c.args.sheet.now v in
    record { answer = rw (← is, took.0); after = rw (← is) took.1; sheet = took.2 ∙ ran-sheet-is c.args.l.now c.args.prices.now c.args.stamps.now c.args.sheet.now v; number = rw v }
