-- A refusal is the answer alone; otherwise the judged pair is that of the history. Assumes nothing.
use mathlib.Core.Path.{sym}
use Rattle.std.proofs.lemmas.Result.{err_from_is_err_and}
use Rattle.measures.specs.Bar.{bars_of}
use Rattle.recognisers.specs.Call.{recognise_of}
use Rattle.recognisers.proofs.AnswerLaws.{plain-values, refused, given}
use Rattle.recognisers.proofs.call.recognise.Goals as goal

pub returns-in_err-plain_verdict : goal.returns-in_err-plain_verdict
unfolding recognise_of
returns-in_err-plain_verdict c =
    let denied = refused _ _ _ _ _ _ _ c.count-len.ensures (sym c.in_err-plain_verdict.ensures) in
    let all = plain-values _ _ _ _ (bars_of c.args.prices.now) _ (sym denied) in
    let p = err_from_is_err_and c.from_residual.result c.from_residual.ensures.1 in
    rw (p.1, p.2) (record { answer = all.0; number = all.1.0; codes = all.1.1 })

pub returns : goal.returns
unfolding recognise_of
returns c =
    let accepted = given _ _ _ _ _ _ _ c.count-len.ensures (sym c.in_ok-plain_verdict.ensures) (simp (c.pair_at.ensures, c.count-len.ensures)) in
    let all = plain-values _ _ _ _ (bars_of c.args.prices.now) _ (sym accepted) in
    record { answer = all.0; number = all.1.0; codes = all.1.1 }
