-- A refusal is the answer alone; otherwise the pair is that of the history. Assumes nothing.
use Rattle.std.proofs.Common.{map, sym}
use Rattle.std.proofs.lemmas.List.{length-map}
use Rattle.std.proofs.lemmas.Result.{err_from_is_err_and}
use Rattle.recognisers.proofs.AnswerLaws.{plain-values, refused, given}
use Rattle.recognisers.proofs.history.recognise_history.Goals as goal

pub returns-in_err-plain_verdict : goal.returns-in_err-plain_verdict
returns-in_err-plain_verdict g c =
    let size = sym (length-map c.args.bars.now g.B.ToBar.bar) in
    let denied = refused _ _ _ _ _ _ _ size (sym c.in_err-plain_verdict.ensures) in
    let all = plain-values _ _ _ _ (map g.B.ToBar.bar c.args.bars.now) _ (sym denied) in
    let p = err_from_is_err_and c.from_residual.result c.from_residual.ensures.1 in
    rw (p.1, p.2) (record { answer = all.0; number = all.1.0; codes = all.1.1 })

pub returns : goal.returns
returns g c =
    let size = sym (length-map c.args.bars.now g.B.ToBar.bar) in
    let accepted = given _ _ _ _ _ _ _ size (sym c.in_ok-plain_verdict.ensures) (simp (length-map, c.pair_at.ensures)) in
    let all = plain-values _ _ _ _ (map g.B.ToBar.bar c.args.bars.now) _ (sym accepted) in
    record { answer = all.0; number = all.1.0; codes = all.1.1 }
