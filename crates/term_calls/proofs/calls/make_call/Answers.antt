-- A run of the bars that are left. Assumes nothing.
use Rattle.term_calls.proofs.CallLaws.{call-front}
use Rattle.term_calls.proofs.calls.make_call.Goals as goal

pub returns : goal.returns
returns c =
    let args = c.args in
    let out = c.run.ensures in
    rw (call-front args.size c.if-size-eq0.false args.prices.now args.stamps.now args.sheet.now _ _ c.min-p_end.ensures c.min-s_end.ensures) (out.answer, out.after, out.sheet)
