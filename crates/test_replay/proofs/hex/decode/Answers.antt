-- `hex::decode` meets its contract. Assumes nothing.
use Rattle.std.proofs.Common.{◌≡◌, length, sym, ◌∙◌, arith, eqb-true}
use Rattle.test_replay.proofs.Laws.Hex.{decoding-none, decoding-more, no-high, no-low, whole}
use Rattle.test_replay.proofs.hex.decode.Goals as goal

pub loop-i-init : goal.loop-i-init
loop-i-init g c =
    let e = c.as_chunks.ensures in
    let none : length c.as_chunks.result.1.now ≡ 0 = eqb-true _ _ (sym c.is_empty.ensures ∙ c.if-not-is_empty.false) in
    decoding-none g.row.N c.args.digits.now c.as_chunks.result.0.now e.front e.front_len (omega (arith, e.back_len)) c.if-pairs.false

pub returns-in_err-value : goal.returns-in_err-value
returns-in_err-value g c = c.from_residual.ensures ∙ no-high c.loop-i.invariant (omega arith) (sym c.value.ensures.is ∙ c.in_err-value.was)

pub returns-in_err-bytes : goal.returns-in_err-bytes
returns-in_err-bytes g c = c.from_residual-in_err-bytes.ensures ∙ no-low c.loop-i.invariant _ (omega arith) (sym c.value.ensures.is ∙ c.in_ok-value.was) (sym c.value-in-loop-i.ensures.is ∙ c.in_err-bytes.was)

pub loop-i-preserved : goal.loop-i-preserved
loop-i-preserved g c = decoding-more c.loop-i.invariant _ _ (omega arith) (sym c.value.ensures.is ∙ c.in_ok-value.was) (sym c.value-in-loop-i.ensures.is ∙ c.in_ok-bytes.was)

pub returns : goal.returns
returns g c = whole c.loop-i.invariant (omega arith)
