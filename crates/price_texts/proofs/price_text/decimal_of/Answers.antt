-- The loop's invariant: the digits left make the same number behind the sum. It stays below 10^18. Assumes nothing.
use native.Mathlib.Omega.{arith}
use lib.ListN.{drop_of_length-le, length}
use Prim.Native.Nat.{◌≤◌}
use Rattle.price_texts.specs.PriceText.{decimal}
use Rattle.price_texts.proofs.DigitLaws.{one_more}
use Rattle.price_texts.proofs.price_text.decimal_of.Goals as goal

pub overflow_mul-sum : goal.overflow_mul-sum
overflow_mul-sum c =
    let more = one_more c.args.n c.args.s.now c.loop-b.b-index c.loop-b.sum c.requires (omega arith) c.loop-b.invariant in
    omega (arith, more.most)

pub overflow_sub-b : goal.overflow_sub-b
overflow_sub-b c =
    let more = one_more c.args.n c.args.s.now c.loop-b.b-index c.loop-b.sum c.requires (omega arith) c.loop-b.invariant in
    more.low

pub overflow_add-sum : goal.overflow_add-sum
overflow_add-sum c =
    let more = one_more c.args.n c.args.s.now c.loop-b.b-index c.loop-b.sum c.requires (omega arith) c.loop-b.invariant in
    omega (arith, more.most)

pub loop-b-preserved : goal.loop-b-preserved
loop-b-preserved c =
    let more = one_more c.args.n c.args.s.now c.loop-b.b-index c.loop-b.sum c.requires (omega arith) c.loop-b.invariant in
    (rw c.from.ensures more.value, more.digits)

pub returns : goal.returns
unfolding decimal
returns c =
    let done : length c.args.s.now ≤ c.loop-b.b-index = omega arith in
    rw (drop_of_length-le c.args.s.now done) at c.loop-b.invariant.0
