-- `of_bits` meets its contract. The test is the library's own of a NaN's pattern (`nan_bits_above`). Assumes nothing.
use borrow.Author.Tests.{lt-ltb, le-ltb}
use mathlib.Core.Path.{sym, ◌∙◌}
use lib.Ieee.{binary64}
use lib.Ieee.Bits.{nan_bits_above, nan_bits_is}
use Rattle.measures.proofs.Order.{is-nan}
use Rattle.recognisers.proofs.export.of_bits.Goals as goal

pub float_from_bits-result : goal.float_from_bits-result
float_from_bits-result c = rw (nan_bits_above, le-ltb _ _ c.if-w-gt9218868437227405312.false) tt

pub returns-then-w-gt9218868437227405312 : goal.returns-then-w-gt9218868437227405312
returns-then-w-gt9218868437227405312 c =
    c.not_a_number.ensures
    ∙ sym (is-nan _ (sym (nan_bits_is binary64 c.args.w) ∙ nan_bits_above binary64 _ ∙ lt-ltb _ _ c.if-w-gt9218868437227405312.true))
