-- Each case of a fraction, in the definition's order. Assumes nothing.
use Prim.Native.Nat.{◌^◌}
use mathlib.Core.Path.{sym, ◌∙◌}
use native.Mathlib.Omega.{arith}
use Rattle.std.proofs.lemmas.Bool.Decides.{nat_tests}
use Rattle.price_texts.specs.PriceText.{fraction_of}
use Rattle.price_texts.proofs.DigitLaws.{decimal-small}
use Rattle.price_texts.proofs.price_text.fraction.Goals as goal
use Rattle.price_texts.proofs.price_text.fraction.Goals.{then-f-t-via-then-f-t, then-f-t-via-else-f-t+then-f-lt1, then-f-t-via-else-f-t+else-f-lt1+then-f-gt6}

pub returns-then-f-t : goal.returns-then-f-t
unfolding fraction_of
returns-then-f-t c =
    elim c.then-f-t.branch [
      | then-f-t-via-then-f-t w ↦ grind (arith, nat_tests)
      | then-f-t-via-else-f-t+then-f-lt1 w ↦ grind (arith, nat_tests)
      | then-f-t-via-else-f-t+else-f-lt1+then-f-gt6 w ↦ grind (arith, nat_tests)
    ]

pub quotient-requires : goal.quotient-requires
quotient-requires c =
    let f = c.digits_in-f in
    let a = c.args in
    let small = decimal-small a.whole a.t.now (10 ^ 9) 6 (sym f.ensures.0 ∙ c.if-f-t.false) (omega arith) (omega arith) in
    omega (arith, small, c.decimal_of.ensures)

pub returns : goal.returns
unfolding fraction_of
returns c = grind (arith, nat_tests)
