-- The choice of the code is the definition's: there is one NaN. Assumes nothing.
use Rattle.prices.proofs.Order.{max-by-choice}
use Rattle.prices.proofs.price.max.Goals as goal

pub returns : goal.returns
returns c =
    let args = c.args in
    simp (c.pick-2.ensures, c.pick.ensures, c.is_nan.ensures) (max-by-choice args.a args.b)
