-- The folds' steps, by one comparison a price.
use Rattle.middles.proofs.MiddleLaws.{middle-newer}
use Rattle.middles.proofs.enter_newer.Goals as goal

pub returns : goal.returns
returns c = λ mid so_far.
    simp (c.is_nan-2.ensures, c.is_nan.ensures, c.pick-2.ensures, c.pick.ensures, so_far) (middle-newer mid c.args.b)
