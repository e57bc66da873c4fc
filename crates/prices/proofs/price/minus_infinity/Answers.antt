-- The bits of the constant, which antt computes.
use mathlib.Core.Path.{refl}
use lib.Ieee.{of_bits}
use Rattle.prices.proofs.price.minus_infinity.Goals as goal

pub returns : goal.returns
unfolding of_bits
returns c = refl
