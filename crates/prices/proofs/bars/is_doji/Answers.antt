-- The code does not ask close ≠ open before the quotient: where close = open and high = low there is none.
use mathlib.Core.Path.{◌≡◌, refl}
use mathlib.Core.Bool.{Bool, true, false, not, ◌&&◌, ◌||◌}
use lib.Ieee.{Float, binary64, sub, div, eq, ne, lt}
use Rattle.prices.specs.declared.bars.Bar.{Bar}
use Rattle.prices.specs.Bar.{body_of, doji_above, doji_of}
use Rattle.prices.proofs.FlatLaws.{flat}
use Rattle.prices.proofs.bars.is_doji.Goals as goal

unasked : (level same above : Bool) → (level ≡ true → same ≡ true → above ≡ false) → (level && not same || above) ≡ (level && not same || not level && above)
unasked true true above h = h refl refl
unasked true false above h = refl
unasked false same above h = refl

doji-by : (th : Float) (b : Bar) → (eq b.close b.«open» && ne b.high b.low || lt th (div binary64 (sub binary64 b.high b.low) (body_of b))) ≡ doji_above th b
unfolding doji_above ne
doji-by th b =
    unasked (eq b.close b.«open») (eq b.high b.low) (lt th (div binary64 (sub binary64 b.high b.low) (body_of b))) (flat th b)

pub returns : goal.returns
unfolding doji_of
returns c = simp c.body.ensures (doji-by _ _)
