-- Only a NaN differs from itself.
use mathlib.Core.Path.{◌≡◌, refl}
use Prim.Native.Nat.{◌*◌}
use mathlib.Core.Bool.{true, false}
use lib.Ieee.{Float, nan, inf, fin, up, down, ne, is_nan}
use borrow.Author.Tests.{eq-eqb}

pub differs : (x : Float) → ne x x ≡ is_nan x
unfolding ne is_nan
differs nan = refl
differs (inf true) = refl
differs (inf false) = refl
differs (fin true m e) = simp (eq-eqb (m * up e * down e) _ refl)
differs (fin false m e) = simp (eq-eqb (m * up e * down e) _ refl)
