-- The library clears the sign, which for each price is what the definition says: one float alone is the zero of either sign.
use mathlib.Core.Path.{◌≡◌, refl}
use mathlib.Core.Bool.{Bool, true, false}
use Prim.Native.Nat.{zero, suc, ◌+◌, ◌*◌}
use native.Mathlib.Omega.{arith}
use native.Mathlib.Nat.{mul-pos, zero-lt-suc}
use lib.Dec.{T}
use lib.IntN.{ℤ, pos}
use lib.Ieee.{Float, nan, inf, fin, binary64, up, down, lt, eq, neg, fits, of_bits}
use lib.Ieee.Back.{whole_unique}
use lib.Ieee.Fits.{up_pos}
use borrow.Author.Tests.{lt-ltb, le-ltb, ne_eqb}
use Rattle.std.specs.Float.{float_with_sign}
use Rattle.prices.specs.Price.{abs_of}

nil_is : (s : Bool) (e : ℤ) → T (fits binary64 (fin s 0 e)) → e ≡ pos 0
unfolding fits
nil_is s e p = let same = whole_unique binary64 (fin s 0 (pos 0)) (fin s 0 e) s 0 tt p (refl, refl) (refl, omega arith) in cc

pub size_is : (x : Float) → T (fits binary64 x) → float_with_sign false x ≡ abs_of x
unfolding abs_of float_with_sign lt eq neg of_bits
size_is nan p = refl
size_is (inf true) p = refl
size_is (inf false) p = refl
size_is (fin true zero e) p = rw (nil_is true e p)
size_is (fin false zero e) p = rw (nil_is false e p)
size_is (fin true (suc m) e) p = let size = mul-pos (zero-lt-suc m) (up_pos e) in rw (lt-ltb 0 (suc m * up e * 1 + 0 * down e) (omega arith))
size_is (fin false (suc m) e) p = let size = mul-pos (zero-lt-suc m) (up_pos e) in rw (le-ltb (suc m * up e * 1) (0 * down e) (omega arith), ne_eqb (suc m * up e * 1) (0 * down e) (omega arith))
