-- A number's numeral has as many digits as io's count of the fewest, at most twenty. Assumes nothing.
use Prim.Native.Nat.{ℕ, zero, suc, ◌-◌, ◌*◌, ◌/◌, ◌^◌, ◌≤◌, ◌<◌}
use mathlib.Core.Bool.{Bool, true, false, cond}
use mathlib.Core.Path.{◌≡◌, refl, ap}
use native.Mathlib.Nat.{pow-succ', not-suc-le-zero}
use native.Mathlib.Omega.{arith}
use borrow.Author.Tests.{ltb-true, ltb-false}
use lib.Dec.{ltb}
use lib.ListN.{length, length-append}
use Rattle.io.specs.Digits.{last_digits, IsDigitCount}
use Rattle.output_lines.specs.Output.{digit_count, numeral}

pub length_digits : (b k n : ℕ) → length (last_digits b k n) ≡ k
length_digits b zero n = refl
length_digits b (suc k) n = rw (length-append, length_digits b k (n / b)) (omega arith)

power-some : (k : ℕ) → 1 ≤ 10 ^ k
power-some zero = omega arith
power-some (suc k) = rw (pow-succ' 10 k) (omega (arith, power-some k))

less_one : (k : ℕ) → suc k - 1 ≡ k
less_one k = omega arith

-- a number below ten has one digit
one-digit : (n k : ℕ) → n < 10 → IsDigitCount 10 1 n k → k ≡ 1
one-digit n zero h f = absurd (not-suc-le-zero f.0)
one-digit n (suc zero) h f = refl
one-digit n (suc (suc k)) h f =
    let le : 10 * 10 ^ k ≤ n = rw (less_one (suc k), pow-succ' 10 k) at (f.2 (omega arith)) in
    absurd (omega (arith, power-some k))

-- another has one digit more than its tenth
tenth : (n k : ℕ) → 10 ≤ n → IsDigitCount 10 1 n (suc k) → IsDigitCount 10 1 (n / 10) k
tenth n zero h f = absurd (omega (arith, f.1))
tenth n (suc k) h f =
    let below : n < 10 * 10 ^ suc k = rw (pow-succ' 10 (suc k)) at f.1 in
    let above : 10 * 10 ^ k ≤ n = rw (less_one (suc k), pow-succ' 10 k) at (f.2 (omega arith)) in
    (omega arith, omega arith, λ more. rw (less_one k) (omega arith))

fewest-places : (most n k : ℕ) → n < 10 ^ suc most → IsDigitCount 10 1 n k → k ≡ digit_count most n
unfolding digit_count
fewest-places zero n k h f = one-digit n k h f
fewest-places (suc most) n zero h f = absurd (not-suc-le-zero f.0)
fewest-places (suc most) n (suc k) h f =
    let below : n < 10 * 10 ^ suc most = rw (pow-succ' 10 (suc most)) at h in
    go (ltb n 10) refl (fewest-places most (n / 10) k (omega arith))
  where
    go : (t : Bool) → ltb n 10 ≡ t → (IsDigitCount 10 1 (n / 10) k → k ≡ digit_count most (n / 10)) → suc k ≡ cond t 1 (suc (digit_count most (n / 10)))
    go true e rest = one-digit n (suc k) (ltb-true n 10 e) f
    go false e rest = ap suc (rest (tenth n k (ltb-false n 10 e) f))

pub fewest-numeral : (n k : ℕ) → n < 18446744073709551616 → IsDigitCount 10 1 n k → last_digits 10 k n ≡ numeral n
unfolding numeral
fewest-numeral n k h f = ap (λ j. last_digits 10 j n) (fewest-places 19 n k (omega arith) f)

places-most : (most n : ℕ) → digit_count most n ≤ suc most
unfolding digit_count
places-most zero n = omega arith
places-most (suc most) n = go (ltb n 10) (places-most most (n / 10))
  where
    go : (t : Bool) → digit_count most (n / 10) ≤ suc most → cond t 1 (suc (digit_count most (n / 10))) ≤ suc (suc most)
    go true rest = omega arith
    go false rest = omega arith

pub numeral-short : (n : ℕ) → length (numeral n) ≤ 20
unfolding numeral
numeral-short n = rw (length_digits 10 (digit_count 19 n) n) (places-most 19 n)
