-- 10k ÷ 10.0 is k: th in tenths, at ten times a threshold of 01's, is 01's. Assumes nothing.
use mathlib.Core.Path.{◌≡◌, refl, ap, ◌∙◌}
use mathlib.Core.Bool.{true, false, true≢false}
use Prim.Native.Nat.{ℕ, ◌*◌, ◌≤◌}
use native.Mathlib.Nat.{mul_assoc, mul_left_comm, mul-one, mul-pos}
use native.Mathlib.Omega.{arith}
use lib.Dec.{lit<}
use lib.IntN.{pos}
use lib.Ieee.{Float, nan, inf, fin, binary64, of_bits, of_int, down, div, round}
use lib.Ieee.Back.{round_whole}
use lib.Ieee.Exact.{HasValue}
use lib.Ieee.Fits.{down_pos}
use lib.Ieee.Scale.{round_same}
use Rattle.measures.specs.Price.{ten}
use Rattle.rule_types.specs.Number.{most_whole, whole_of}

ten-is : ten ≡ fin false 5 (pos 1)
unfolding of_bits
ten-is = refl

tens : (k d : ℕ) → 10 * k * d ≡ k * (10 * d)
tens k d = mul_assoc 10 k d ∙ mul_left_comm 10 k d

-- a tenth of what is 10k in size rounds as k does: both are the same fraction
tenth-of : (k : ℕ) (x : Float) → HasValue x false (10 * k) 1 → div binary64 x (fin false 5 (pos 1)) ≡ round binary64 false k 1
unfolding div
tenth-of k nan v = absurd v
tenth-of k (inf s) v = absurd v
tenth-of k (fin true m e) v = absurd (true≢false v.0)
tenth-of k (fin false m e) v =
    round_same binary64 false _ (10 * down e) k 1 (mul-pos (lit< tt) (down_pos e)) (lit< tt) (mul-one _ ∙ v.1 ∙ tens k (down e))

-- 10k is a float, since it is below two to the power of 53
pub tenth : (k : ℕ) → k ≤ most_whole → div binary64 (whole_of (10 * k)) ten ≡ whole_of k
unfolding of_int
tenth k h =
    ap (λ (y : Float). div binary64 (whole_of (10 * k)) y) ten-is
    ∙ tenth-of k (round binary64 false (10 * k) 1) (round_whole binary64 false (10 * k) (omega arith))
