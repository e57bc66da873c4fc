-- Digits and the number that they make. Assumes nothing.
use Prim.Native.Nat.{ℕ, suc, ◌+◌, ◌-◌, ◌*◌, ◌^◌, ◌≤◌, ◌<◌}
use mathlib.Core.List.{List, [], ◌∷◌}
use mathlib.Core.Path.{◌≡◌}
use native.Mathlib.Nat.{mul-le-mul_right, mul-le-mul, pow-le-pow_right, pow-succ', mul_assoc, lt_of_lt_of_le}
use native.Mathlib.Numerals.{add-one}
use native.Mathlib.Omega.{arith}
use borrow.Author.Tests.{leb-true}
use lib.Dec.{leb}
use lib.ListN.{length, get_or, take, drop, length-take}
use lib.Seq.{drop-cons}
use Rattle.price_texts.specs.PriceText.{is_digit, digits_in, decimal}
use Rattle.input_lines.proofs.RunLaws.{both, all_pass, run-taken}

digits-head : (b : ℕ) (bs : List ℕ) → digits_in (b ∷ bs) ≡ length (b ∷ bs) → (48 ≤ b) × (b ≤ 57) × (digits_in bs ≡ length bs)
digits-head b bs e =
    let h = all_pass is_digit b bs e in
    let t = both (leb 48 b) (leb b 57) h.0 in
    (leb-true 48 b t.0, leb-true b 57 t.1, h.1)

-- more digits make no smaller number
decimal-grows : (n : ℕ) (s : List ℕ) → n ≤ decimal n s
unfolding decimal
decimal-grows n [] = omega arith
decimal-grows n (b ∷ bs) = omega (arith, decimal-grows (10 * n + (b - 48)) bs)

decimal-below : (n : ℕ) (s : List ℕ) → digits_in s ≡ length s → decimal n s < (n + 1) * 10 ^ length s
unfolding decimal
decimal-below n [] e = omega arith
decimal-below n (b ∷ bs) e =
    let h = digits-head b bs e in
    let m = 10 * n + (b - 48) in
    let small : m + 1 ≤ (n + 1) * 10 = omega arith in
    let step : (m + 1) * 10 ^ length bs ≤ (n + 1) * 10 * 10 ^ length bs = mul-le-mul_right (10 ^ length bs) small in
    let same : (n + 1) * 10 * 10 ^ length bs ≡ (n + 1) * 10 ^ length (b ∷ bs) = rw (mul_assoc (n + 1) 10 (10 ^ length bs), ← pow-succ' 10 (length bs)) in
    omega (arith, decimal-below m bs h.2)

-- k digits at most after a number below m
pub decimal-small : (n : ℕ) (s : List ℕ) (m k : ℕ) → digits_in s ≡ length s → length s ≤ k → n < m → decimal n s < m * 10 ^ k
decimal-small n s m k e l h =
    let le : (n + 1) * 10 ^ length s ≤ m * 10 ^ k = mul-le-mul (omega arith) (pow-le-pow_right (omega arith) l) in
    lt_of_lt_of_le (decimal-below n s e) le

-- the number that at most 9 digits make which bytes begin with
pub whole-small : (s : List ℕ) (k whole : ℕ) → k ≡ digits_in s → k ≤ 9 → whole ≡ decimal 0 (take k s) → whole < 10 ^ 9
whole-small s k whole e few is =
    let digits : digits_in (take k s) ≡ length (take k s) = rw e (run-taken is_digit s) in
    let short : length (take k s) ≤ 9 = simp length-take (omega arith) in
    omega (arith, decimal-small 0 (take k s) 1 9 digits short (omega arith))

-- what one digit more of at most 9 takes along, where those before it made sum: the number below 10^18 that they all make
pub record OneMore (s : List ℕ) (i sum total : ℕ) : Type 0 where
  pub low : 48 ≤ get_or s i 0
  pub value : decimal (10 * sum + (get_or s i 0 - 48)) (drop (i + 1) s) ≡ total
  pub digits : digits_in (drop (i + 1) s) ≡ length (drop (i + 1) s)
  pub most : 10 * sum + (get_or s i 0 - 48) < 10 ^ 18

pub one_more : (n : ℕ) (s : List ℕ) (i sum : ℕ) → (digits_in s ≡ length s) × (length s ≤ 9) × (n < 10 ^ 9) → i < length s
    → (decimal sum (drop i s) ≡ decimal n s) × (digits_in (drop i s) ≡ length (drop i s)) → OneMore s i sum (decimal n s)
unfolding decimal
one_more n s i sum r h v =
    let cut = drop-cons s i 0 h in
    let next : decimal (10 * sum + (get_or s i 0 - 48)) (drop (i + 1) s) ≡ decimal n s = rw add-one (rw cut at v.0) in
    let heads = digits-head (get_or s i 0) (drop (suc i) s) (rw cut at v.1) in
    let small : decimal n s < 10 ^ 18 = decimal-small n s (10 ^ 9) 9 r.0 r.1 r.2 in
    record {
      low = heads.0;
      value = next;
      digits = rw add-one heads.2;
      most = omega (arith, decimal-grows (10 * sum + (get_or s i 0 - 48)) (drop (i + 1) s));
    }
