-- "The other ways in", text: a price is nan, or an optional minus, 1 to 9 digits, and optionally a point and 1 to 6 digits.
use Rattle.std.specs.Prelude.{ℕ, ◌+◌, ◌-◌, ◌*◌, ◌^◌, Bool, cond, ◌&&◌, List, [], ◌∷◌, eqb, leb, pos, length, get_or, take, drop, Float, Option, Some, None}
use Rattle.std.specs.Float.{nan, binary64}
use Rattle.std.specs.Float.Ieee.{neg, div, of_int}
use Rattle.input_lines.specs.Lines.{run_of}

-- ---- what text says of a price: its value, or that it is none

abbrev pub Price : Type 0
Price = Option Float

-- ---- bytes

-- - . and the digits 0 to 9
abbrev pub minus : ℕ
minus = 45

abbrev pub point : ℕ
point = 46

abbrev pub is_digit : ℕ → Bool
is_digit b = leb 48 b && leb b 57

-- how many digits the bytes begin with
abbrev pub digits_in : List ℕ → ℕ
digits_in s = run_of is_digit s

-- ---- the value

-- the whole number whose digits are those of n and then the bytes
unfoldable pub decimal : ℕ → List ℕ → ℕ
decimal n [] = n
decimal n (b ∷ bs) = decimal (10 * n + (b - 48)) bs

-- all digits as one whole number, divided once by the power of ten
unfoldable pub scaled : ℕ → ℕ → Float
scaled n f = div binary64 (of_int binary64 (pos n)) (of_int binary64 (pos (10 ^ f)))

-- ---- the grammar

-- after the point: 1 to 6 digits; those before it make n
unfoldable pub fraction_of : ℕ → List ℕ → Price
fraction_of n t =
    cond (eqb (digits_in t) (length t) && leb 1 (length t) && leb (length t) 6) (Some (scaled (decimal n t) (length t))) None

-- 1 to 9 digits, and then nothing, or a point and a fraction
unfoldable pub unsigned_of : List ℕ → Price
unsigned_of s =
    let k = digits_in s in
    let n = decimal 0 (take k s) in
    cond (leb 1 k && leb k 9)
    (cond (eqb k (length s)) (Some (scaled n 0)) (cond (eqb (get_or s k 0) point) (fraction_of n (drop (k + 1) s)) None))
    None

-- then negated if minus
abbrev pub negated : Price → Price
negated (Some x) = Some (neg x)
negated None = None

-- the three bytes n, a, n
unfoldable pub nan_text : List ℕ → Bool
nan_text s = eqb (length s) 3 && (eqb (get_or s 0 0) 110 && eqb (get_or s 1 0) 97 && eqb (get_or s 2 0) 110)

-- a price
unfoldable pub price_of : List ℕ → Price
price_of s = cond (nan_text s) (Some nan) (cond (eqb (get_or s 0 0) minus) (negated (unsigned_of (drop 1 s))) (unsigned_of s))
