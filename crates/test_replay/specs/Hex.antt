-- Bytes in hexadecimal: two lowercase digits to a byte, the most significant first.
use Rattle.std.specs.Prelude.{ℕ, ◌+◌, ◌-◌, ◌*◌, cond, ◌&&◌, Option, Some, None, List, [], ◌∷◌, length, take, drop, ◌==◌, nat_le}

-- the value of a digit, which is a byte from 48 on for 0 to 9 and from 97 on for a to f
unfoldable pub value_of : ℕ → Option ℕ
value_of b = cond (nat_le 48 b && nat_le b 57) (Some (b - 48)) (cond (nat_le 97 b && nat_le b 102) (Some (b - 97 + 10)) None)

-- the byte of two digits before others, and nothing where one is no digit
abbrev pub before : Option ℕ → Option ℕ → List ℕ → List ℕ
before (Some high) (Some low) bytes = (16 * high + low) ∷ bytes
before (Some high) None bytes = []
before None low bytes = []

-- the bytes of the pairs of digits, up to the first pair that is not two digits
unfoldable pub bytes_of : List ℕ → List ℕ
bytes_of [] = []
bytes_of (a ∷ []) = []
bytes_of (a ∷ b ∷ s) = before (value_of a) (value_of b) (bytes_of s)

-- the n bytes of as many pairs of digits
unfoldable pub decoded : ℕ → List ℕ → Option (List ℕ)
decoded n digits = cond (length digits == 2 * n && length (bytes_of digits) == n) (Some (bytes_of digits)) None

-- the most bytes that a line has: those of the thresholds
abbrev pub longest : ℕ
longest = 60

-- the bytes that a line has after its letter and its space
unfoldable pub payload_of : List ℕ → List ℕ
payload_of line = take longest (bytes_of (drop 2 line))
