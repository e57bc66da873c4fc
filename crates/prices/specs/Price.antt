-- "The measures": max, min, the magnitude that `body` and others take, and the square.
-- A float constant stands by its bit pattern, as the code has it, with its decimal value beside it.
use Rattle.std.specs.Prelude.{cond, not, ◌&&◌, ◌||◌, Float}
use Rattle.std.specs.Float.{binary64}
use Rattle.std.specs.Float.Ieee.{of_bits, lt, eq, neg, mul, is_nan}

-- 0.0
abbrev pub zero : Float
zero = of_bits binary64 0

-- 0.25
abbrev pub a_quarter : Float
a_quarter = of_bits binary64 0x3fd0_0000_0000_0000

-- 10.0
abbrev pub ten : Float
ten = of_bits binary64 0x4024_0000_0000_0000

-- max(a, b): the other one if one is NaN, a if both are; b if b > a; else a
unfoldable pub max_of : Float → Float → Float
max_of a b = cond (is_nan a && not (is_nan b) || lt a b) b a

-- min is its mirror
unfoldable pub min_of : Float → Float → Float
min_of a b = cond (is_nan a && not (is_nan b) || lt b a) b a

-- |x|: what is below zero negated, of either zero +0
unfoldable pub abs_of : Float → Float
abs_of x = cond (lt x zero) (neg x) (cond (eq x zero) zero x)

-- a square is a product with itself
unfoldable pub square_of : Float → Float
square_of x = mul binary64 x x
