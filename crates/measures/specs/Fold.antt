-- "The measures" of a window: folds, variance, quarter. Folds begin at minus or plus infinity and go from the oldest bar.
use Rattle.std.specs.Prelude.{Bool, true, false, ◌&&◌, List, [], ◌∷◌, map, length, pos, Float}
use mathlib.Core.List.{foldl}
use Rattle.std.specs.Float.{binary64, inf}
use Rattle.std.specs.Float.Ieee.{of_int, add, sub, mul, div, le}
use Rattle.prices.specs.declared.bars.Bar.{Bar}
use Rattle.measures.specs.declared.folds.{Column.Column, Extremes.Extremes}
use Rattle.measures.specs.declared.folds.Column.TheVariants.{Open, Close, High, Low}
use Rattle.prices.specs.Price.{zero, a_quarter, max_of, min_of, square_of}

-- the prices of a column of a window
abbrev pub price_of : Column → Bar → Float
price_of Open b = b.«open»
price_of Close b = b.close
price_of High b = b.high
price_of Low b = b.low

unfoldable pub column_of : Column → List Bar → List Float
column_of c bars = map (price_of c) bars

-- ---- folds

unfoldable pub highest_of : List Float → Float
highest_of xs = foldl max_of (inf true) xs

unfoldable pub lowest_of : List Float → Float
lowest_of xs = foldl min_of (inf false) xs

unfoldable pub sum_of : List Float → Float
sum_of xs = foldl (add binary64) zero xs

-- ---- variance: mean of squares about the mean, sums from the oldest

-- how many, as a float
unfoldable pub size_of : List Float → Float
size_of xs = of_int binary64 (pos (length xs))

unfoldable pub mean_of : List Float → Float
mean_of xs = div binary64 (sum_of xs) (size_of xs)

unfoldable pub variance_of : List Float → Float
variance_of xs = div binary64 (sum_of (map (λ x. square_of (sub binary64 x (mean_of xs))) xs)) (size_of xs)

-- ---- a test of every price

unfoldable pub every_of : (Float → Bool) → List Float → Bool
every_of t [] = true
every_of t (x ∷ xs) = t x && every_of t xs

-- ---- quarter

-- Lmax the highest high, Lmin the lowest low
unfoldable pub extremes_of : List Bar → Extremes
extremes_of bars = record { highest = highest_of (column_of High bars); lowest = lowest_of (column_of Low bars) }

-- 0.25 × gap, with gap = Lmax − Lmin
abbrev pub quarter_gap : Extremes → Float
quarter_gap e = mul binary64 a_quarter (sub binary64 e.highest e.lowest)

-- low side: low ≤ Lmin + 0.25 × gap
abbrev pub low_side : Extremes → Bar → Bool
low_side e b = le b.low (add binary64 e.lowest (quarter_gap e))

-- high side: high ≥ Lmax − 0.25 × gap
abbrev pub high_side : Extremes → Bar → Bool
high_side e b = le (sub binary64 e.highest (quarter_gap e)) b.high
