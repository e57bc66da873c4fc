-- "The window". A list of bars is oldest first; the judged bar is the di-th from the end.
use Rattle.std.specs.Prelude.{ℕ, ◌+◌, ◌-◌, ◌*◌, ◌/◌, ◌%◌, min, cond, List, [], ltb, eqb, length, get_or, take, drop, Float}
use Rattle.prices.specs.declared.bars.Bar.{Bar}
use Rattle.prices.specs.Bar.{no_bar}

-- p = len − di + 1 counts the bars up to the judged one; it is 0 if di exceeds len, and of an offset of 0, which judges no bar
unfoldable pub up_to : ℕ → ℕ → ℕ
up_to len di = cond (eqb di 0) 0 (cond (ltb len di) 0 (len - di + 1))

-- the newest n bars, or all if there are fewer; also of bars that are kept with more than their prices
unfoldable pub newest : {A : Type 0} → ℕ → List A → List A
newest n bars = drop (length bars - n) bars

-- the last min(n, p) bars up to the judged one, the judged bar included
unfoldable pub window_of : List Bar → ℕ → ℕ → List Bar
window_of bars di n = newest n (take (up_to (length bars) di) bars)

-- the i-th bar from the end of a list: of a window that ends with the judged bar 1 is b1, 2 is b2, the one before
unfoldable pub back_of : List Bar → ℕ → Bar
back_of bars i = get_or bars (length bars - min i (length bars)) no_bar

-- the prices of the bars from one place of a run to another
abbrev pub prices_from : List Float → ℕ → ℕ → List Float
prices_from prices from to = take (to * 4 - from * 4) (drop (from * 4) prices)

-- the prices of a window's bars; prices at the end of a run that make no whole bar are passed over
abbrev pub window_prices : List Float → ℕ → ℕ → List Float
window_prices prices di n = let p = up_to (length prices / 4) di in prices_from prices (p - min n p) p

-- what the window function hands back: the part of the lent prices with those bars, and an empty part if n or di is 0, di exceeds
-- len, or the prices do not make whole bars
unfoldable pub part_of : List Float → ℕ → ℕ → List Float
part_of prices di n = cond (eqb (length prices % 4) 0) (window_prices prices di n) []
