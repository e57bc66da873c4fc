-- A bar, the bars of a run of prices, and the measures of one bar: body, upper, lower, doji.
use Rattle.std.specs.Prelude.{ℕ, ◌+◌, ◌*◌, ◌/◌, Bool, cond, ◌&&◌, ◌||◌, List, [], ◌∷◌, ◌++◌, ltb, length, get_or, take, drop, Float}
use Rattle.std.specs.Float.{binary64, nan}
use Rattle.std.specs.Float.Ieee.{sub, div, eq, ne, lt}
use Rattle.prices.specs.declared.bars.Bar.{Bar}
use Rattle.prices.specs.Price.{ten, max_of, min_of, abs_of}

-- ---- a bar is a record of four prices: open, close, high, low

abbrev pub bar_of : Float → Float → Float → Float → Bar
bar_of o c h l = record { «open» = o; close = c; high = h; low = l }

-- what a list of bars has past its end
abbrev pub no_bar : Bar
no_bar = bar_of nan nan nan nan

-- the bar whose four prices begin at a place of a run
abbrev pub bar_from : List Float → ℕ → Bar
bar_from ps at = bar_of (get_or ps at nan) (get_or ps (at + 1) nan) (get_or ps (at + 2) nan) (get_or ps (at + 3) nan)

-- the bars of a run of prices, four to a bar, oldest first; prices at its end that make no whole bar are passed over
unfoldable pub bars_of : List Float → List Bar
bars_of [] = []
bars_of (o ∷ []) = []
bars_of (o ∷ c ∷ []) = []
bars_of (o ∷ c ∷ h ∷ []) = []
bars_of (o ∷ c ∷ h ∷ l ∷ rest) = bar_of o c h l ∷ bars_of rest

-- their prices again
unfoldable pub prices_of : List Bar → List Float
prices_of [] = []
prices_of (b ∷ bars) = b.«open» ∷ b.close ∷ b.high ∷ b.low ∷ prices_of bars

-- a list written over from a place on; what lies before and past the new elements stays
abbrev pub overlay : {A : Type 0} → List A → ℕ → List A → List A
overlay s at xs = take at s ++ xs ++ drop (at + length xs) s

-- a run of prices after those of a bar are put to it as its i-th, from 0; a run without room for them stays
unfoldable pub put_bar : List Float → ℕ → Bar → List Float
put_bar run i bar = cond (ltb i (length run / 4)) (overlay run (4 * i) (prices_of (bar ∷ []))) run

-- ---- the measures of one bar

-- body = |open − close|
unfoldable pub body_of : Bar → Float
body_of b = abs_of (sub binary64 b.«open» b.close)

-- upper = high − max(open, close)
unfoldable pub upper_of : Bar → Float
upper_of b = sub binary64 b.high (max_of b.«open» b.close)

-- lower = min(open, close) − low
unfoldable pub lower_of : Bar → Float
lower_of b = sub binary64 (min_of b.«open» b.close) b.low

-- the longer shadow
unfoldable pub long_shadow : Bar → Float
long_shadow b = max_of (upper_of b) (lower_of b)

-- 01's doji: close = open and high ≠ low; or close ≠ open and (high − low) ÷ body > th
unfoldable pub doji_above : Float → Bar → Bool
doji_above th b =
    eq b.close b.«open» && ne b.high b.low
    || ne b.close b.«open» && lt th (div binary64 (sub binary64 b.high b.low) (body_of b))

-- doji (02, P4): th counts tenths. The test divides th by 10.0 once and compares as before
unfoldable pub doji_of : Float → Bar → Bool
doji_of th = doji_above (div binary64 th ten)
