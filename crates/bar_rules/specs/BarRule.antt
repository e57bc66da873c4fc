-- "The eighteen": the rules of three to six newest bars: 5, 11, 12 and 16. b1 is the judged bar, b2 the one before.
use Rattle.std.specs.Prelude.{ℕ, Bool, cond, ◌&&◌, ◌||◌, List, [], ◌∷◌, ltb, Float}
use Rattle.std.specs.Float.{binary64}
use Rattle.std.specs.Float.Ieee.{mul, div, sub, lt, le}
use Rattle.measures.specs.Bar.{Bar, body_of, long_shadow}
use Rattle.measures.specs.Price.{max_of, min_of, abs_of}
use Rattle.measures.specs.Fold.{extremes_of, quarter_gap, variance_of}
use Rattle.rule_types.specs.declared.label.Label.TheVariants.{Other, Any, Met, RisingThreeMethods, FallingThreeMethods, Bearish, Regular, Strong, HalfStrong, GapUp, GapDown}
use Rattle.rule_types.specs.declared.label.Pair.{Pair}
use Rattle.rule_types.specs.Label.{pair_of, pair_a}
use Rattle.rule_types.specs.Number.{gate_above, a_fifth, a_half, ten_thousand, whole_of}

-- ---- 5: san_fa_v20221115

-- the change of close from one bar to the next, in ten thousandths
unfoldable pub change_of : Bar → Bar → Float
change_of older newer = mul binary64 (abs_of (div binary64 (sub binary64 older.close newer.close) older.close)) ten_thousand

-- the highest of three highs and the lowest of three lows are no folds: of three NaN they are NaN
unfoldable pub san_fa_v20221115 : ℕ → Bar → Bar → Bar → Bar → Bar → Bar → Pair
san_fa_v20221115 zdf b1 b2 b3 b4 b5 b6 =
    let top = max_of (max_of b2.high b3.high) b4.high in
    let bottom = min_of (min_of b2.low b3.low) b4.low in
    pair_of (cond (le (whole_of zdf) (change_of b2 b1) && lt (whole_of zdf) (change_of b6 b5) && lt top b5.high) Met Other)
    (cond (lt b5.«open» b5.close && lt b1.«open» b1.close && lt b5.high b1.close && lt top b1.close && lt b2.close b1.«open») RisingThreeMethods
    (cond (lt b5.close b5.«open» && lt b1.close b1.«open» && lt b1.close b5.low && lt b1.close bottom && lt b1.«open» b2.close) FallingThreeMethods Other))

-- ---- 11: two_crow

unfoldable pub two_crow : Bar → Bar → Bar → Pair
two_crow b1 b2 b3 =
    pair_of (cond (
    (lt b3.«open» b3.close && lt (long_shadow b3) (body_of b3))
    && (lt b2.close b2.«open» && lt b3.high b2.close)
    && (lt b1.close b1.«open» && lt b1.close b2.close)) Bearish Other) Any

-- ---- 12: three_crow

-- the gate reads len, not p: len is above 23, and b3.high < Lmax − 0.25 × gap of the 20 bars that end third from the newest
unfoldable pub gate_shut : ℕ → List Bar → Bar → Bool
gate_shut len gate b3 = let e = extremes_of gate in ltb gate_above len && lt b3.high (sub binary64 e.highest (quarter_gap e))

abbrev pub falling_of : Bar → Bar → Bar → Bool
falling_of b1 b2 b3 =
    lt b1.close b1.«open» && lt b2.close b2.«open» && lt b3.close b3.«open»
    && lt b2.close b3.close && lt b1.close b2.close && lt b2.high b3.high && lt b1.high b2.high

-- short shadows of a falling bar: close − low < 0.5 × (open − close) and high − open < open − close
abbrev pub short_shadows : Bar → Bool
short_shadows b =
    lt (sub binary64 b.close b.low) (mul binary64 a_half (sub binary64 b.«open» b.close))
    && lt (sub binary64 b.high b.«open») (sub binary64 b.«open» b.close)

-- the open of the newer bar lies within the body of the older
abbrev pub opens_within : Bar → Bar → Bool
opens_within newer older = le older.close newer.«open» && le newer.«open» older.«open»

-- the pair of three falling bars with short shadows; in the source's test for 半加强 the open of b3 is compared with its own close
unfoldable pub crow_pair : Bar → Bar → Bar → Pair
crow_pair b1 b2 b3 =
    cond (opens_within b1 b2 && opens_within b2 b3) (pair_of Met Regular)
    (cond (lt b1.«open» b2.close && lt b2.«open» b3.close) (pair_of Met Strong)
    (cond (opens_within b1 b2 && lt b3.«open» b3.close || opens_within b2 b3 && lt b1.«open» b2.close) (pair_of Met HalfStrong) pair_a))

unfoldable pub three_crow : Bar → Bar → Bar → Pair
three_crow b1 b2 b3 = cond (falling_of b1 b2 b3 && (short_shadows b1 && short_shadows b2 && short_shadows b3)) (crow_pair b1 b2 b3) pair_a

-- ---- 16: gap_yin_yang

-- the variance of the two newest bodies is below 0.2
abbrev pub alike_of : Bar → Bar → Bool
alike_of b1 b2 = lt (variance_of (body_of b1 ∷ body_of b2 ∷ [])) a_fifth

unfoldable pub gap_up_of : Bar → Bar → Bar → Bool
gap_up_of b1 b2 b3 = (lt b3.high (min_of b1.low b2.low) && lt b2.«open» b2.close && lt b1.close b1.«open») && alike_of b1 b2

unfoldable pub gap_down_of : Bar → Bar → Bar → Bool
gap_down_of b1 b2 b3 = (lt (max_of b1.high b2.high) b3.low && lt b2.close b2.«open» && lt b1.«open» b1.close) && alike_of b1 b2

unfoldable pub gap_yin_yang : Bar → Bar → Bar → Pair
gap_yin_yang b1 b2 b3 = pair_of (cond (gap_up_of b1 b2 b3) GapUp (cond (gap_down_of b1 b2 b3) GapDown Other)) Any
