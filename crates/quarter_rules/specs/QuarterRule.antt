-- "The eighteen": the rules that read the quarter: 0, 1, 7, 8 and 15. b1 is the judged bar, b2 the one before.
use Rattle.std.specs.Prelude.{ℕ, Bool, cond, ◌&&◌, ◌||◌, List, pos, Float}
use Rattle.std.specs.Float.{binary64}
use Rattle.std.specs.Float.Ieee.{of_int, to_unsigned, eq, ne, mul, div, sub, lt, le, neg}
use Rattle.measures.specs.Bar.{Bar, body_of, upper_of, lower_of}
use Rattle.measures.specs.declared.folds.Extremes.{Extremes}
use Rattle.measures.specs.Price.{zero, abs_of}
use Rattle.measures.specs.Window.{window_of, back_of}
use Rattle.measures.specs.Fold.{extremes_of, low_side, high_side}
use Rattle.rule_types.specs.declared.label.Label.TheVariants.{Other, Any, Met, Hammer, HangingMan, BullishEngulfing, BearishEngulfing, FallingSeparatingLines, RisingSeparatingLines, ArrowOnString, CandleInWind, BullishCounterattack, BearishCounterattack}
use Rattle.rule_types.specs.declared.label.Pair.{Pair}
use Rattle.quarter_rules.specs.declared.Quarter.{Quarter}
use Rattle.rule_types.specs.Label.{pair_of}
use Rattle.rule_types.specs.Number.{quarter_bars, a_fiftieth, a_tenth, a_fifth, a_half, one, a_hundred, ten_thousand, beyond_whole, whole_of}

-- ---- the quarter of the judged bar

-- Lmax and Lmin of the window of 20 bars
abbrev pub quarter_extremes : List Bar → Extremes
quarter_extremes w = extremes_of (window_of w 1 quarter_bars)

-- the side that the judged bar reaches into; neither where p is below 22, which is what `deep` says not
abbrev pub quarter_in : Bool → Extremes → Bar → Quarter
quarter_in deep e b1 = record { low = deep && low_side e b1; high = deep && high_side e b1 }

unfoldable pub quarter_of : Bool → List Bar → Quarter
quarter_of deep w = quarter_in deep (quarter_extremes w) (back_of w 1)

-- ---- 0: san_xing_xian

-- x cut to a whole number, of an x above -1 and below 2 ^ 64, as a threshold times 100 always is
unfoldable pub cut_of : Float → Float
cut_of x = cond (lt (neg one) x && lt x beyond_whole) (of_int binary64 (pos (to_unsigned 64 x))) zero

-- lower > body × t ÷ 100 and upper < 0.2 × body, with t = th × 100 cut to a whole number
unfoldable pub umbrella_of : Float → Bar → Bool
umbrella_of th b =
    lt (div binary64 (mul binary64 (body_of b) (cut_of (mul binary64 th a_hundred))) a_hundred) (lower_of b)
    && lt (upper_of b) (mul binary64 a_fifth (body_of b))

unfoldable pub san_xing_xian : Float → Quarter → Bar → Pair
san_xing_xian th q b1 = pair_of (cond (umbrella_of th b1) Met Other) (cond q.low Hammer (cond q.high HangingMan Other))

-- ---- 1: ten_mo

abbrev pub engulfs_up : Bar → Bar → Bool
engulfs_up b1 b2 = lt b1.«open» b1.close && lt b2.high b1.close && lt b1.«open» b2.low

abbrev pub engulfs_down : Bar → Bar → Bool
engulfs_down b1 b2 = lt b1.close b1.«open» && lt b1.close b2.low && lt b2.high b1.«open»

unfoldable pub ten_mo : Quarter → Bar → Bar → Pair
ten_mo q b1 b2 =
    pair_of (cond (lt b2.high b1.high && lt b1.low b2.low) Met Other)
    (cond (q.low && engulfs_up b1 b2) BullishEngulfing (cond (q.high && engulfs_down b1 b2) BearishEngulfing Other))

-- ---- 7: fen_shou_xian

-- (c2 − c1) ÷ c2 × 10000 > zdf, of the closes
abbrev pub parts_down : ℕ → Bar → Bar → Bool
parts_down zdf b1 b2 =
    eq b1.«open» b2.«open» && lt b1.close b2.low && lt b2.«open» b2.close
    && lt (whole_of zdf) (mul binary64 (div binary64 (sub binary64 b2.close b1.close) b2.close) ten_thousand)

abbrev pub parts_up : ℕ → Bar → Bar → Bool
parts_up zdf b1 b2 =
    eq b1.«open» b2.«open» && lt b2.high b1.close && lt b2.close b2.«open»
    && lt (whole_of zdf) (mul binary64 (div binary64 (sub binary64 b1.close b2.close) b2.close) ten_thousand)

-- equal opens bind the first alternative only
unfoldable pub fen_shou_xian : ℕ → Quarter → Bar → Bar → Pair
fen_shou_xian zdf q b1 b2 =
    pair_of (cond (eq b1.«open» b2.«open» && lt b1.close b2.low || lt b2.high b1.close) Met Other)
    (cond (q.low && parts_down zdf b1 b2) FallingSeparatingLines (cond (q.high && parts_up zdf b1 b2) RisingSeparatingLines Other))

-- ---- 8: zhu_huo_xian

-- upper > body × th ÷ 100, so that a th of 2.0 means 2 percent; a low of zero has no range
unfoldable pub candle_of : Float → ℕ → Bar → Bool
candle_of th zf b =
    lt (div binary64 (mul binary64 (body_of b) th) a_hundred) (upper_of b)
    && lt (lower_of b) (mul binary64 a_fifth (body_of b)) && lt (lower_of b) (mul binary64 a_half (upper_of b))
    && (ne b.low zero && le (whole_of zf) (mul binary64 (div binary64 (sub binary64 b.high b.low) b.low) ten_thousand))

unfoldable pub zhu_huo_xian : Float → ℕ → Quarter → Bar → Pair
zhu_huo_xian th zf q b1 = pair_of (cond (candle_of th zf b1) Met Other) (cond q.low ArrowOnString (cond q.high CandleInWind Other))

-- ---- 15: fan_ji_xian, which names its bars oldest first: bar3 is the judged one

-- |o3 − c2| ÷ body2 ≥ 1, |c3 − c2| ÷ body2 ≤ 0.1 and body2 ÷ gap ≥ 0.02, of a bar2 that is not level
unfoldable pub counters_of : Extremes → Bar → Bar → Bool
counters_of e bar2 bar3 =
    let body2 = body_of bar2 in
    (ne bar2.close bar2.«open» && le one (div binary64 (abs_of (sub binary64 bar3.«open» bar2.close)) body2))
    && (le (div binary64 (abs_of (sub binary64 bar3.close bar2.close)) body2) a_tenth
    && le a_fiftieth (div binary64 body2 (sub binary64 e.highest e.lowest)))

abbrev pub counters_up : Extremes → Bar → Bar → Bar → Bool
counters_up e bar1 bar2 bar3 = low_side e bar1 && lt bar2.close bar1.close && lt bar2.close bar2.«open» && lt bar3.«open» bar2.close

abbrev pub counters_down : Extremes → Bar → Bar → Bar → Bool
counters_down e bar1 bar2 bar3 = high_side e bar1 && lt bar1.close bar2.close && lt bar2.close bar3.«open» && lt bar2.«open» bar2.close

unfoldable pub fan_ji_xian : Extremes → Bar → Bar → Bar → Pair
fan_ji_xian e bar1 bar2 bar3 =
    cond (counters_of e bar2 bar3)
    (pair_of Met (cond (counters_up e bar1 bar2 bar3) BullishCounterattack (cond (counters_down e bar1 bar2 bar3) BearishCounterattack Any)))
    (pair_of Other Any)
