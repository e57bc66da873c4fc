-- "The eighteen": the rules of the two newest bars: 2, 3, 9 and 10. b1 is the judged bar, b2 the one before.
use Rattle.std.specs.Prelude.{ℕ, Bool, cond, ◌&&◌, List, Float}
use Rattle.std.specs.Float.{binary64}
use Rattle.std.specs.Float.Ieee.{add, mul, div, sub, lt, le}
use Rattle.measures.specs.Bar.{Bar, body_of, upper_of, long_shadow}
use Rattle.measures.specs.Price.{max_of, abs_of}
use Rattle.measures.specs.Window.{window_of}
use Rattle.rule_types.specs.declared.label.Label.TheVariants.{Other, Any, Met, Bearish, Bullish, Bottom, Top, StandardBody}
use Rattle.rule_types.specs.declared.label.Pair.{Pair}
use Rattle.rule_types.specs.Label.{pair_of}
use Rattle.rule_types.specs.Number.{one, a_hundred, ten_thousand, whole_of}

-- ---- 2: wu_yun_gai_ding, with the highest of the ten closes that end before b2

-- the ten bars that end before b2, of whose closes 2 reads the highest
abbrev pub ten_closes : List Bar → List Bar
ten_closes w = window_of w 3 10

-- (c2 − o2) ÷ o2 × 10000 > z, o1 > h2, and c1 < (c2 + o2) × (th ÷ 100)
unfoldable pub covers_of : ℕ → ℕ → Bar → Bar → Bool
covers_of z th b1 b2 =
    lt (whole_of z) (mul binary64 (div binary64 (sub binary64 b2.close b2.«open») b2.«open») ten_thousand)
    && lt b2.high b1.«open»
    && lt b1.close (mul binary64 (add binary64 b2.close b2.«open») (div binary64 (whole_of th) a_hundred))

unfoldable pub wu_yun_gai_ding : ℕ → ℕ → Float → Bar → Bar → Pair
wu_yun_gai_ding z th top b1 b2 = pair_of (cond (covers_of z th b1 b2 && le top b2.close) Met Other) Any

-- ---- 3: ci_tou

-- o1 < l2 and c1 > c2 + (o2 − c2) × (th ÷ 100)
unfoldable pub comes_back : ℕ → Bar → Bar → Bool
comes_back th b1 b2 =
    lt b1.«open» b2.low
    && lt (add binary64 b2.close (mul binary64 (sub binary64 b2.«open» b2.close) (div binary64 (whole_of th) a_hundred))) b1.close

-- c2 < o2 and 1 − c2 ÷ o2 > z ÷ 10000
unfoldable pub ci_tou : ℕ → ℕ → Bar → Bar → Pair
ci_tou z th b1 b2 =
    pair_of (cond (
    (lt b2.close b2.«open» && lt (div binary64 (whole_of z) ten_thousand) (sub binary64 one (div binary64 b2.close b2.«open»)))
    && comes_back th b1 b2) Met Other) Any

-- ---- 9: yun_xian

abbrev pub holds_falling : Bar → Bar → Bool
holds_falling b1 b2 = lt b1.close b2.close && lt b2.«open» b1.close && lt b1.«open» b2.close && lt b2.«open» b1.«open»

abbrev pub holds_rising : Bar → Bar → Bool
holds_rising b1 b2 = lt b2.close b1.close && lt b1.close b2.«open» && lt b2.close b1.«open» && lt b1.«open» b2.«open»

-- the source tries 看空 first and lets 看多 take its place
unfoldable pub yun_xian : Bar → Bar → Pair
yun_xian b1 b2 =
    let held = lt (long_shadow b2) (body_of b2) && lt (body_of b1) (long_shadow b1) in
    pair_of (cond (held && holds_rising b1 b2) Bullish (cond (held && holds_falling b1 b2) Bearish Other)) Any

-- ---- 10: ping_tou

-- |x − y| × 10000 ÷ max(x, y) < th
unfoldable pub flat_of : ℕ → Float → Float → Bool
flat_of th x y = lt (div binary64 (mul binary64 (abs_of (sub binary64 x y)) ten_thousand) (max_of x y)) (whole_of th)

unfoldable pub ping_tou : ℕ → Bar → Bar → Pair
ping_tou th b1 b2 =
    pair_of (cond (flat_of th b2.low b1.low) Bottom (cond (flat_of th b2.high b1.high) Top Other))
    (cond (lt (max_of (body_of b1) (upper_of b1)) (body_of b2)) StandardBody Any)
