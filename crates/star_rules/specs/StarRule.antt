-- "The eighteen": the rules of stars, which are bars with a small body or none: 6, 13 and 14. b1 is the judged bar, b2 the one before.
use Rattle.std.specs.Prelude.{ℕ, ◌+◌, Bool, cond, ◌&&◌, ◌||◌, List, [], ◌∷◌, leb}
use Rattle.std.specs.Float.{binary64}
use Rattle.std.specs.Float.Ieee.{add, eq, mul, lt}
use Rattle.measures.specs.Bar.{Bar, body_of, upper_of, lower_of, doji_of}
use Rattle.measures.specs.Price.{zero, max_of, min_of}
use Rattle.rule_types.specs.declared.label.{Label.Label, Pair.Pair}
use Rattle.rule_types.specs.declared.label.Label.TheVariants.{Other, Any, Met, MorningStar, EveningStar, MiddleDoji, DragonflyDoji, GravestoneDoji, LongLeggedDoji, CommonDoji, Northern}
use Rattle.rule_types.specs.Label.{pair_of}
use Rattle.rule_types.specs.Number.{two, three, whole_of}

-- ---- 6: xing_xian

-- body2 × th < body3 and body3 < body2 + body1
unfoldable pub star_bodies : ℕ → Bar → Bar → Bar → Bool
star_bodies th b1 b2 b3 = lt (mul binary64 (body_of b2) (whole_of th)) (body_of b3) && lt (body_of b3) (add binary64 (body_of b2) (body_of b1))

unfoldable pub morning_of : ℕ → Bar → Bar → Bar → Bool
morning_of th b1 b2 b3 =
    lt b2.high b3.high && lt b2.high b1.high && lt b2.low b3.low && lt b2.low b1.low
    && lt b3.close b3.«open» && star_bodies th b1 b2 b3
    && lt b1.«open» b1.close && lt (max_of b2.close b2.«open») b1.«open»

unfoldable pub evening_of : ℕ → Bar → Bar → Bar → Bool
evening_of th b1 b2 b3 =
    lt b3.high b2.high && lt b1.high b2.high && lt b3.low b2.low && lt b1.low b2.low
    && lt b3.«open» b3.close && star_bodies th b1 b2 b3
    && lt b1.close b1.«open» && lt b1.«open» (min_of b2.close b2.«open»)

unfoldable pub xing_xian : ℕ → Bar → Bar → Bar → Pair
xing_xian th b1 b2 b3 =
    pair_of (cond (morning_of th b1 b2 b3) MorningStar (cond (evening_of th b1 b2 b3) EveningStar Other))
    (cond (eq b2.close b2.«open») MiddleDoji Any)

-- ---- 13: szx; its th, and that of 14, counts tenths (02, P4)

unfoldable pub doji_kind : Bar → Bar → Label
doji_kind b1 b2 =
    cond (lt (mul binary64 (upper_of b1) two) (lower_of b1)) DragonflyDoji
    (cond (eq (lower_of b1) zero || lt (lower_of b1) (body_of b1)) GravestoneDoji
    (cond (lt (body_of b2) (lower_of b1) && lt (body_of b2) (upper_of b1)) LongLeggedDoji CommonDoji))

unfoldable pub northern_of : Bar → Bool
northern_of b = lt b.«open» b.close && lt (mul binary64 (add binary64 (upper_of b) (lower_of b)) three) (body_of b)

-- the pair, by the test of a doji
abbrev pub szx_by : (Bar → Bool) → Bar → Bar → Pair
szx_by isDoji b1 b2 = pair_of (cond (isDoji b1) (doji_kind b1 b2) Other) (cond (northern_of b2) Northern Any)

unfoldable pub szx : ℕ → Bar → Bar → Pair
szx th = szx_by (doji_of (whole_of th))

-- ---- 14: san_szx

-- how many of the bars are doji
unfoldable pub doji_count : (Bar → Bool) → List Bar → ℕ
doji_count isDoji [] = 0
doji_count isDoji (b ∷ bars) = cond (isDoji b) 1 0 + doji_count isDoji bars

-- the pair, by the test of a doji: at least three of the newest five
abbrev pub san_szx_by : (Bar → Bool) → Bar → Bar → Bar → Bar → Bar → Pair
san_szx_by isDoji b1 b2 b3 b4 b5 = pair_of (cond (leb 3 (doji_count isDoji (b5 ∷ b4 ∷ b3 ∷ b2 ∷ b1 ∷ []))) Met Other) Any

unfoldable pub san_szx : ℕ → Bar → Bar → Bar → Bar → Bar → Pair
san_szx th = san_szx_by (doji_of (whole_of th))
