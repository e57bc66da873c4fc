-- "The eighteen": codes of the labels, 0 to 37, and the short pairs.
use Rattle.std.specs.Prelude.{ℕ, List, [], ◌∷◌}
use Rattle.rule_types.specs.declared.label.{Label.Label, Pair.Pair}
use Rattle.rule_types.specs.declared.label.Label.TheVariants.{Other, Any, Met, Hammer, HangingMan, BullishEngulfing, BearishEngulfing, RisingThreeMethods, FallingThreeMethods, Bars5, Bars6, Bars7, Bars8, Bars9, MorningStar, EveningStar, MiddleDoji, FallingSeparatingLines, RisingSeparatingLines, ArrowOnString, CandleInWind, Bearish, Bullish, Bottom, Top, StandardBody, Regular, Strong, HalfStrong, DragonflyDoji, GravestoneDoji, LongLeggedDoji, CommonDoji, Northern, BullishCounterattack, BearishCounterattack, GapUp, GapDown}

abbrev pub code_of : Label → ℕ
code_of Other = 0
code_of Any = 1
code_of Met = 2
code_of Hammer = 3
code_of HangingMan = 4
code_of BullishEngulfing = 5
code_of BearishEngulfing = 6
code_of RisingThreeMethods = 7
code_of FallingThreeMethods = 8
code_of Bars5 = 9
code_of Bars6 = 10
code_of Bars7 = 11
code_of Bars8 = 12
code_of Bars9 = 13
code_of MorningStar = 14
code_of EveningStar = 15
code_of MiddleDoji = 16
code_of FallingSeparatingLines = 17
code_of RisingSeparatingLines = 18
code_of ArrowOnString = 19
code_of CandleInWind = 20
code_of Bearish = 21
code_of Bullish = 22
code_of Bottom = 23
code_of Top = 24
code_of StandardBody = 25
code_of Regular = 26
code_of Strong = 27
code_of HalfStrong = 28
code_of DragonflyDoji = 29
code_of GravestoneDoji = 30
code_of LongLeggedDoji = 31
code_of CommonDoji = 32
code_of Northern = 33
code_of BullishCounterattack = 34
code_of BearishCounterattack = 35
code_of GapUp = 36
code_of GapDown = 37

-- what a recogniser answers: v1 and v2
abbrev pub pair_of : Label → Label → Pair
pair_of a b = record { v1 = a; v2 = b }

-- A is 其他/其他, B is 其他/任意
abbrev pub pair_a : Pair
pair_a = pair_of Other Other

abbrev pub pair_b : Pair
pair_b = pair_of Other Any

-- v1, then v2, of each pair, as codes
unfoldable pub codes_of : List Pair → List ℕ
codes_of [] = []
codes_of (pair ∷ pairs) = code_of pair.v1 ∷ code_of pair.v2 ∷ codes_of pairs
