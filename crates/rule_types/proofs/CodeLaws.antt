-- Codes of the labels. Assumes nothing.
use Prim.Native.Nat.{◌<◌}
use native.Mathlib.Omega.{arith}
use Rattle.rule_types.specs.declared.label.Label.{Label}
use Rattle.rule_types.specs.declared.label.Label.TheVariants.{Other, Any, Met, Hammer, HangingMan, BullishEngulfing, BearishEngulfing, RisingThreeMethods, FallingThreeMethods, Bars5, Bars6, Bars7, Bars8, Bars9, MorningStar, EveningStar, MiddleDoji, FallingSeparatingLines, RisingSeparatingLines, ArrowOnString, CandleInWind, Bearish, Bullish, Bottom, Top, StandardBody, Regular, Strong, HalfStrong, DragonflyDoji, GravestoneDoji, LongLeggedDoji, CommonDoji, Northern, BullishCounterattack, BearishCounterattack, GapUp, GapDown}
use Rattle.rule_types.specs.Label.{code_of}
use Rattle.rule_types.specs.Number.{labels}

-- no label has a code past the last
pub code-known : (l : Label) → code_of l < labels
code-known Other = omega arith
code-known Any = omega arith
code-known Met = omega arith
code-known Hammer = omega arith
code-known HangingMan = omega arith
code-known BullishEngulfing = omega arith
code-known BearishEngulfing = omega arith
code-known RisingThreeMethods = omega arith
code-known FallingThreeMethods = omega arith
code-known Bars5 = omega arith
code-known Bars6 = omega arith
code-known Bars7 = omega arith
code-known Bars8 = omega arith
code-known Bars9 = omega arith
code-known MorningStar = omega arith
code-known EveningStar = omega arith
code-known MiddleDoji = omega arith
code-known FallingSeparatingLines = omega arith
code-known RisingSeparatingLines = omega arith
code-known ArrowOnString = omega arith
code-known CandleInWind = omega arith
code-known Bearish = omega arith
code-known Bullish = omega arith
code-known Bottom = omega arith
code-known Top = omega arith
code-known StandardBody = omega arith
code-known Regular = omega arith
code-known Strong = omega arith
code-known HalfStrong = omega arith
code-known DragonflyDoji = omega arith
code-known GravestoneDoji = omega arith
code-known LongLeggedDoji = omega arith
code-known CommonDoji = omega arith
code-known Northern = omega arith
code-known BullishCounterattack = omega arith
code-known BearishCounterattack = omega arith
code-known GapUp = omega arith
code-known GapDown = omega arith
