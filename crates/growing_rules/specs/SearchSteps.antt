-- 02, P2: what the code asks of the extremes of a window's middle, and what its scan of 17's bodies carries and gives. No public promise cites this file:
-- those of 4 and 17 are in GrowingRule.
use Rattle.std.specs.Prelude.{ℕ, ◌-◌, min, Bool, cond, ◌&&◌, ◌||◌, get_or, List, Option, Some, None, Float}
use Rattle.std.specs.Float.{nan}
use Rattle.std.specs.Float.Ieee.{lt}
use Rattle.measures.specs.Bar.{Bar}
use Rattle.rule_types.specs.declared.label.{Label.Label, Pair.Pair}
use Rattle.rule_types.specs.Label.{pair_a}
use Rattle.growing_rules.specs.declared.{Both.Both, Leaders.Leaders}
use Rattle.middles.specs.declared.Middle.{Middle}
use Rattle.growing_rules.specs.GrowingRule.{first_match, three_methods, bodies_down, bodies_known, tower}

-- ---- what a window needs of its ends and of these extremes: all that 4 asks but for the closes, all that 17 asks but for the bodies and the
-- variance

unfoldable pub may_rise : Bar → Bar → Middle → Bool
may_rise first last m =
    lt last.«open» last.close && lt first.«open» first.close && lt first.high last.close
    && lt m.highest last.close && lt first.high m.highest && lt first.«open» m.lowest

unfoldable pub may_fall : Bar → Bar → Middle → Bool
may_fall first last m =
    lt last.close last.«open» && lt first.close first.«open» && lt last.close first.low
    && lt m.lowest first.low && lt last.close m.lowest && lt m.highest first.«open»

-- every low is above a bound if none is NaN and the lowest is above it, and a bound that is the larger of two is both of them
unfoldable pub may_be_top : Bar → Bar → Middle → Bool
may_be_top first last m =
    lt first.«open» first.close && lt last.close last.«open»
    && m.lows && lt first.«open» m.lowest && lt last.close m.lowest

unfoldable pub may_be_bottom : Bar → Bar → Middle → Bool
may_be_bottom first last m =
    lt first.close first.«open» && lt last.«open» last.close
    && m.highs && lt m.highest first.«open» && lt m.highest last.close

abbrev pub may_be_methods : Bar → Bar → Middle → Bool
may_be_methods first last m = may_rise first last m || may_fall first last m

abbrev pub may_be_tower : Bar → Bar → Middle → Bool
may_be_tower first last m = may_be_top first last m || may_be_bottom first last m

-- ---- the search

-- whether the newest bar rises to a close above the middle's highest, or falls to one below its lowest: no window matches otherwise, and no
-- longer one
unfoldable pub beyond : Bar → Middle → Bool
beyond last m = lt last.«open» last.close && lt m.highest last.close || lt last.close last.«open» && lt last.close m.lowest

-- nothing is found
abbrev pub no_match : Both Pair
no_match = record { methods = pair_a; tower = pair_a }

-- what is found in the windows of fewer than n bars, and of fewer than an end
unfoldable pub found_of : (List Bar → Label) → ℕ → List Bar → ℕ → Pair
found_of label_of end w n = first_match label_of (min n end - 5) 5 w

abbrev pub searched_of : Both ℕ → List Bar → ℕ → Both Pair
searched_of ends w n = record { methods = found_of three_methods ends.methods w n; tower = found_of tower ends.tower w n }

-- ---- what the scan of the bodies carries: the two greatest, NaN where there is none; it gives none where a body is NaN

unfoldable pub two_of : List Bar → Leaders
two_of s = record { first = get_or (bodies_down s) 0 nan; second = get_or (bodies_down s) 1 nan }

unfoldable pub leaders_of : List Bar → Option Leaders
leaders_of s = cond (bodies_known s) (Some (two_of s)) None

-- an older bar's body x comes in front
unfoldable pub body_joined : Float → Leaders → Leaders
body_joined x l = record {
  first = cond (lt x l.first) l.first x;
  second = cond (lt x l.first) (cond (lt x l.second) l.second x) l.first;
}
