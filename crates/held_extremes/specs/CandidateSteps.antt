-- Helpers of the code alone: the bar and the price of a candidate, by its ordinal; and what one bar more makes of what was held.
use Rattle.std.specs.Prelude.{ℕ, ◌+◌, ◌-◌, Bool, true, false, cond, ◌||◌, List, [], ◌∷◌, ◌++◌, eqb, length, get_or, take, Float}
use Rattle.std.specs.Float.{inf}
use Rattle.std.specs.Float.Ieee.{is_nan}
use Rattle.measures.specs.Bar.{Bar, no_bar}
use Rattle.measures.specs.declared.folds.Column.{Column}
use Rattle.measures.specs.declared.folds.Column.TheVariants.{High, Low}
use Rattle.measures.specs.Fold.{price_of}
use Rattle.measures.specs.Window.{back_of}
use Rattle.rule_types.specs.Number.{quarter_bars}
use Rattle.held_extremes.specs.declared.HeldExtremes.{HeldExtremes}
use Rattle.held_extremes.specs.declared.HeldSide.{HeldSide}
use Rattle.held_extremes.specs.Candidate.{greater, smaller, placed}

-- the bar with an ordinal, of bars that follow some others
abbrev pub bar_with : ℕ → List Bar → ℕ → Bar
bar_with before bars ordinal = get_or bars (ordinal - (before + 1)) no_bar

-- its price in a column
abbrev pub bar_price : Column → ℕ → List Bar → ℕ → Float
bar_price c before bars ordinal = price_of c (bar_with before bars ordinal)

-- 0 is no bar, for which the fold's infinity stands
abbrev pub price_with : Column → Float → ℕ → List Bar → ℕ → Float
price_with c none before bars ordinal = cond (eqb ordinal 0) none (bar_price c before bars ordinal)

-- one side of what is held, by its places: the foremost is the first candidate's price
abbrev pub side_with : Column → Float → ℕ → List Bar → List ℕ → HeldSide
side_with c none before bars places = record { foremost = price_with c none before bars (get_or places 0 0); places = places }

-- both sides
abbrev pub both : HeldSide → HeldSide → HeldExtremes
both high low = record { highest = high.foremost; lowest = low.foremost; highs = high.places; lows = low.places }

-- ---- one bar more

-- places without the first, if that has the bar that falls out
abbrev pub left_of : ℕ → List ℕ → List ℕ
left_of oldest [] = []
left_of oldest (o ∷ os) = cond (eqb o oldest) os (o ∷ os)

-- places up to the first that is empty, or that a new price is beyond: from there on all make room
abbrev pub is_room : (Float → Float → Bool) → Float → (ℕ → Float) → ℕ → Bool
is_room beyond y price o = eqb o 0 || beyond (price o) y

unfoldable pub room_for : (Float → Float → Bool) → Float → (ℕ → Float) → List ℕ → List ℕ
room_for beyond y price [] = []
room_for beyond y price (o ∷ os) = cond (is_room beyond y price o) [] (o ∷ room_for beyond y price os)

-- the new bar, unless its price is NaN
abbrev pub entered : Float → ℕ → List ℕ
entered y last = cond (is_nan y) [] (last ∷ [])

-- the candidates after a bar, the newest of these, came with the ordinal last
abbrev pub next_ordinals : (Float → Float → Bool) → Column → ℕ → ℕ → List Bar → List ℕ → List ℕ
next_ordinals beyond c before last bars places =
    let y = price_of c (back_of bars 1) in
    room_for beyond y (bar_price c before bars) (take (quarter_bars - 1) (left_of (last - quarter_bars) places)) ++ entered y last

-- what is held then
abbrev pub held_from : ℕ → List Bar → List ℕ → List ℕ → HeldExtremes
held_from before bars highs lows = both (side_with High (inf true) before bars highs) (side_with Low (inf false) before bars lows)

unfoldable pub next_held : HeldExtremes → ℕ → List Bar → HeldExtremes
next_held h last bars =
    let before = last - length bars in
    held_from before bars (placed (next_ordinals greater High before last bars h.highs)) (placed (next_ordinals smaller Low before last bars h.lows))
