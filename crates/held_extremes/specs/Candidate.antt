-- 02, P7: the candidates of prices in arrival order, and what a box holds of its newest 20 bars.
use Rattle.std.specs.Prelude.{ℕ, ◌+◌, ◌-◌, Bool, true, false, cond, not, ◌&&◌, List, [], ◌∷◌, ◌++◌, eqb, length, replicate, Float}
use Rattle.std.specs.Float.{binary64}
use Rattle.std.specs.Float.Ieee.{lt, eq, is_nan, to_bits}
use Rattle.measures.specs.Bar.{Bar}
use Rattle.measures.specs.declared.folds.Column.TheVariants.{High, Low}
use Rattle.measures.specs.declared.folds.Extremes.{Extremes}
use Rattle.measures.specs.Fold.{column_of, highest_of, lowest_of, every_of}
use Rattle.measures.specs.Window.{newest}
use Rattle.rule_types.specs.Number.{quarter_bars}
use Rattle.held_extremes.specs.declared.HeldExtremes.{HeldExtremes}

-- whether a later price is beyond one: greater, for the highest; smaller, for the lowest
abbrev pub greater : Float → Float → Bool
greater x later = lt x later

abbrev pub smaller : Float → Float → Bool
smaller x later = lt later x

-- a bar is a candidate while no later one is beyond it; a NaN is never one
abbrev pub stays : (Float → Float → Bool) → Float → List Float → Bool
stays beyond x later = not (is_nan x) && every_of (λ y. not (beyond x y)) later

-- the ordinals of the candidates, in arrival order, of bars with these prices that follow n others
unfoldable pub candidates : (Float → Float → Bool) → ℕ → List Float → List ℕ
candidates beyond n [] = []
candidates beyond n (x ∷ later) = cond (stays beyond x later) ((n + 1) ∷ candidates beyond (n + 1) later) (candidates beyond (n + 1) later)

-- candidates stand from the first place, zeros after them
abbrev pub placed : List ℕ → List ℕ
placed ordinals = ordinals ++ replicate (quarter_bars - length ordinals) 0

-- what a box holds that counts n bars and keeps these: the extremes are 01's folds over the newest 20, or all if fewer
abbrev pub held_by : ℕ → List Bar → HeldExtremes
held_by n w =
    record {
      highest = highest_of (column_of High w);
      lowest = lowest_of (column_of Low w);
      highs = placed (candidates greater (n - length w) (column_of High w));
      lows = placed (candidates smaller (n - length w) (column_of Low w));
    }

unfoldable pub held_of : ℕ → List Bar → HeldExtremes
held_of n bars = held_by n (newest quarter_bars bars)

-- the held values, as the quarter takes them
abbrev pub extremes_in : HeldExtremes → Extremes
extremes_in h = record { highest = h.highest; lowest = h.lowest }

-- ---- whether what a box holds is that of its bars

-- by value with the sign of zero; a NaN is never right
abbrev pub same_price : Float → Float → Bool
same_price x y = eq x y && eqb (to_bits binary64 x) (to_bits binary64 y)

unfoldable pub same_ordinals : List ℕ → List ℕ → Bool
same_ordinals [] [] = true
same_ordinals [] (y ∷ ys) = false
same_ordinals (x ∷ xs) [] = false
same_ordinals (x ∷ xs) (y ∷ ys) = eqb x y && same_ordinals xs ys

unfoldable pub same_held : HeldExtremes → HeldExtremes → Bool
same_held a b = same_price a.highest b.highest && same_price a.lowest b.lowest && same_ordinals a.highs b.highs && same_ordinals a.lows b.lows
