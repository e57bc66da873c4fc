-- 02, P2: the extremes of a window's middle, the bars between its first and its last, which run along as the window grows.
use Rattle.std.specs.Prelude.{ℕ, cond, not, ◌&&◌, ltb, length, List}
use Rattle.std.specs.Float.Ieee.{is_nan}
use Rattle.measures.specs.Bar.{Bar}
use Rattle.measures.specs.declared.folds.Column.TheVariants.{High, Low}
use Rattle.measures.specs.Price.{max_of, min_of}
use Rattle.measures.specs.Window.{window_of, back_of}
use Rattle.measures.specs.Fold.{column_of, every_of, extremes_of}
use Rattle.middles.specs.declared.Middle.{Middle}
use Rattle.middles.specs.Part.{inner_of}

-- the highest high and the lowest low by 01's folds, which pass NaN over; and whether no high, no low is NaN
unfoldable pub middle_of : List Bar → Middle
middle_of mid = record {
  highest = (extremes_of mid).highest;
  lowest = (extremes_of mid).lowest;
  highs = every_of (λ x. not (is_nan x)) (column_of High mid);
  lows = every_of (λ x. not (is_nan x)) (column_of Low mid);
}

-- a bar enters that is older than those of the middle: its prices are the first arguments
unfoldable pub entered : Bar → Middle → Middle
entered b m = record {
  highest = max_of b.high m.highest;
  lowest = min_of b.low m.lowest;
  highs = not (is_nan b.high) && m.highs;
  lows = not (is_nan b.low) && m.lows;
}

-- the window of n bars grows by one: its first bar enters what ran along, whatever that is; where there is no older bar, nothing does
unfoldable pub grown_by : List Bar → ℕ → Middle → Middle
grown_by w n m = cond (ltb n (length w)) (entered (back_of w n) m) m

-- at the size of n bars
unfoldable pub middle_at : List Bar → ℕ → Middle
middle_at w n = middle_of (inner_of (window_of w 1 n))
