-- How bars enter the extremes of a window, as the code's helpers have it: older ones from the newest back, newer ones as they come.
use Rattle.std.specs.Prelude.{ℕ, ◌-◌, Bool, cond, List, [], leb, get_or, take, Float}
use Rattle.std.specs.Float.Ieee.{lt, le}
use Rattle.measures.specs.Bar.{Bar, no_bar}
use Rattle.measures.specs.Fold.{extremes_of}
use Rattle.measures.specs.declared.folds.Extremes.{Extremes}
use Rattle.measures.specs.Window.{newest}
use Rattle.rule_types.specs.Number.{quarter_bars}
use Rattle.sliding_extremes.specs.WindowExtreme.{extremes_over}

-- what comes later enters if it is beyond
abbrev pub with_newer : Extremes → Float → Float → Extremes
with_newer e high low = record { highest = cond (lt e.highest high) high e.highest; lowest = cond (lt low e.lowest) low e.lowest }

-- an older bar enters if nothing is beyond it
abbrev pub with_older : Extremes → Bar → Extremes
with_older e b = record { highest = cond (le e.highest b.high) b.high e.highest; lowest = cond (le b.low e.lowest) b.low e.lowest }

-- the i-th bar before a place, if there is one
abbrev pub next_older : Extremes → List Bar → ℕ → ℕ → Extremes
next_older e bars at i = cond (leb i at) (with_older e (get_or bars (at - i) no_bar)) e

-- the extremes of a window from those of its older and of its newer bars; of no bar where there is no window
abbrev pub joined : Bool → Extremes → Extremes → Extremes
joined inside older newer = cond inside (with_newer older newer.highest newer.lowest) (extremes_of [])

-- the bars before a place that the window of the k-th bar from there on has, and their extremes
abbrev pub bars_before : List Bar → ℕ → ℕ → List Bar
bars_before bars at k = newest (quarter_bars - 1 - k) (take at bars)

unfoldable pub older_extremes : List Bar → ℕ → List Extremes
older_extremes bars at = extremes_over (bars_before bars at)
