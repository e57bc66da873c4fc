-- "The measures": Lmax and Lmin of the windows of 20 bars that end with each of twenty bars of a run.
use Rattle.std.specs.Prelude.{ℕ, ◌+◌, cond, List, [], map, ltb, length, take}
use Rattle.measures.specs.Bar.{Bar}
use Rattle.measures.specs.declared.folds.Extremes.{Extremes}
use Rattle.measures.specs.Fold.{extremes_of}
use Rattle.measures.specs.Window.{newest}
use Rattle.rule_types.specs.Number.{quarter_bars, numbers}

-- the newest 20 bars up to the i-th of a run, counted from 0; none where there is no such bar
unfoldable pub window_to : List Bar → ℕ → List Bar
window_to bars i = cond (ltb i (length bars)) (newest quarter_bars (take (i + 1) bars)) []

-- the extremes of windows that are given by numbers, in the places of the first twenty
abbrev pub extremes_over : (ℕ → List Bar) → List Extremes
extremes_over w = map (λ k. extremes_of (w k)) (numbers quarter_bars 0)

-- those of the windows that end with the bars from the place at on
unfoldable pub window_extremes : List Bar → ℕ → List Extremes
window_extremes bars at = extremes_over (λ k. window_to bars (at + k))
