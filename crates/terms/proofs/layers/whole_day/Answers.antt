-- The code is the definition. Assumes nothing.
use mathlib.Core.Path.{◌≡◌, ap}
use mathlib.Core.List.{[], ◌∷◌}
use Rattle.trading_hours.specs.Hours.{window_from, no_window, hours_with}
use Rattle.terms.specs.Layer.{whole_day}
use Rattle.terms.proofs.layers.whole_day.Goals as goal

pub returns : goal.returns
unfolding whole_day
returns c =
    let none : window_from c.default-none.result.from c.default-none.result.to ≡ no_window = rw (c.default-none.ensures.0, c.default-none.ensures.1) in
    ap (λ w. hours_with (window_from 0 1440 ∷ w ∷ w ∷ w ∷ []) 1) none
