-- Both sides over the newest bars. Assumes nothing.
use Prim.Native.Nat.{◌≤◌}
use mathlib.Core.Path.{◌≡◌, ◌∙◌}
use native.Mathlib.Omega.{arith}
use lib.ListN.{length}
use Rattle.measures.specs.Bar.{bars_of}
use Rattle.measures.specs.Window.{newest}
use Rattle.rule_types.specs.Number.{quarter_bars}
use Rattle.held_extremes.specs.Candidate.{held_of}
use Rattle.held_extremes.proofs.HeldLaws.{window-newest, window-few, window-first}
use Rattle.held_extremes.proofs.held_of.Goals as goal

pub held_side-requires : goal.held_side-requires
held_side-requires c =
    let small : length (bars_of c.last_bars-w.result.now) ≤ quarter_bars = window-few (bars_of c.args.prices.now) _ c.last_bars-w.ensures.bars in
    (small, omega (arith, c.before_of-before.ensures, c.count.ensures))

pub held_side-requires-2 : goal.held_side-requires-2
held_side-requires-2 c =
    let small : length (bars_of c.last_bars-w.result.now) ≤ quarter_bars = window-few (bars_of c.args.prices.now) _ c.last_bars-w.ensures.bars in
    (small, omega (arith, c.before_of-before.ensures, c.count.ensures))

pub returns : goal.returns
unfolding held_of
returns c =
    let bars = bars_of c.args.prices.now in
    let is : bars_of c.last_bars-w.result.now ≡ newest quarter_bars bars = c.last_bars-w.ensures.bars ∙ window-newest bars quarter_bars in
    rw (c.both.ensures, c.held_side.ensures, c.held_side-2.ensures, c.before_of-before.ensures, c.count.ensures, is) (window-first c.args.n (newest quarter_bars bars))
