-- The loop's invariant: the windows rise if those that are left do. Assumes nothing.
use mathlib.Core.Path.{sym, ◌∙◌}
use native.Mathlib.Omega.{arith}
use Rattle.trading_hours.proofs.HourLaws.{rising-next, rising-not, rising-past}
use Rattle.trading_hours.proofs.hours.rising.Goals as goal

pub returns-then-not-at-w : goal.returns-then-not-at-w
returns-then-not-at-w c =
    let at = c.loop-w in
    sym (at.invariant ∙ rising-not at.at c.args.windows.now at.w-index (omega arith) c.if-not-at-w.true)

pub loop-w-preserved : goal.loop-w-preserved
loop-w-preserved c =
    let at = c.loop-w in
    at.invariant ∙ rising-next at.at c.args.windows.now at.w-index (omega arith) c.if-not-at-w.false

pub returns : goal.returns
returns c =
    let at = c.loop-w in
    sym (at.invariant ∙ rising-past at.at c.args.windows.now at.w-index (omega arith))
