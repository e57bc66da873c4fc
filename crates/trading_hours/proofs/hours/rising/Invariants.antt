use mathlib.Core.Path.{◌≡◌}
use lib.ListN.{drop}
use Rattle.trading_hours.specs.Hours.{rising_from}
use Rattle.trading_hours.proofs.hours.rising.Given as goal

-- the windows rise if those that are left do
abbrev pub invariant-loop-w : goal.invariant-loop-w
invariant-loop-w l = rising_from 0 l.windows ≡ rising_from l.at (drop l.w-index l.windows)
