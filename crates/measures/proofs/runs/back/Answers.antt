-- The code is the definition.
use Rattle.std.proofs.Common.{◌≡◌, ◌-◌, length, min, arith}
use Rattle.prices.specs.Bar.{bars_of}
use Rattle.windows.specs.Window.{back_of}
use Rattle.measures.proofs.runs.back.Goals as goal

pub returns : goal.returns
unfolding back_of
returns c =
    let n = length (bars_of c.args.prices.now) in
    let e : n - min c.args.i n ≡ n - c.args.i = omega arith in
    rw e (simp (c.bar_or_none.ensures, c.saturating_sub.ensures, c.count.ensures))
