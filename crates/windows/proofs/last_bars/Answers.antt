-- The part that the code takes is the definition's, and its bars are the window. Assumes nothing.
use Prim.Native.Nat.{◌-◌, min}
use mathlib.Core.Path.{◌∙◌}
use native.Mathlib.Omega.{arith}
use lib.ListN.{length}
use Rattle.prices.specs.Bar.{bars_of}
use Rattle.windows.specs.Window.{up_to}
use Rattle.windows.proofs.RunLaws.{length-bars, bars-part}
use Rattle.windows.proofs.WindowLaws.{up_to-le, window-part}
use Rattle.windows.proofs.last_bars.Goals as goal

pub part-requires : goal.part-requires
part-requires c =
    omega (arith, c.up_to-p.ensures, c.count.ensures, up_to-le c.count.result c.args.di)

pub returns : goal.returns
returns c =
    let args = c.args in
    let bars = bars_of args.prices.now in
    let p = up_to (length bars) args.di in
    let part = simp (c.least.ensures, c.up_to-p.ensures, c.count.ensures) at c.part.ensures in
    record { prices = rw length-bars at part; bars = rw part (bars-part args.prices.now (p - min args.n p) p ∙ window-part bars args.di args.n) }
