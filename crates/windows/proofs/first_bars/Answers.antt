-- The part that the code takes has the first bars. Assumes nothing.
use Prim.Native.Nat.{◌-◌, min}
use mathlib.Core.Path.{◌≡◌, refl, ◌∙◌}
use native.Mathlib.Omega.{arith}
use lib.ListN.{length}
use Rattle.prices.specs.Bar.{bars_of}
use Rattle.windows.proofs.RunLaws.{bars-part, take-least}
use Rattle.windows.proofs.first_bars.Goals as goal

pub part-requires : goal.part-requires
part-requires c = omega (arith, c.least.ensures, c.count.ensures)

pub returns : goal.returns
returns c =
    let args = c.args in
    let ps = args.prices.now in
    let all : min args.n (length (bars_of ps)) - 0 ≡ min args.n (length (bars_of ps)) = omega arith in
    let part = simp (c.least.ensures, c.count.ensures) at c.part.ensures in
    record { prices = part; bars = rw part (bars-part ps 0 (min args.n (length (bars_of ps))) ∙ rw all (take-least args.n (length (bars_of ps)) (bars_of ps) refl)) }
