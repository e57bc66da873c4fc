-- The part that is copied. Assumes nothing.
use Prim.Native.Nat.{◌+◌, ◌-◌}
use mathlib.Core.Path.{◌≡◌}
use native.Mathlib.Omega.{arith}
use lib.ListN.{length, take}
use mathlib.Core.List.{append_assoc}
use lib.Seq.{length-take-le, drop-drop}
use Rattle.bar_box.proofs.runs.put_prices.Goals as goal

pub returns : goal.returns
returns c =
    let args = c.args in
    let some : args.at + args.n - args.at ≡ args.n = omega arith in
    let size : length (take args.n args.prices.now) ≡ args.n = length-take-le args.n args.prices.now c.requires.0 in
    let same : c.copy_from_slice.new.self ≡ take args.n args.prices.now = c.copy_from_slice.ensures.after in
    rw (same, size, some) (simp (append_assoc, drop-drop))
