-- What is kept, and the new bar behind it. Assumes nothing.
use Prim.Native.Nat.{◌+◌, ◌-◌}
use mathlib.Core.Path.{◌≡◌, ◌∙◌}
use native.Mathlib.Omega.{arith}
use lib.ListN.{take, drop}
use Rattle.measures.specs.Bar.{bars_of}
use Rattle.held_extremes.proofs.KeepLaws.{next-places}
use Rattle.held_extremes.proofs.next_side.Goals as goal

pub returns : goal.returns
returns g c =
    let s = g.S.Side in
    let a = c.args in
    let from = c.after_oldest-from.result in
    let size : from + 19 - from ≡ 19 = omega arith in
    let left = take 19 (drop from a.held.now) in
    let places = next-places s.beyond s.column a.before a.last (bars_of a.w.now) a.held.now c.told-held c.price-y.result from c.keep-k.result c.keep-k.new.out c.put_new.new.out
    (c.price-y.ensures ∙ rw c.back.ensures) c.after_oldest-from.ensures
    (rw size at c.keep-k.ensures.0) (rw size at c.keep-k.ensures.1) c.put_new.ensures in
    rw (c.price_with-foremost.ensures, places)
