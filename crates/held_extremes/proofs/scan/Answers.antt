-- The bars passed are scanned. Assumes nothing.
use Prim.Native.Nat.{◌+◌, ◌-◌, ◌≤◌}
use mathlib.Core.Path.{◌≡◌, refl, ◌∙◌}
use mathlib.Core.Bool.{cond}
use mathlib.Core.List.{◌∷◌}
use native.Mathlib.Omega.{arith}
use lib.ListN.{length, drop}
use Rattle.measures.specs.Bar.{bars_of}
use Rattle.measures.specs.Fold.{column_of}
use Rattle.held_extremes.proofs.ScanLaws.{scan-starts, stays_within, scan-next, column-from}
use Rattle.held_extremes.proofs.scan.Goals as goal

pub loop-i-init : goal.loop-i-init
loop-i-init g c =
    let s = g.S.Side in
    let bars = bars_of c.args.w.now in
    (omega (arith, c.count-i.ensures), c.requires.2, omega arith, omega (arith, c.count-i.ensures), rw c.none-foremost.ensures (scan-starts s.beyond s.start g.met.S.Side.laws s.column c.args.places.now _ _ _ bars c.count-i.ensures c.requires.3))

pub loop-i-preserved : goal.loop-i-preserved
loop-i-preserved g c =
    let s = g.S.Side in
    let bars = bars_of c.args.w.now in
    let i = c.loop-i.i in
    let inv = c.loop-i.invariant in
    let some : 1 ≤ i = omega (arith, c.loop-i-test.true) in
    let here : c.args.before + i ≡ c.args.before + (i - 1) + 1 = omega (arith, some) in
    let x = c.price-x.result in
    let price : drop (i - 1) (column_of s.column bars) ≡ x ∷ drop i (column_of s.column bars) = rw (c.price-x.ensures, c.bar_or_none.ensures) (column-from s.column bars i some inv.0) in
    let next : c.pick-foremost.result ≡ cond (s.beyond c.loop-i.foremost x) x c.loop-i.foremost = rw c.is_beyond.ensures at c.pick-foremost.ensures in
    let within = stays_within c.stays.result c.enter-at.result c.loop-i.at i (length bars) c.enter-at.ensures.0 inv.2 inv.3 some inv.0 in (
      omega (arith, inv.0),
      c.enter-at.auto.c ∙ inv.1,
      within.0,
      within.1,
      rw price (scan-next s.beyond g.met.S.Side.laws.way _ _ _ _ _ _ x _ _ _ _ (rw here at inv.4) refl c.stays.ensures next c.enter-at.ensures.1),
    )
