-- The rows over the run, then those over the lent prices. Assumes nothing.
use Prim.Native.Nat.{◌+◌, min}
use mathlib.Core.Path.{◌≡◌, ◌∙◌}
use mathlib.Core.List.{◌++◌}
use native.Mathlib.Omega.{arith}
use lib.ListN.{length, take, length-take, length-append}
use lib.Seq.{length-take-le}
use Rattle.measures.specs.Bar.{bars_of}
use Rattle.measures.proofs.RunLaws.{length-bars}
use Rattle.bar_box.specs.Sheet.{before}
use Rattle.bar_box.proofs.SeamLaws.{run-seam, feed-sheet}
use Rattle.bar_box.proofs.feeds.label.Goals as goal

pub put_prices-requires : goal.put_prices-requires
put_prices-requires c =
    omega (arith, length-bars c.args.prices.now, c.count.ensures, c.least-new.ensures, c.requires.0, c.requires.1)

pub slice_bounds-label_run-end-2 : goal.slice_bounds-label_run-end-2
slice_bounds-label_run-end-2 c = simp length-take (omega arith)

pub label_run-requires : goal.label_run-requires
label_run-requires c =
    let args = c.args in
    let bars = bars_of args.prices.now in
    let new = c.least-new.result in
    let new_is : new ≡ min (length bars) before = c.least-new.ensures ∙ rw c.count.ensures in
    let seam = run-seam args.run.now args.prices.now c.put_prices.new.out args.old new c.requires.0 c.requires.1 new_is c.put_prices.ensures in
    let some = length-take-le new bars (omega (arith, new_is)) in
    let both : length (take args.old (bars_of args.run.now) ++ take new bars) ≡ args.old + new = rw (length-append, seam.0, some) in
    rw seam.1 (omega (arith, both, new_is, c.requires.2, c.requires.3))

pub returns : goal.returns
returns c =
    let args = c.args in
    let bars = bars_of args.prices.now in
    let new = c.least-new.result in
    let new_is : new ≡ min (length bars) before = c.least-new.ensures ∙ rw c.count.ensures in
    let seam = run-seam args.run.now args.prices.now c.put_prices.new.out args.old new c.requires.0 c.requires.1 new_is c.put_prices.ensures in
    c.label_run-2.ensures ∙ rw (c.label_run.ensures, seam.1) (feed-sheet args.t args.count (take args.old (bars_of args.run.now)) bars args.old new args.sheet.now seam.0 new_is c.requires.3)
