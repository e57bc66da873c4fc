-- The newest kept bars at the front of the run, the rows, and then the places. Assumes nothing.
use Prim.Native.Nat.{◌-◌}
use mathlib.Core.Path.{◌≡◌, refl, sym, ◌∙◌}
use native.Mathlib.Omega.{arith}
use borrow.Author.Rules.{rules}
use lib.ListN.{length, drop, length-drop, length-map}
use Rattle.recognisers.specs.Number.{places}
use Rattle.measures.specs.Bar.{bars_of, prices_of}
use Rattle.bar_box.specs.Box.{bars_in}
use Rattle.measures.proofs.Overlay.{overlay-none}
use Rattle.measures.proofs.PriceLaws.{put_next}
use Rattle.bar_box.proofs.OrdinalLaws.{bar-at}
use Rattle.bar_box.proofs.SeamLaws.{run-rows}
use Rattle.bar_box.proofs.feeds.take_in.Goals as goal

pub loop-i-init : goal.loop-i-init
unfolding prices_of
loop-i-init c = (search rules, refl, sym (overlay-none _ 0))

pub loop-i-preserved : goal.loop-i-preserved
loop-i-preserved c =
    let bars = c.args.b.now.bars in
    let from = c.least-kept.result - c.least-old.result in
    let i = c.loop-i.i in
    let inv = c.loop-i.invariant in
    let full : length bars ≡ places = search rules in
    let held = c.least-kept.ensures in
    let old = c.least-old.ensures in (
      search rules,
      c.put_bar.auto.out ∙ inv.1,
      c.put_bar.ensures ∙ rw (inv.2, ← bar-at bars from i) (put_next _ (drop from (bars_in bars)) i (rw (length-drop, length-map) (omega arith)) (omega arith)),
    )

pub returns-clause-sheet : goal.returns-clause-sheet
returns-clause-sheet c =
    let b = c.args.b.now in
    let full : length b.bars ≡ places = search rules in
    let filled : c.loop-i.i ≡ c.least-old.result = omega arith in
    c.label.ensures ∙ rw (run-rows _ c.loop-i.run b full c.least-kept.result c.least-old.result (bars_of c.args.prices.now) c.least-kept.ensures c.least-old.ensures (rw filled at c.loop-i.invariant.2))
