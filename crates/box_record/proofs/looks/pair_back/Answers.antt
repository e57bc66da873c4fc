-- The loop's invariant: the front of the run has the prices of the bars passed, at last those of the kept bars. Assumes nothing.
use Prim.Native.Nat.{◌*◌}
use mathlib.Core.Path.{◌≡◌, refl, sym, ◌∙◌}
use native.Mathlib.Omega.{arith}
use borrow.Author.Rules.{rules}
use lib.ListN.{length, take, length-take, length-map, get_or-map}
use lib.Seq.{length-take-le}
use Rattle.recognisers.specs.Number.{places}
use Rattle.box_record.specs.declared.boxes.KeptBar.{KeptBar}
use Rattle.measures.specs.Bar.{prices_of}
use Rattle.box_record.specs.Box.{bars_in}
use Rattle.measures.proofs.Overlay.{overlay-none}
use Rattle.measures.proofs.PriceLaws.{put_next, front-bars}
use Rattle.box_record.proofs.RecordLaws.{no_kept, map-take, take_same}
use Rattle.box_record.proofs.looks.pair_back.Goals as goal

pub loop-i-init : goal.loop-i-init
unfolding prices_of
loop-i-init c = (search rules, refl, sym (overlay-none _ 0))

pub loop-i-preserved : goal.loop-i-preserved
loop-i-preserved c =
    let bars = c.args.bars in
    let i = c.loop-i.i in
    let inv = c.loop-i.invariant in
    let all : length bars ≡ places = c.well_formed.1.1.0.1.0.1 in
    let value = get_or-map (λ (r : KeptBar). r.bar) bars i no_kept in (
      search rules,
      c.put_bar.auto.out ∙ inv.1,
      c.put_bar.ensures ∙ rw (inv.2, ← value) (put_next _ (bars_in bars) i (rw length-map (omega (arith, c.least-kept.ensures))) (omega (arith, c.least-kept.ensures))),
    )

pub slice_bounds-pair_at-end : goal.slice_bounds-pair_at-end
slice_bounds-pair_at-end c = simp length-take (omega arith)

pub returns : goal.returns
returns c =
    let bars = c.args.bars in
    let n = c.least-kept.result in
    let all : length bars ≡ places = c.well_formed.1.1.0.1.0.1 in
    let size : length (bars_in bars) ≡ places = length-map bars _ ∙ all in
    let filled : c.loop-i.i ≡ n = omega (arith, c.loop-i-test.false, c.loop-i.invariant.0) in
    let few : length (take n (bars_in bars)) ≡ n = length-take-le n (bars_in bars) (omega (arith, c.least-kept.ensures)) in
    let same : take n (bars_in bars) ≡ take c.args.count (bars_in bars) = take_same (bars_in bars) n c.args.count (omega (arith, c.least-kept.ensures)) in
    c.pair_at.ensures ∙ rw (front-bars _ _ (take n (bars_in bars)) (4 * n) (rw filled at c.loop-i.invariant.2) (rw few), same, ← map-take (λ (r : KeptBar). r.bar) c.args.count bars)
