-- One bar more in a turn. Assumes nothing.
use Rattle.std.proofs.Common.{◌≡◌, ◌*◌, List, length, get_or, map, refl, ap, sym, ◌∙◌, arith}
use Rattle.std.proofs.lemmas.List.{length-map, get_or-map, take_all}
use Rattle.measures.specs.Bar.{Bar, no_bar, overlay, prices_of}
use Rattle.measures.proofs.PriceLaws.{put_next, front-bars}
use Rattle.recognisers.proofs.history.prices_of.Goals as goal

pub loop-i-init : goal.loop-i-init
unfolding prices_of
loop-i-init g c = refl

pub loop-i-preserved : goal.loop-i-preserved
loop-i-preserved g c =
    let bars = c.args.bars.now in
    let now = c.loop-i in
    let more = put_next c.args.out.now (map g.B.ToBar.bar bars) now.i (omega (arith, length-map bars g.B.ToBar.bar)) (omega (arith, now.auto.out)) in
    let next : get_or (map g.B.ToBar.bar bars) now.i no_bar ≡ c.to_bar.result = get_or-map g.B.ToBar.bar bars now.i c.index-bars-i.result no_bar (omega arith) ∙ ap g.B.ToBar.bar (sym c.index-bars-i.is) ∙ sym c.to_bar.ensures in
    rw (c.put_bar.ensures, now.invariant, ← next) more

pub returns : goal.returns
returns g c =
    let bars = c.args.bars.now in
    let all : c.loop-i.i ≡ length bars = omega (arith, c.loop-i.auto.i-end) in
    let xs = map g.B.ToBar.bar bars in
    let n = length-map bars g.B.ToBar.bar in
    front-bars c.args.out.now c.loop-i.out xs (4 * length bars) (c.loop-i.invariant ∙ ap (λ (bs : List Bar). overlay c.args.out.now 0 (prices_of bs)) (take_all c.loop-i.i xs (omega (arith, n)))) (omega (arith, n))
