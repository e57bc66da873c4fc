-- The loop's invariant: the newest lent bars passed stand behind those that stay. Assumes nothing.
use Prim.Native.Nat.{ℕ, ◌+◌, ◌-◌, ◌<◌}
use mathlib.Core.Path.{◌≡◌, refl, sym, ◌∙◌}
use native.Mathlib.Omega.{arith}
use lib.ListN.{length, drop, length-set, length-drop}
use Rattle.recognisers.specs.Number.{places}
use Rattle.measures.specs.Bar.{bars_of}
use Rattle.bar_box.specs.Box.{numbered}
use Rattle.measures.proofs.Overlay.{overlay-copy}
use Rattle.box_record.proofs.RecordLaws.{no_kept}
use Rattle.bar_box.proofs.OrdinalLaws.{length-numbered, numbered-from}
use Rattle.bar_box.proofs.SeamLaws.{laid-places}
use Rattle.bar_box.proofs.feeds.keep_newest.Goals as goal

pub loop-k-preserved : goal.loop-k-preserved
loop-k-preserved c =
    let n = c.args.count in
    let bars = bars_of c.args.prices.now in
    let stay : ℕ = c.least-stay.result in
    let was = c.move_to_front.new.bars in
    let all : length was ≡ places = c.move_to_front.auto.bars ∙ c.requires.0 in
    let first = c.count-n.result - c.least-new.result in
    let k = c.loop-k.k in
    let inv = c.loop-k.invariant in
    let within : first + k < length bars = omega (arith, c.count-n.ensures, c.least-new.ensures) in
    let value = c.numbered_bar.ensures ∙ sym (numbered-from n bars first k within) in
    let next = overlay-copy was stay (drop first (numbered n bars)) k (stay + k) no_kept refl (rw (length-drop, length-numbered n bars) (omega arith)) (omega (arith, c.least-stay.ensures, c.least-new.ensures)) in
    (simp length-set inv.0, rw (inv.1, value) next)

pub returns : goal.returns
returns c =
    let n = c.args.count in
    let bars = bars_of c.args.prices.now in
    let rs = numbered n bars in
    let size : length rs ≡ c.count-n.result = length-numbered n bars ∙ sym c.count-n.ensures in
    let kept : ℕ = c.least-kept.result in
    let new : ℕ = c.least-new.result in
    let stay : ℕ = c.least-stay.result in
    let all : c.loop-k.k ≡ new = omega arith in
    let moved : kept - (kept - stay) ≡ stay = omega (arith, c.least-stay.ensures) in
    let laid = laid-places c.args.bars.now rs n kept new stay c.requires.0 c.least-kept.ensures (c.least-new.ensures ∙ rw size) c.least-stay.ensures in
    rw all at c.loop-k.invariant.1 ∙ rw (c.move_to_front.ensures, moved, ← size) laid
