-- The loop's invariant: the bytes passed are read, their bars stand at the front of the run, and no byte passed means that none is read
-- yet. Assumes nothing.
use Prim.Native.Nat.{◌+◌, ◌*◌}
use mathlib.Core.Bool.{true}
use mathlib.Core.List.{[], ◌++◌, append-nil}
use mathlib.Core.Path.{◌≡◌, refl, sym, ap, ◌∙◌}
use native.Mathlib.Omega.{arith}
use lib.ListN.{length, take, drop, length-append, length-drop}
use Rattle.measures.specs.Bar.{prices_of}
use Rattle.measures.proofs.Overlay.{overlay-none, overlay-more}
use Rattle.measures.proofs.PriceLaws.{length-prices, prices-append}
use Rattle.input_lines.specs.Lines.{content, kept_line}
use Rattle.input_lines.proofs.LineLaws.{content-partial}
use Rattle.input_lines.proofs.PartLaws.{to_end}
use Rattle.tally_lines.specs.declared.reading.Gathered.{Gathered}
use Rattle.output_lines.specs.Output.{goes_on}
use Rattle.tally_lines.specs.Session.{read_from}
use Rattle.tally_lines.proofs.GuardLaws.{none-goes_on, turn-goes_on}
use Rattle.tally_lines.proofs.ReadLaws.{read_kept, read-turn, gathered-is, begun_kept}
use Rattle.tally_lines.proofs.reading.gather.Goals as goal

pub loop-got-init : goal.loop-got-init
unfolding read_from prices_of
loop-got-init c =
    (omega arith, omega arith, refl, begun_kept c.extend.result (content c.args.line ++ []) c.extend.ensures, refl, refl, sym (overlay-none c.args.prices.now 0), λ e. (omega (arith, c.requires.0), refl))

pub loop-got-preserved : goal.loop-got-preserved
loop-got-preserved c =
    let turn = c.next_line-next in
    let loop = c.loop-got in
    let inv = loop.invariant in
    let chunk = c.args.chunk.now in
    let s = c.args.prices.now in
    let first = content c.extend.result in
    let sure = turn-goes_on loop.got.used (length chunk) loop.got.bars c.args.most _ c.loop-got-test.true in
    let u = loop.got.used in
    let n = turn.result.used in
    let read = read_from [] first (take u chunk) in
    let more = read_from [] read.line (take n (drop u chunk)) in
    let begun : content loop.got.line ≡ read.line = rw inv.3 (content-partial read.line) in
    let did = rw (to_end chunk u, begun) at turn.ensures in
    let still : goes_on read.stop ≡ true = rw (← inv.5) (none-goes_on loop.got.stop _ c.is_none.ensures ∙ sure.2) in
    let on = read-turn first chunk u n read refl still in
    let is = did.value.0 in
    let front = length-prices read.bars in
    let back = length-prices more.bars in
    let bars : turn.result.bars ≡ loop.got.bars + length more.bars = ap (λ (g : Gathered). g.bars) is in
    let joined = overlay-more s 0 (prices_of read.bars) (prices_of more.bars) (4 * loop.got.bars) (omega (arith, front, inv.4)) (omega (arith, back, bars, did.le_used.2, c.requires.1, sure.1)) in
    rw on (
      omega (arith, inv.0, rw length-drop at did.le_used.1),
      omega (arith, did.le_used.2, sure.1),
      turn.auto.prices ∙ inv.2,
      ap (λ (g : Gathered). g.line) is,
      rw (length-append read.bars more.bars) (omega (arith, bars, inv.4)),
      ap (λ (g : Gathered). g.stop) is,
      did.value.1 ∙ rw (inv.6, prices-append read.bars more.bars) joined,
      λ e. absurd (let z : ⊥ = omega (arith, did.le_used.0) in z),
    )

pub returns-clause-value : goal.returns-clause-value
returns-clause-value c =
    let loop = c.loop-got in
    let inv = loop.invariant in
    let line = content c.args.line in
    let chunk = c.args.chunk.now in
    let first : content c.extend.result ≡ kept_line line = rw (c.extend.ensures, content-partial (kept_line (line ++ [])), append-nil) in
    let whole = rw (first, read_kept [] line (take loop.got.used chunk)) at inv in
    (gathered-is loop.got loop.got.used 0 (read_from [] line (take loop.got.used chunk)) whole.3 refl (omega (arith, whole.4)) whole.5, whole.6)
