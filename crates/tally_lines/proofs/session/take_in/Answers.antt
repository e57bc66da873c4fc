-- The bars that were gathered are fed at once. Assumes nothing.
use Prim.Native.Nat.{◌+◌, ◌*◌}
use mathlib.Core.List.{[]}
use mathlib.Core.Path.{◌≡◌, sym, ap, ◌∙◌}
use native.Mathlib.Omega.{arith}
use lib.ListN.{length, take}
use lib.Seq.{length-take-le}
use Rattle.measures.proofs.PriceLaws.{front-bars}
use Rattle.input_lines.specs.Lines.{content}
use Rattle.input_lines.proofs.LineLaws.{content-partial}
use Rattle.tally_lines.specs.declared.reading.Gathered.{Gathered}
use Rattle.tally_lines.specs.Session.{read_from, state_of, session_of}
use Rattle.tally_lines.proofs.SessionLaws.{taken-by}
use Rattle.tally_lines.proofs.session.take_in.Goals as goal

pub feed_all-fed-requires : goal.feed_all-fed-requires
feed_all-fed-requires c =
    let args = c.args in
    let made = c.batch-most.ensures in
    let did = c.gather-got.ensures in
    let read = read_from [] (content args.st.now.line) (take c.gather-got.result.used args.chunk.now) in
    let n : c.gather-got.result.bars ≡ 0 + length read.bars = ap (λ (g : Gathered). g.bars) did.value.0 in
    let bars = front-bars _ _ read.bars (4 * c.gather-got.result.bars) did.value.1 (omega (arith, n)) in
    let size = length-take-le (4 * c.gather-got.result.bars) c.gather-got.new.prices (omega (arith, c.gather-got.auto.prices, did.le_used.2, made.1)) in
    rw (bars, size) (c.requires.2, omega (arith, n), omega (arith, did.le_used.2, made.1), λ some. omega (arith, n, did.le_used.2, made.2 (omega (arith, n, did.le_used.2))))

pub settle-requires : goal.settle-requires
settle-requires c =
    let got = c.gather-got in
    let is = ap (λ (g : Gathered). g.line) got.ensures.value.0 in
    rw (is, content-partial _)

pub returns-clause-session : goal.returns-clause-session
returns-clause-session c =
    let args = c.args in
    let did = c.gather-got.ensures in
    let bytes = take c.gather-got.result.used args.chunk.now in
    let read = read_from [] (content args.st.now.line) bytes in
    let n : c.gather-got.result.bars ≡ 0 + length read.bars = ap (λ (g : Gathered). g.bars) did.value.0 in
    let bars = front-bars _ _ read.bars (4 * c.gather-got.result.bars) did.value.1 (omega (arith, n)) in
    let line : content c.gather-got.result.line ≡ read.line = rw (ap (λ (g : Gathered). g.line) did.value.0) (content-partial read.line) in
    let stop : c.gather-got.result.stop ≡ read.stop = ap (λ (g : Gathered). g.stop) did.value.0 in
    let fed = sym (rw bars at c.feed_all-fed.ensures.fed) in
    c.settle.ensures ∙ ap session_of (taken-by (state_of args.st.now) bytes _ _ _ c.requires.0 fed line stop)
