-- The bytes of a line, with or without its end. Assumes nothing.
use Rattle.std.specs.Prelude.{None}
use Prim.Native.Nat.{◌*◌, ◌<◌}
use mathlib.Core.List.{[], ◌++◌}
use mathlib.Core.Path.{◌≡◌, refl, sym}
use native.Mathlib.Omega.{arith}
use lib.ListN.{length, take}
use Rattle.measures.specs.Bar.{prices_of}
use Rattle.measures.proofs.Overlay.{overlay-none}
use Rattle.text.specs.LineText.{line_of}
use Rattle.input_lines.specs.Lines.{content, kept_line}
use Rattle.input_lines.proofs.LineLaws.{content-partial}
use Rattle.tally_lines.specs.Session.{Read, read_from, line_bars, line_stop}
use Rattle.tally_lines.proofs.ReadLaws.{read-line, read-rest, gathered-is}
use Rattle.tally_lines.proofs.reading.next_line.Goals as goal

pub returns-then-k-chunk-clause-value : goal.returns-then-k-chunk-clause-value
returns-then-k-chunk-clause-value c =
    let args = c.args in
    let chunk = args.chunk.now in
    let k = c.piece_end-k.result in
    let inside : k < length chunk = c.if-k-chunk.true in
    let says : content c.extend-longer.result ≡ kept_line (content args.line ++ take k chunk) = rw c.extend-longer.ensures (content-partial _) in
    let did = rw says at c.end_line.ensures in
    let l = line_of (kept_line (content args.line ++ take k chunk)) in
    let r : Read = record { bars = line_bars l; line = []; stop = line_stop l } in
    let read : read_from [] (content args.line) (take c.end_line.result.used chunk) ≡ r = rw did.1 (read-line (content args.line) chunk k c.piece_end-k.ensures.0 inside) in
    (rw read (gathered-is c.end_line.result c.end_line.result.used args.n r did.0 refl did.2 did.3), rw read did.4)

pub returns-else-k-chunk-clause-value : goal.returns-else-k-chunk-clause-value
unfolding prices_of
returns-else-k-chunk-clause-value c =
    let args = c.args in
    let chunk = args.chunk.now in
    let k = c.piece_end-k.result in
    let r : Read = record { bars = []; line = kept_line (content args.line ++ take k chunk); stop = None } in
    let read = read-rest (content args.line) chunk k c.piece_end-k.ensures.0 in
    (rw read (gathered-is (record { line = c.extend-longer.result; used = k; bars = args.n; stop = None }) k args.n r c.extend-longer.ensures refl (omega arith) refl), rw read (sym (overlay-none args.prices.now (4 * args.n))))
