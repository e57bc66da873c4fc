-- Bytes up to the end of a line, which is stepped over, or all of them. Assumes nothing.
use Prim.Native.Nat.{◌-◌, ◌≤◌, ◌<◌}
use mathlib.Core.List.{◌++◌}
use mathlib.Core.Path.{◌≡◌, sym}
use native.Mathlib.Omega.{arith}
use lib.ListN.{length, take}
use lib.Seq.{length-take-le}
use Rattle.measures.proofs.Overlay.{overlay-none}
use Rattle.input_lines.specs.Lines.{content, kept_line}
use Rattle.input_lines.proofs.LineLaws.{content-partial}
use Rattle.label_lines.specs.Session.{state_of}
use Rattle.label_lines.proofs.SessionLaws.{line-used, rest-used, line_taken, rest-taken}
use Rattle.label_lines.proofs.session.advance.Goals as goal

pub slice_bounds-extend-end : goal.slice_bounds-extend-end
slice_bounds-extend-end c = sym (length-take-le _ _ c.piece_end-k.ensures.1)

pub returns-then-k-chunk : goal.returns-then-k-chunk
returns-then-k-chunk c =
    let args = c.args in
    let stepped = c.step-stepped.ensures in
    let chunk = args.chunk.now in
    let inside : c.piece_end-k.result < length chunk = c.if-k-chunk.true in
    let s = state_of args.st.now in
    let k = c.piece_end-k.result in
    let pre = c.requires in
    let used = line-used s chunk k pre.0 c.piece_end-k.ensures.0 inside in
    let taken = line_taken s chunk k pre.0 c.piece_end-k.ensures.0 (length args.out.now - args.at) (omega (arith, pre.2)) inside in
    let line = c.extend-line.ensures in
    let says : content c.extend-line.result ≡ kept_line (content args.st.now.line ++ take k chunk) = rw line (content-partial _) in
    let did = rw says at stepped in
    record { used = (omega arith, omega (arith, inside), taken); session = rw (used.0, c.begin-st.ensures, did.0, did.1); printed = (did.2, rw used.1 did.3) }

pub returns-else-k-chunk : goal.returns-else-k-chunk
returns-else-k-chunk c =
    let args = c.args in
    let chunk = args.chunk.now in
    let all : length chunk ≤ c.piece_end-k.result = c.if-k-chunk.false in
    let some : 1 ≤ c.piece_end-k.result = omega (arith, c.requires.1) in
    let s = state_of args.st.now in
    let k = c.piece_end-k.result in
    let used = rest-used s chunk k c.requires.0 c.piece_end-k.ensures.0 some c.piece_end-k.ensures.1 in
    let taken = rest-taken s chunk k c.requires.0 c.piece_end-k.ensures.0 (length args.out.now - args.at) (omega (arith, c.requires.2)) c.piece_end-k.ensures.1 in
    record { used = (some, c.piece_end-k.ensures.1, taken); session = rw (used.0, c.extend-line.ensures); printed = (omega arith, rw used.1 (omega arith, sym (overlay-none args.out.now args.at))) }
