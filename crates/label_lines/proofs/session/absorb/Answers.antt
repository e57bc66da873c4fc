-- The loop's invariant: the bytes passed are taken in, and the session and the buffer are what they leave. Where the loop ends, no byte
-- of the rest is taken in. Assumes nothing.
use Prim.Native.Nat.{ℕ, suc, ◌+◌, ◌-◌, ◌≤◌, ◌<◌}
use mathlib.Core.Bool.{Bool, true, false, not, ◌&&◌}
use mathlib.Core.List.{List, [], ◌++◌, append-nil}
use mathlib.Core.Path.{◌≡◌, refl, sym, ap, ◌∙◌}
use native.Mathlib.Omega.{arith}
use borrow.Author.Rules.{rules}
use borrow.Author.Tests.{leb-true, le-leb}
use lib.Dec.{leb, ltb}
use lib.ListN.{length, take, drop, length-take, length-drop}
use lib.Seq.{take_all}
use Rattle.measures.proofs.Overlay.{overlay-none, length-overlay}
use Rattle.output_lines.specs.Output.{line_room}
use Rattle.output_lines.proofs.OutputLaws.{written_on}
use Rattle.recognisers.specs.Number.{longest_line}
use Rattle.input_lines.specs.Lines.{content, kept_line, partial_of}
use Rattle.input_lines.proofs.LineLaws.{content-partial}
use Rattle.input_lines.proofs.PartLaws.{to_end}
use Rattle.label_lines.specs.declared.session.Session.{Session}
use Rattle.label_lines.specs.Session.{State, state_of, state_after, prints, used_of}
use Rattle.label_lines.proofs.SessionLaws.{goes, goes_on, rest-stays, used_all, turn-leaves, turn-prints, turn-used, state-session, session-state}
use Rattle.label_lines.proofs.session.absorb.Goals as goal

-- where the loop ends, whatever number its test reads as the room: no byte of the rest is taken in, if that is enough for a line wherever
-- the room left is
stays : (s : State) (chunk : List ℕ) (used read left : ℕ) → goes used (length chunk) read s.stopped ≡ false → (line_room ≤ left → line_room ≤ read)
    → used_of left s (drop used chunk) ≡ 0
stays s chunk used read left ended enough = rest-stays s chunk used left (go (leb line_room left) refl)
  where
    none : (t : Bool) → (t && false) ≡ false
    none true = refl
    none false = refl

    go : (t : Bool) → leb line_room left ≡ t → goes used (length chunk) left s.stopped ≡ false
    go true e = rw e (rw (le-leb line_room read (enough (leb-true line_room left e))) at ended)
    go false e = rw e (none (ltb used (length chunk) && not s.stopped))

pub loop-used-init : goal.loop-used-init
unfolding state_after prints used_of
loop-used-init c =
    let args = c.args in
    let st : Session = record { line = c.extend-line.result; held = args.st.held; stopped = args.st.stopped } in
    (omega arith, omega arith, refl, session-state st _ c.extend-line.ensures, (refl, sym (overlay-none args.out.now 0)), refl)

pub advance-next-requires : goal.advance-next-requires
advance-next-requires c =
    let loop = c.loop-used in
    let inv = loop.invariant in
    let args = c.args in
    let chunk = args.chunk.now in
    let sure = goes_on loop.used (length chunk) _ loop.session.stopped c.loop-used-test.true in
    let rest : length (take (length chunk - loop.used) (drop loop.used chunk)) ≡ length chunk - loop.used = rw (to_end chunk loop.used, length-drop) in
    (sure.1, rw rest (omega (arith, sure.0)), omega (arith, sure.2))

pub overflow_add-used : goal.overflow_add-used
overflow_add-used c =
    let chunk = c.args.chunk.now in
    let rest : length (take (length chunk - c.loop-used.used) (drop c.loop-used.used chunk)) ≡ length chunk - c.loop-used.used = rw (to_end chunk c.loop-used.used, length-drop) in
    let most : c.loop-used.used + c.advance-next.result.used ≤ length chunk = omega (arith, c.loop-used.invariant.0, c.advance-next.ensures.used.1, rest) in
    let fits : length chunk < 9223372036854775808 = omega (arith, c.well_formed.1.0) in
    search rules

pub loop-used-preserved : goal.loop-used-preserved
loop-used-preserved c =
    let loop = c.loop-used in
    let inv = loop.invariant in
    let args = c.args in
    let chunk = args.chunk.now in
    let s : State = record { line = content c.extend-line.result; box = args.st.held; stopped = args.st.stopped } in
    let sure = goes_on loop.used (length chunk) _ loop.session.stopped c.loop-used-test.true in
    let turn = c.advance-next in
    let did = rw (to_end chunk loop.used) at turn.ensures in
    let here : state_of loop.session ≡ state_after s (take loop.used chunk) = rw inv.3 (state-session _) in
    let leaves-on = turn-leaves s (state_of loop.session) chunk loop.used turn.result.used here in
    let prints-on = turn-prints s (state_of loop.session) chunk loop.used turn.result.used here in
    let before = prints s (take loop.used chunk) in
    let more = prints (state_of loop.session) (take turn.result.used (drop loop.used chunk)) in
    let wrote = did.printed in
    let left : length loop.out - loop.written ≡ length args.out.now - length before = omega (arith, inv.2, inv.4.0) in
    let used-on = turn-used s (state_of loop.session) chunk loop.used turn.result.used here (length args.out.now) inv.0 inv.5 (rw left at did.used.2) in
    let room-left : loop.written + length more ≤ length args.out.now = omega (arith, wrote.0, wrote.1.0, sure.2, inv.2) in
    let same = ap length wrote.1.1 ∙ length-overlay loop.out loop.written more (omega (arith, room-left, inv.2)) in
    let joined = written_on args.out.now 0 before loop.out loop.written more _ _ room-left inv.4 wrote.1 in
    (omega (arith, inv.0, rw length-drop at did.used.1), omega (arith, wrote.1.0, room-left), same ∙ inv.2, rw leaves-on did.session, rw prints-on joined, used-on)

pub returns : goal.returns
returns c =
    let loop = c.loop-used in
    let extended = c.extend-line in
    let args = c.args in
    let chunk = args.chunk.now in
    let len = length args.out.now in
    let s = state_of args.st in
    let all-bytes : length args.st.line.bytes ≡ suc longest_line = c.well_formed.0.1.1.0.1.1.0.1.0.1 in
    let short : length s.line ≤ suc longest_line = rw length-take (omega arith) in
    let took : extended.result ≡ partial_of (kept_line (s.line ++ [])) = extended.ensures in
    let kept : content extended.result ≡ s.line = rw (took, content-partial (kept_line (s.line ++ [])), append-nil) (take_all (suc longest_line) s.line short) in
    let inv = rw kept at loop.invariant in
    let here : state_of loop.session ≡ state_after s (take loop.used chunk) = rw inv.3 (state-session _) in
    let none = stays (state_of loop.session) chunk loop.used _ (length loop.out - loop.written) c.loop-used-test.false (λ h. omega arith) in
    let size : loop.written ≡ length (prints s (take loop.used chunk)) = omega (arith, inv.4.0) in
    let all : used_of len s chunk ≡ loop.used = used_all s chunk loop.used len inv.0 inv.5 (rw (inv.2, here, size) at none) in
    record { answer = rw (all, inv.3, size); within = inv.1; buffer = rw all inv.4.1 }
