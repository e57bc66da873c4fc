-- The loop's invariant: the session is what the bytes passed leave. Where the loop ends, those of the rest leave nothing else.
-- Assumes nothing.
use Prim.Native.Nat.{ℕ, suc, ◌≤◌}
use mathlib.Core.Bool.{Bool, false, ◌&&◌}
use mathlib.Core.List.{List, [], ◌++◌, append-nil}
use mathlib.Core.Path.{◌≡◌, sym, ap, ◌∙◌}
use native.Mathlib.Omega.{arith}
use borrow.Author.Rules.{rules}
use lib.Dec.{ltb}
use lib.ListN.{length, take, drop, length-take, length-drop}
use lib.Seq.{take_all, take-add}
use Rattle.recognisers.specs.Number.{longest_line}
use Rattle.input_lines.specs.Lines.{content, kept_line, partial_of}
use Rattle.input_lines.proofs.LineLaws.{content-partial}
use Rattle.input_lines.proofs.PartLaws.{to_end}
use Rattle.output_lines.specs.Output.{goes_on}
use Rattle.tally_lines.specs.declared.session.Session.{Session}
use Rattle.tally_lines.specs.Session.{State, state_of, session_of, state_after}
use Rattle.tally_lines.proofs.GuardLaws.{none-goes_on}
use Rattle.tally_lines.proofs.SessionLaws.{taken-append, state-session, session-stays, rest-left}
use Rattle.tally_lines.proofs.session.absorb.Goals as goal

-- as rest-left has it, for a test that is whether reading goes on, in whichever words
rest-nothing : (s : State) (chunk : List ℕ) (used : ℕ) (test going : Bool) → used ≤ length chunk → (ltb used (length chunk) && test) ≡ false
    → going ≡ goes_on (state_after s (take used chunk)).stop → test ≡ going → state_after s (take used chunk) ≡ state_after s chunk
rest-nothing s chunk used test going within ended is same = rest-left s chunk used test within (same ∙ is) ended

pub loop-used-init : goal.loop-used-init
loop-used-init c =
    let args = c.args in
    let st : Session = record { line = c.extend-line.result; held = args.st.held; tally = args.st.tally; stop = args.st.stop } in
    let full : length st.held.bars ≡ 64 = c.well_formed.0.1.1.1.0.1.1.1.1.0.1.0.1 in
    (omega arith, session-stays st (content args.st.line ++ []) c.extend-line.ensures, full)

pub loop-used-preserved : goal.loop-used-preserved
loop-used-preserved c =
    let turn = c.take_in-used in
    let loop = c.loop-used in
    let inv = loop.invariant in
    let args = c.args in
    let chunk = args.chunk.now in
    let s : State = record { line = content c.extend-line.result; box = args.st.held; tally = args.st.tally; stop = args.st.stop } in
    let u = loop.used in
    let n = turn.result in
    let here : state_of loop.session ≡ state_after s (take u chunk) = rw inv.1 (state-session (state_after s (take u chunk))) in
    let did = rw (to_end chunk u, here) at turn.ensures in
    (omega (arith, inv.0, rw length-drop at did.used.1), rw (take-add u n chunk, taken-append s (take u chunk) (take n (drop u chunk))) did.session, did.places)

pub returns : goal.returns
returns c =
    let loop = c.loop-used in
    let inv = loop.invariant in
    let extended = c.extend-line in
    let args = c.args in
    let chunk = args.chunk.now in
    let s = state_of args.st in
    let all-bytes : length args.st.line.bytes ≡ suc longest_line = c.well_formed.0.1.1.0.1.1.0.1.0.1 in
    let short : length s.line ≤ suc longest_line = rw length-take (omega arith) in
    let took : extended.result ≡ partial_of (kept_line (s.line ++ [])) = extended.ensures in
    let kept : content extended.result ≡ s.line = rw (took, content-partial (kept_line (s.line ++ [])), append-nil) (take_all (suc longest_line) s.line short) in
    let is : loop.session ≡ session_of (state_after s (take loop.used chunk)) = rw kept at inv.1 in
    let stop : loop.session.stop ≡ (state_after s (take loop.used chunk)).stop = ap (λ (st : Session). st.stop) is in
    is ∙ ap session_of (rest-nothing s chunk loop.used _ _ inv.0 c.loop-used-test.false (sym (none-goes_on loop.session.stop _ c.is_none.ensures) ∙ ap goes_on stop) (search rules))
