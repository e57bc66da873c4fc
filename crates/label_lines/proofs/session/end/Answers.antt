-- A line that has begun is stepped over; else nothing is printed. Assumes nothing.
use mathlib.Core.Bool.{true}
use mathlib.Core.Path.{◌≡◌, sym, ◌∙◌}
use native.Mathlib.Omega.{arith}
use borrow.Author.Tests.{leb-true, not-true}
use lib.Dec.{leb}
use lib.ListN.{length}
use Rattle.measures.proofs.Overlay.{overlay-none}
use Rattle.input_lines.proofs.RunLaws.{both}
use Rattle.output_lines.specs.Output.{line_room}
use Rattle.label_lines.specs.Session.{state_of}
use Rattle.label_lines.proofs.SessionLaws.{end-prints, end_quiet}
use Rattle.label_lines.proofs.session.end.Goals as goal

pub step-requires : goal.step-requires
step-requires c =
    let args = c.args in
    let sure = both _ _ (both _ _ c.if-out-st.true).0 in
    omega (arith, leb-true line_room (length args.out.now) sure.0)

pub returns-then-out-st : goal.returns-then-out-st
returns-then-out-st c =
    let args = c.args in
    let all = both _ _ c.if-out-st.true in
    let sure = both _ _ all.0 in
    let some = sym c.is_empty-none.ensures ∙ not-true c.is_empty-none.result all.1 in
    let is = end-prints (state_of args.st) (not-true args.st.stopped sure.1) some in
    let did = c.step.ensures in
    let room : leb line_room (length args.out.now) ≡ true = sure.0 in
    record { printed = rw (room, is) did.3; within = omega (arith, did.2, leb-true line_room (length args.out.now) room) }

pub returns-else-out-st : goal.returns-else-out-st
returns-else-out-st c =
    let args = c.args in
    let quiet = end_quiet (state_of args.st) (length args.out.now) (rw c.is_empty-none.ensures at c.if-out-st.false) in
    record { printed = rw quiet (omega arith, sym (overlay-none args.out.now 0)); within = omega arith }
