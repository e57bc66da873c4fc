-- The loop's invariant: the sheet and the answers as they stand, and then what the calls that are left make of them. Assumes nothing.
use mathlib.Core.Path.{sym, ◌∙◌}
use mathlib.Core.List.{List, []}
use Prim.Native.Nat.{ℕ, ◌+◌, ◌-◌, ◌*◌}
use borrow.Rule.Slice.PartMut.{put_mid}
use Rattle.recognisers.specs.Number.{row_bytes}
use native.Mathlib.Omega.{arith}
use lib.ListN.{length, drop_of_length-le, take-append-drop}
use lib.Seq.{take_all}
use Rattle.measures.proofs.Overlay.{overlay-none}
use Rattle.term_calls.specs.TermCalls.{answers_of, sheet_through}
use Rattle.term_calls.proofs.ListLaws.{put_rest, put_size, overlay-then}
use Rattle.term_calls.proofs.CallLaws.{lent-is, rows_at, call_next}
use Rattle.term_calls.proofs.calls.make_calls.Goals as goal

pub put_answer-requires : goal.put_answer-requires
put_answer-requires c =
    let at = c.loop-i in
    let args = c.args in
    let out = rw (lent-is _ args.prices.now args.stamps.now at.sheet at.p at.s at.at) at c.make_call-answer.ensures in
    (rows_at at.l args.prices.now args.stamps.now at.sheet args.sizes.now at.p at.s at.at at.i c.loop-i-test.true at.invariant.rows_in _ out.0).0

pub overflow_mul-at : goal.overflow_mul-at
overflow_mul-at c =
    let at = c.loop-i in
    let args = c.args in
    let out = rw (lent-is _ args.prices.now args.stamps.now at.sheet at.p at.s at.at) at c.make_call-answer.ensures in
    let fit = rows_at at.l args.prices.now args.stamps.now at.sheet args.sizes.now at.p at.s at.at at.i c.loop-i-test.true at.invariant.rows_in _ out.0 in
    omega (arith, fit.0, c.unwrap_or.ensures)

pub overflow_add-at : goal.overflow_add-at
overflow_add-at c =
    let at = c.loop-i in
    let args = c.args in
    let out = rw (lent-is _ args.prices.now args.stamps.now at.sheet at.p at.s at.at) at c.make_call-answer.ensures in
    let fit = rows_at at.l args.prices.now args.stamps.now at.sheet args.sizes.now at.p at.s at.at at.i c.loop-i-test.true at.invariant.rows_in _ out.0 in
    omega (arith, fit.1, c.unwrap_or.ensures, at.invariant.same_sheet, c.well_formed.1.1.1.1.0)

pub loop-i-preserved : goal.loop-i-preserved
loop-i-preserved c =
    let at = c.loop-i in
    let args = c.args in
    let inv = at.invariant in
    let out = rw (lent-is _ args.prices.now args.stamps.now at.sheet at.p at.s at.at) at c.make_call-answer.ensures in
    let fit = rows_at at.l args.prices.now args.stamps.now at.sheet args.sizes.now at.p at.s at.at at.i c.loop-i-test.true inv.rows_in _ out.0 in
    let size = put_size at.sheet at.at c.make_call-answer.new.sheet inv.rows_in c.make_call-answer.auto.sheet in
    let next = call_next at.l args.prices.now args.stamps.now at.sheet args.sizes.now at.p at.s at.at at.i c.loop-i-test.true inv.rows_in
    c.make_call-answer.result c.make_call-answer.new.l (put_mid at.at (length at.sheet - at.at) at.sheet c.make_call-answer.new.sheet) c.min-p.result c.min-s.result (at.at + row_bytes * c.unwrap_or.result)
    out.0 out.1 (put_rest at.sheet at.at c.make_call-answer.new.sheet ∙ rw out.2) c.min-p.ensures c.min-s.ensures (rw c.unwrap_or.ensures) in
    record {
      prices_in = omega arith;
      stamps_in = omega arith;
      rows_in = rw size (omega (arith, fit.1, c.unwrap_or.ensures));
      same_sheet = size ∙ inv.same_sheet;
      same_answers = c.put_answer.auto.answers ∙ inv.same_answers;
      sheet = inv.sheet ∙ next.0;
      answers = inv.answers ∙ overlay-then at.answers _ at.i _ _ _ c.put_answer.ensures c.put_answer.auto.answers next.1;
    }

pub returns : goal.returns
unfolding sheet_through answers_of
returns c =
    let at = c.loop-i in
    let inv = at.invariant in
    let none = drop_of_length-le c.args.sizes.now {i = at.i} c.loop-i-test.false in
    let empty : List ℕ = [] in
    let nothing = take_all (length at.answers - at.i) empty (omega arith) in
    let sheet-is = rw none at inv.sheet in
    let answers-are = rw none at inv.answers in
    (sym (sheet-is ∙ take-append-drop at.at at.sheet), sym (answers-are ∙ rw nothing (overlay-none at.answers at.i)))
