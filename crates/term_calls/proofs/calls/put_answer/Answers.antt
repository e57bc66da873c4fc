-- One element more, where there is a place for it. Assumes nothing.
use Prim.Native.Nat.{ℕ, ◌-◌}
use mathlib.Core.Path.{ap, sym, ◌∙◌}
use mathlib.Core.List.{List, [], ◌∷◌}
use native.Mathlib.Omega.{arith}
use lib.ListN.{length, set}
use lib.Seq.{take_all}
use Rattle.measures.proofs.Overlay.{overlay-none, overlay-next}
use Rattle.term_calls.specs.TermCalls.{answer_in}
use Rattle.term_calls.proofs.calls.put_answer.Goals as goal

pub returns-then-i-answers : goal.returns-then-i-answers
returns-then-i-answers c =
    let args = c.args in
    let within = c.if-i-answers.true in
    let x = answer_in args.answer in
    let one = take_all (length args.answers.now - args.i) (x ∷ []) (omega arith) in
    rw (c.answer_number.ensures, one) (ap (λ (xs : List ℕ). set xs args.i x) (sym (overlay-none args.answers.now args.i)) ∙ overlay-next args.answers.now args.i [] x args.i (omega arith) within)
