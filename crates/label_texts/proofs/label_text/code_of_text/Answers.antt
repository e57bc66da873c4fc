-- The bytes that count, if there are as many. Assumes nothing.
use Prim.Native.Nat.{◌≤◌, ◌<◌}
use mathlib.Core.Path.{◌≡◌, ap}
use mathlib.Core.Logic.{inl, inr}
use native.Mathlib.Omega.{arith}
use borrow.Author.Tests.{le-leb, lt-leb}
use lib.ListN.{length, take}
use Rattle.std.proofs.lemmas.Grind.{common_steps}
use Rattle.label_texts.specs.LabelText.{most_bytes, code_of_bytes, code_of_text}
use Rattle.label_texts.proofs.label_text.code_of_text.Goals as goal

pub returns-in_default : goal.returns-in_default
unfolding code_of_text
returns-in_default c =
    let all : length c.args.t.bytes ≡ most_bytes = c.well_formed.0.1.1.0.1.0.1 in
    let more : most_bytes < c.args.t.len = elim c.in_default.ensures.lookup.0 [ inl h ↦ absurd (omega arith) | inr h ↦ omega arith ] in
    rw (lt-leb _ _ more)

pub returns : goal.returns
unfolding code_of_text
returns c =
    let all : length c.args.t.bytes ≡ most_bytes = c.well_formed.0.1.1.0.1.0.1 in
    let read = c.in-Some.ensures.lookup.0 in
    let few : c.args.t.len ≤ most_bytes = omega arith in
    let bytes : c.in-Some.s.now ≡ take c.args.t.len c.args.t.bytes = grind (arith, common_steps) in
    rw (le-leb _ _ few, c.code_of_bytes.ensures) (ap code_of_bytes bytes)
