-- The loop's invariant: none of the codes passed has the bytes. Assumes nothing.
use mathlib.Core.Path.{◌≡◌, sym, ◌∙◌}
use native.Mathlib.Omega.{arith}
use Rattle.rule_types.specs.Number.{labels}
use Rattle.label_texts.specs.LabelText.{texts_of_labels, place_in}
use Rattle.label_texts.proofs.LabelLaws.{place_here, place-on, pointwise-same}
use Rattle.label_texts.proofs.label_text.code_of_bytes.Goals as goal

pub returns-then-eq : goal.returns-then-eq
returns-then-eq c =
    let l = c.loop-code in
    let s = c.args.s.now in
    omega (arith, place_here texts_of_labels s l.code (omega arith) (rw (c.as_bytes.ensures.value, c.label.ensures) at (sym (c.eq.ensures ∙ pointwise-same c.as_bytes.result.now s) ∙ c.if-eq.true)))

pub loop-code-preserved : goal.loop-code-preserved
loop-code-preserved c =
    let l = c.loop-code in
    let s = c.args.s.now in
    omega (arith, place-on texts_of_labels s l.code (omega arith) (rw (c.as_bytes.ensures.value, c.label.ensures) at (sym (c.eq.ensures ∙ pointwise-same c.as_bytes.result.now s) ∙ c.if-eq.false)))

pub returns : goal.returns
unfolding place_in
returns c =
    let l = c.loop-code in
    let e : l.code ≡ labels = omega arith in
    sym (rw e at l.invariant)
