-- The tests are those of the definition, in its order. Assumes nothing.
use mathlib.Core.Path.{◌≡◌, ap, ◌∙◌, sym}
use Rattle.recognisers.specs.Refusal.{first_true}
use Rattle.term_events.specs.Events.{carried_with, nothing_yet}
use Rattle.term_events.specs.Verdicts.{valid_layer, make_verdict}
use Rattle.term_events.proofs.verdicts.make_verdict.Goals as goal

pub returns-then-not-is_valid : goal.returns-then-not-is_valid
unfolding make_verdict first_true
returns-then-not-is_valid c = simp (sym c.is_valid.ensures ∙ c.if-not-is_valid.true)

pub returns-then-not-layer_valid : goal.returns-then-not-layer_valid
unfolding make_verdict first_true
returns-then-not-layer_valid c =
    let none : carried_with c.default-none.result.last c.default-none.result.pending ≡ nothing_yet = rw (c.default-none.ensures.0, c.default-none.ensures.1) in
    simp (sym c.is_valid.ensures ∙ c.if-not-is_valid.false, ap (valid_layer c.args.h c.args.m) (sym none) ∙ sym c.layer_valid.ensures ∙ c.if-not-layer_valid.true)

pub returns : goal.returns
unfolding make_verdict first_true
returns c =
    let none : carried_with c.default-none.result.last c.default-none.result.pending ≡ nothing_yet = rw (c.default-none.ensures.0, c.default-none.ensures.1) in
    simp (sym c.is_valid.ensures ∙ c.if-not-is_valid.false, ap (valid_layer c.args.h c.args.m) (sym none) ∙ sym c.layer_valid.ensures ∙ c.if-not-layer_valid.false)
