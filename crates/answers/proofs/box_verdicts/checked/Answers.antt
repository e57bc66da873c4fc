-- The tests are those of the definition, in its order. Assumes nothing.
use mathlib.Core.Path.{◌∙◌, sym}
use borrow.Author.Tests.{eq-eqb, ne_eqb, lt-ltb, le-ltb}
use Rattle.answers.specs.Refusal.{first_true, next_after}
use Rattle.answers.specs.Refusal.{feed_tried, checked_tried}
use Rattle.answers.proofs.box_verdicts.checked.Goals as goal

pub returns-then-not-valid : goal.returns-then-not-valid
unfolding checked_tried feed_tried next_after first_true
returns-then-not-valid c = let args = c.args in simp (sym c.is_valid-valid.ensures ∙ c.if-not-valid.true)

pub returns-then-not-layer : goal.returns-then-not-layer
unfolding checked_tried feed_tried next_after first_true
returns-then-not-layer c = let args = c.args in simp (sym c.is_valid-valid.ensures ∙ c.if-not-valid.false, c.if-not-layer.true)

pub returns-then-prices-ne0 : goal.returns-then-prices-ne0
unfolding checked_tried feed_tried next_after first_true
returns-then-prices-ne0 c = let args = c.args in simp (sym c.is_valid-valid.ensures ∙ c.if-not-valid.false, c.if-not-layer.false, ne_eqb _ _ c.if-prices-ne0.true)

pub returns-then-not-whole : goal.returns-then-not-whole
unfolding checked_tried feed_tried next_after first_true
returns-then-not-whole c = let args = c.args in simp (sym c.is_valid-valid.ensures ∙ c.if-not-valid.false, c.if-not-layer.false, eq-eqb _ _ c.if-prices-ne0.false, c.if-not-whole.true)

pub returns-then-n-bars-gt-MOST_BARS : goal.returns-then-n-bars-gt-MOST_BARS
unfolding checked_tried feed_tried next_after first_true
returns-then-n-bars-gt-MOST_BARS c = let args = c.args in simp (sym c.is_valid-valid.ensures ∙ c.if-not-valid.false, c.if-not-layer.false, eq-eqb _ _ c.if-prices-ne0.false, c.if-not-whole.false, lt-ltb _ _ c.if-n-bars-gt-MOST_BARS.true)

pub returns-then-not-right : goal.returns-then-not-right
unfolding checked_tried feed_tried next_after first_true
returns-then-not-right c = let args = c.args in simp (sym c.is_valid-valid.ensures ∙ c.if-not-valid.false, c.if-not-layer.false, eq-eqb _ _ c.if-prices-ne0.false, c.if-not-whole.false, le-ltb _ _ c.if-n-bars-gt-MOST_BARS.false, c.if-not-right.true)

pub returns-then-sheet-bars : goal.returns-then-sheet-bars
unfolding checked_tried feed_tried next_after first_true
returns-then-sheet-bars c = let args = c.args in simp (sym c.is_valid-valid.ensures ∙ c.if-not-valid.false, c.if-not-layer.false, eq-eqb _ _ c.if-prices-ne0.false, c.if-not-whole.false, le-ltb _ _ c.if-n-bars-gt-MOST_BARS.false, c.if-not-right.false, lt-ltb _ _ c.if-sheet-bars.true)

pub returns : goal.returns
unfolding checked_tried feed_tried next_after first_true
returns c = let args = c.args in simp (sym c.is_valid-valid.ensures ∙ c.if-not-valid.false, c.if-not-layer.false, eq-eqb _ _ c.if-prices-ne0.false, c.if-not-whole.false, le-ltb _ _ c.if-n-bars-gt-MOST_BARS.false, c.if-not-right.false, le-ltb _ _ c.if-sheet-bars.false)
