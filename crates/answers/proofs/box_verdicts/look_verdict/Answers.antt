-- The tests are those of the definition, in its order. Assumes nothing.
use mathlib.Core.Path.{◌∙◌, sym}
use borrow.Author.Tests.{le-leb, lt-leb, eq-eqb, ne_eqb, lt-ltb, le-ltb}
use Rattle.answers.specs.Refusal.{first_true}
use Rattle.answers.specs.Refusal.{look_verdict}
use Rattle.answers.proofs.box_verdicts.look_verdict.Goals as goal

pub returns-then-k-ge-RECOGNISERS : goal.returns-then-k-ge-RECOGNISERS
unfolding look_verdict first_true
returns-then-k-ge-RECOGNISERS c = simp (le-leb _ _ c.if-k-ge-RECOGNISERS.true)

pub returns-then-di-eq0 : goal.returns-then-di-eq0
unfolding look_verdict first_true
returns-then-di-eq0 c = simp (lt-leb _ _ c.if-k-ge-RECOGNISERS.false, eq-eqb _ _ c.if-di-eq0.true)

pub returns-then-not-valid : goal.returns-then-not-valid
unfolding look_verdict first_true
returns-then-not-valid c =
    let valid = sym c.is_valid-valid.ensures ∙ c.if-not-valid.true in
    simp (lt-leb _ _ c.if-k-ge-RECOGNISERS.false, ne_eqb _ _ c.if-di-eq0.false, valid)

pub returns-then-n-gt-MOST_BARS : goal.returns-then-n-gt-MOST_BARS
unfolding look_verdict first_true
returns-then-n-gt-MOST_BARS c =
    let valid = sym c.is_valid-valid.ensures ∙ c.if-not-valid.false in
    simp (lt-leb _ _ c.if-k-ge-RECOGNISERS.false, ne_eqb _ _ c.if-di-eq0.false, valid, lt-ltb _ _ c.if-n-gt-MOST_BARS.true)

pub returns-then-di-gt-FARTHEST_LOOK : goal.returns-then-di-gt-FARTHEST_LOOK
unfolding look_verdict first_true
returns-then-di-gt-FARTHEST_LOOK c =
    let valid = sym c.is_valid-valid.ensures ∙ c.if-not-valid.false in
    simp (lt-leb _ _ c.if-k-ge-RECOGNISERS.false, ne_eqb _ _ c.if-di-eq0.false, valid, le-ltb _ _ c.if-n-gt-MOST_BARS.false, lt-ltb _ _ c.if-di-gt-FARTHEST_LOOK.true)

pub returns : goal.returns
unfolding look_verdict first_true
returns c =
    let valid = sym c.is_valid-valid.ensures ∙ c.if-not-valid.false in
    simp (lt-leb _ _ c.if-k-ge-RECOGNISERS.false, ne_eqb _ _ c.if-di-eq0.false, valid, le-ltb _ _ c.if-n-gt-MOST_BARS.false, le-ltb _ _ c.if-di-gt-FARTHEST_LOOK.false)
