-- The tests are those of the definition, in its order. Assumes nothing.
use mathlib.Core.Path.{◌∙◌, sym}
use borrow.Author.Tests.{le-leb, lt-leb, eq-eqb, ne_eqb, lt-ltb, le-ltb}
use Rattle.answers.specs.Refusal.{plain_verdict, first_true}
use Rattle.answers.proofs.verdicts.plain_verdict.Goals as goal

pub returns-then-k-ge-RECOGNISERS : goal.returns-then-k-ge-RECOGNISERS
unfolding plain_verdict first_true
returns-then-k-ge-RECOGNISERS c = simp (le-leb _ _ c.if-k-ge-RECOGNISERS.true)

pub returns-then-di-eq0 : goal.returns-then-di-eq0
unfolding plain_verdict first_true
returns-then-di-eq0 c = simp (lt-leb _ _ c.if-k-ge-RECOGNISERS.false, eq-eqb _ _ c.if-di-eq0.true)

pub returns-then-not-valid : goal.returns-then-not-valid
unfolding plain_verdict first_true
returns-then-not-valid c =
    let valid = sym c.is_valid-valid.ensures ∙ c.if-not-valid.true in
    simp (lt-leb _ _ c.if-k-ge-RECOGNISERS.false, ne_eqb _ _ c.if-di-eq0.false, valid)

pub returns-then-not-whole : goal.returns-then-not-whole
unfolding plain_verdict first_true
returns-then-not-whole c =
    let valid = sym c.is_valid-valid.ensures ∙ c.if-not-valid.false in
    let whole = c.if-not-whole.true in
    simp (lt-leb _ _ c.if-k-ge-RECOGNISERS.false, ne_eqb _ _ c.if-di-eq0.false, valid, whole)

pub returns-then-count-gt-MOST_BARS : goal.returns-then-count-gt-MOST_BARS
unfolding plain_verdict first_true
returns-then-count-gt-MOST_BARS c =
    let valid = sym c.is_valid-valid.ensures ∙ c.if-not-valid.false in
    let whole = c.if-not-whole.false in
    simp (lt-leb _ _ c.if-k-ge-RECOGNISERS.false, ne_eqb _ _ c.if-di-eq0.false, valid, whole, lt-ltb _ _ c.if-count-gt-MOST_BARS.true)

pub returns : goal.returns
unfolding plain_verdict first_true
returns c =
    let valid = sym c.is_valid-valid.ensures ∙ c.if-not-valid.false in
    let whole = c.if-not-whole.false in
    simp (lt-leb _ _ c.if-k-ge-RECOGNISERS.false, ne_eqb _ _ c.if-di-eq0.false, valid, whole, le-ltb _ _ c.if-count-gt-MOST_BARS.false)
