-- Both answers are those of the definition. Assumes nothing.
use mathlib.Core.Path.{◌≡◌, ap, ◌∙◌, sym}
use mathlib.Core.List.{[], ◌∷◌}
use Rattle.recognisers.specs.Threshold.{Thresholds}
use Rattle.box_record.specs.declared.boxes.Outcome.{Outcome}
use Rattle.recognisers.specs.Refusal.{bad_threshold, first_true, verdict_number}
use Rattle.box_record.specs.Box.{made_of}
use Rattle.box_record.proofs.boxes.make.Goals as goal

-- the verdict's number comes with it
numbered-answer : (t : Thresholds) (o : Outcome) → o ≡ made_of t → (o ≡ made_of t) × (verdict_number o.verdict ≡ verdict_number (first_true (bad_threshold t ∷ [])))
unfolding made_of
numbered-answer t o e = (e, ap (λ (x : Outcome). verdict_number x.verdict) e)

pub returns-then-valid : goal.returns-then-valid
unfolding made_of first_true
returns-then-valid c =
    let valid = sym c.is_valid-valid.ensures ∙ c.if-valid.true in
    let all = numbered-answer _ _ (simp (valid, c.fresh.ensures)) in
    record { answer = all.0; number = all.1 }

pub returns-else-valid : goal.returns-else-valid
unfolding made_of first_true
returns-else-valid c =
    let valid = sym c.is_valid-valid.ensures ∙ c.if-valid.false in
    let all = numbered-answer _ _ (simp (valid, c.fresh-else-valid.ensures, c.standard-standard.ensures)) in
    record { answer = all.0; number = all.1 }
