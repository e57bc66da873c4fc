-- The number and codes of a plain call's answer. Assumes nothing.
use Rattle.std.specs.Prelude.{Err, Ok}
use Rattle.answers.specs.declared.refusals.Refusal.{Refusal}
use Rattle.answers.specs.Refusal.{Verdict}
use Rattle.answers.specs.Answer.{Answer}
use Prim.Native.Nat.{ℕ}
use mathlib.Core.Path.{◌≡◌, refl}
use mathlib.Core.Bool.{Bool}
use mathlib.Core.List.{List, [], ◌∷◌}
use lib.ListN.{length}
use Rattle.measures.specs.Bar.{Bar}
use Rattle.rule_types.specs.declared.label.Pair.{Pair}
use Rattle.thresholds.specs.declared.Thresholds.{Thresholds}
use Rattle.rule_table.specs.Table.{pair_at}
use Rattle.rule_types.specs.Label.{codes_of}
use Rattle.answers.specs.Refusal.{verdict_number, leaves, plain_verdict}
use Rattle.answers.specs.Answer.{answer_to, refusal_in, codes_in}
use Rattle.recognisers.specs.Call.{plain_answer, plain_number, plain_codes}

-- the answer to a verdict on as many bars as the history has: the refusal, or the pair
pub refused : (k di : ℕ) (t : Thresholds) (whole : Bool) (history : List Bar) (len : ℕ) (r : Refusal) → len ≡ length history → plain_verdict k di t whole len ≡ Err r
    → plain_answer k di t whole history ≡ Err r
unfolding plain_answer
refused k di t whole history len r e denied = rw (← e, denied) refl

pub given : (k di : ℕ) (t : Thresholds) (whole : Bool) (history : List Bar) (len : ℕ) (pair : Pair) → len ≡ length history → plain_verdict k di t whole len ≡ Ok tt
    → pair ≡ pair_at k t (length history) history di → plain_answer k di t whole history ≡ Ok pair
unfolding plain_answer
given k di t whole history len pair e accepted is = rw (← e, accepted, is, e) refl

values-in : (v : Verdict) (pair : Pair)
    → (refusal_in (answer_to v (Ok pair)) ≡ verdict_number v) × (codes_in (answer_to v (Ok pair)) ≡ leaves v [] (codes_of (pair ∷ [])))
values-in (Ok tt) pair = (refl, refl)
values-in (Err r) pair = (refl, refl)

-- what a plain call ensures of its answer
abbrev pub Answers : ℕ → ℕ → Thresholds → Bool → List Bar → Answer → Type 0
Answers k di t whole history r =
    (r ≡ plain_answer k di t whole history) × ((refusal_in r ≡ plain_number k di t whole history) × (codes_in r ≡ plain_codes k di t whole history))

pub plain-values : (k di : ℕ) (t : Thresholds) (whole : Bool) (history : List Bar) (r : Answer) → r ≡ plain_answer k di t whole history → Answers k di t whole history r
unfolding plain_answer
plain-values k di t whole history r e =
    let values = values-in (plain_verdict k di t whole (length history)) (pair_at k t (length history) history di) in
    (e, (rw e values.0, rw e values.1))
