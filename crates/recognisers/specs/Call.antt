-- The plain call, which tries 1 to 5.
use Rattle.std.specs.Prelude.{Ok}
use Rattle.answers.specs.Answer.{Answer}
use Rattle.std.specs.Prelude.{ℕ, ◌%◌, Bool, List, [], ◌∷◌, eqb, length, Float}
use Rattle.measures.specs.Bar.{Bar, bars_of}
use Rattle.thresholds.specs.declared.Thresholds.{Thresholds}
use Rattle.answers.specs.Refusal.{verdict_number, leaves, plain_verdict}
use Rattle.answers.specs.Answer.{answer_to}
use Rattle.rule_types.specs.Label.{codes_of}
use Rattle.rule_table.specs.Table.{pair_at}

-- the answer of a plain call: recogniser, offset, thresholds, history
unfoldable pub plain_answer : ℕ → ℕ → Thresholds → Bool → List Bar → Answer
plain_answer k di t whole history =
    answer_to (plain_verdict k di t whole (length history)) (Ok (pair_at k t (length history) history di))

-- its number, and its codes: none of a refusal
abbrev pub plain_number : ℕ → ℕ → Thresholds → Bool → List Bar → ℕ
plain_number k di t whole history = verdict_number (plain_verdict k di t whole (length history))

abbrev pub plain_codes : ℕ → ℕ → Thresholds → Bool → List Bar → List ℕ
plain_codes k di t whole history = leaves (plain_verdict k di t whole (length history)) [] (codes_of (pair_at k t (length history) history di ∷ []))

-- over lent prices, four to a bar
unfoldable pub recognise_of : ℕ → ℕ → Thresholds → List Float → Answer
recognise_of k di t prices = plain_answer k di t (eqb (length prices % 4) 0) (bars_of prices)
