-- A making and calls to the layer that it gives: where the making is refused no call is made.
use Rattle.std.specs.Prelude.{ℕ, List, Float}
use Rattle.recognisers.specs.Refusal.{leaves}
use Rattle.terms.specs.Layer.{Taken}
use Rattle.term_calls.specs.Numbers.{written_to}
use Rattle.term_calls.specs.TermCalls.{answers_of, sheet_through}

unfoldable pub terms_sheet : Taken → List Float → List ℕ → List ℕ → List ℕ → List ℕ
terms_sheet made prices stamps sizes sheet = leaves made.verdict sheet (sheet_through made.after prices stamps sheet sizes)

unfoldable pub terms_answers : Taken → List Float → List ℕ → List ℕ → List ℕ → List ℕ → List ℕ
terms_answers made prices stamps sizes sheet places = leaves made.verdict places (written_to places (answers_of made.after prices stamps sheet sizes))
