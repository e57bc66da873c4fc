-- What the calls after a making leave. Assumes nothing.
use Rattle.std.specs.Prelude.{Err, Ok}
use Prim.Native.Nat.{ℕ}
use mathlib.Core.Path.{◌≡◌, refl}
use mathlib.Core.List.{List}
use lib.Ieee.{Float}
use Rattle.answers.specs.declared.refusals.Refusal.{Refusal}
use Rattle.terms.specs.Layer.{Taken}
use Rattle.term_calls.specs.Numbers.{written_to}
use Rattle.term_calls.specs.TermCalls.{answers_of, sheet_through}
use Rattle.exports.specs.TermLists.{terms_sheet, terms_answers}

module _ (one : Taken) (ps : List Float) (ss sizes sheet places : List ℕ) where
  pub making-refused : (r : Refusal) → one.verdict ≡ Err r → (sheet ≡ terms_sheet one ps ss sizes sheet) × (places ≡ terms_answers one ps ss sizes sheet places)
  unfolding terms_sheet terms_answers
  making-refused r e = rw e (refl, refl)

  pub making-accepted : one.verdict ≡ Ok tt
      → (sheet_through one.after ps ss sheet sizes ≡ terms_sheet one ps ss sizes sheet) × (written_to places (answers_of one.after ps ss sheet sizes) ≡ terms_answers one ps ss sizes sheet places)
  unfolding terms_sheet terms_answers
  making-accepted e = rw e (refl, refl)
