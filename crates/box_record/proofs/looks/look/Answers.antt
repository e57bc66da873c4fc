-- A refusal is the answer alone; otherwise the pair is that of the kept bars, and the ordinal is told by N. Assumes nothing.
use Rattle.std.specs.Prelude.{Err, Ok}
use Rattle.answers.specs.Refusal.{Verdict}
use Rattle.answers.specs.Answer.{LookAnswer}
use Rattle.std.proofs.lemmas.Result.{err_from_is_err_and}
use Prim.Native.Nat.{ℕ}
use mathlib.Core.List.{[], ◌∷◌}
use mathlib.Core.Path.{◌≡◌, sym}
use Rattle.measures.specs.Window.{up_to}
use Rattle.recognisers.specs.Label.{Pair}
use Rattle.recognisers.specs.Table.{pair_at, codes_of}
use Rattle.recognisers.specs.Refusal.{verdict_number, leaves, answer_to, refusal_in, codes_in, answer_in, ordinal_in, look_verdict, with_ordinal}
use Rattle.box_record.specs.declared.boxes.BarBox.{BarBox}
use Rattle.box_record.specs.Box.{kept, look_of, look_answer_of}
use Rattle.box_record.proofs.looks.look.Goals as goal

-- number and values come with it
module _ (b : BarBox) (k di : ℕ) where
  abbrev verdict : Verdict
  verdict = look_verdict k di b.thresholds b.count

  abbrev pair : Pair
  pair = pair_at k b.thresholds b.count (kept b) di

  values-in : (r : LookAnswer) (v : Verdict) → r ≡ with_ordinal (answer_to v (Ok pair)) (up_to b.count di)
      → (refusal_in (answer_in r) ≡ verdict_number v) × ((codes_in (answer_in r) ≡ leaves v [] (codes_of (pair ∷ []))) × (ordinal_in r ≡ leaves v 0 (up_to b.count di)))
  values-in r (Ok tt) e = (rw e, (rw e, rw e))
  values-in r (Err why) e = (rw e, (rw e, rw e))

  values : (r : LookAnswer) → r ≡ look_answer_of b k di
      → (refusal_in (answer_in r) ≡ verdict_number verdict) × ((codes_in (answer_in r) ≡ leaves verdict [] (codes_of (pair ∷ []))) × (ordinal_in r ≡ leaves verdict 0 (up_to b.count di)))
  unfolding look_answer_of look_of
  values r = values-in r verdict

pub returns-in_err-look_verdict : goal.returns-in_err-look_verdict
unfolding look_answer_of look_of
returns-in_err-look_verdict c =
    let args = c.args in
    let p = err_from_is_err_and c.from_residual.result c.from_residual.ensures.1 in
    let e : c.from_residual.result ≡ look_answer_of args.b args.k args.di = rw (p.1, p.2) (simp (sym c.in_err-look_verdict.ensures)) in
    let told = values args.b args.k args.di _ e in
    record { answer = e; number = told.0; values = told.1 }

pub returns : goal.returns
unfolding look_answer_of look_of
returns c =
    let args = c.args in
    let e : Ok (record { pair = c.pair_back.result; ordinal = c.judged_ordinal.result }) ≡ look_answer_of args.b args.k args.di = simp (sym c.in_ok-look_verdict.ensures, c.pair_back.ensures, c.judged_ordinal.ensures) in
    let told = values args.b args.k args.di _ e in
    record { answer = e; number = told.0; values = told.1 }
