-- One call of a list of calls, and those that are left after it. Assumes nothing.
use Rattle.std.specs.Prelude.{Result, Ok, Err}
use Rattle.std.specs.Result.{result_unwrap_or}
use Prim.Native.Nat.{ℕ, zero, suc, ◌+◌, ◌-◌, ◌*◌, ◌≤◌, ◌<◌, min}
use mathlib.Core.Path.{◌≡◌, refl}
use mathlib.Core.List.{List, ◌∷◌, ◌++◌, append_assoc}
use native.Mathlib.Omega.{arith}
use native.Mathlib.Numerals.{add-one}
use lib.ListN.{length, get_or, take, drop, length-drop}
use lib.Seq.{drop-cons, take_all}
use lib.Ieee.{Float}
use Rattle.answers.specs.Refusal.{Verdict}
use Rattle.answers.specs.declared.refusals.Refusal.{Refusal}
use Rattle.recognisers.specs.Number.{row_bytes, most_bars}
use Rattle.bar_box.proofs.BoxLaws.{take_same}
use Rattle.terms.specs.declared.layers.Layer.{Layer}
use Rattle.terms.specs.Layer.{Taken, rows_by, rows_answer}
use Rattle.terms.specs.History.{Call, Run, Shut, lent_sheet, called, sheet_after}
use Rattle.terms.proofs.CallSteps.{rows_fit, rows-told}
use Rattle.term_calls.specs.TermCalls.{call_of, answer_by, answer_in, answers_of, sheet_through}
use Rattle.term_calls.proofs.ListLaws.{left_is, front-more, behind_more}

-- a call of no bar is a close, any other a run
pub call-close : (n : ℕ) (ps : List Float) (ss sheet : List ℕ) → n ≡ 0 → call_of n ps ss sheet ≡ Shut sheet
call-close n ps ss sheet e = rw e

call-run : (n : ℕ) (ps : List Float) (ss sheet : List ℕ) → (n ≡ 0 → ⊥) → call_of n ps ss sheet ≡ Run (take (4 * n) ps) (take n ss) sheet
call-run zero ps ss sheet e = absurd (e refl)
call-run (suc n) ps ss sheet e = refl

-- the bars that it takes of those that are lent
pub call-front : (n : ℕ) → (n ≡ 0 → ⊥) → (ps : List Float) (ss sheet : List ℕ) (p-end s-end : ℕ) → p-end ≡ min (length ps) (4 * n) → s-end ≡ min (length ss) n
    → call_of n ps ss sheet ≡ Run (take p-end ps) (take s-end ss) sheet
call-front n some ps ss sheet p-end s-end is-p is-s =
    rw (call-run n ps ss sheet some, take_same ps p-end (4 * n) (omega arith), take_same ss s-end n (omega arith))

-- a list from a place on, as a slice has it
rest-is : {A : Type 0} (xs : List A) (at : ℕ) → take (length xs - at) (drop at xs) ≡ drop at xs
rest-is xs at = take_all (length xs - at) (drop at xs) (omega (arith, length-drop at xs))

pub lent-is : (n : ℕ) (ps : List Float) (ss sheet : List ℕ) (p s at : ℕ)
    → call_of n (take (length ps - p) (drop p ps)) (take (length ss - s) (drop s ss)) (take (length sheet - at) (drop at sheet)) ≡ call_of n (drop p ps) (drop s ss) (drop at sheet)
lent-is n ps ss sheet p s at = rw (rest-is ps p, rest-is ss s, rest-is sheet at)

-- an answer as a number
answer-told : (v : Verdict) (rows : ℕ) → answer_in (rows_by v rows) ≡ answer_by v rows
answer-told (Ok tt) rows = refl
answer-told (Err r) rows = refl

sheet-in : (n : ℕ) (ps : List Float) (ss sheet : List ℕ) → lent_sheet (call_of n ps ss sheet) ≡ sheet
sheet-in zero ps ss sheet = refl
sheet-in (suc n) ps ss sheet = refl

module _ (l : Layer) (ps : List Float) (ss sheet sizes : List ℕ) (p s at i : ℕ) (within : i < length sizes) (here : at ≤ length sheet) where
  abbrev size : ℕ
  size = get_or sizes i 0

  abbrev pub call_at : Call
  call_at = call_of size (drop p ps) (drop s ss) (drop at sheet)

  abbrev pub out_at : Taken
  out_at = called l call_at

  -- the sheet after it, and how far its rows reach
  abbrev pub sheet_then : List ℕ
  sheet_then = take at sheet ++ sheet_after l call_at

  abbrev pub at_then : ℕ
  at_then = at + row_bytes * out_at.rows

  -- its rows are no more than a box may count, and the sheet has room for them
  pub rows_at : (answer : Result ℕ Refusal) → answer ≡ rows_answer out_at → (result_unwrap_or answer 0 ≤ most_bars) × (at + row_bytes * result_unwrap_or answer 0 ≤ length sheet)
  rows_at answer is =
      let fit = rw (sheet-in size (drop p ps) (drop s ss) (drop at sheet)) at (rows_fit l call_at) in
      rw (is, rows-told l call_at) (fit.0, omega (arith, fit.1, length-drop at sheet))

  sizes-are : drop i sizes ≡ size ∷ drop (i + 1) sizes
  sizes-are = rw (add-one i) (drop-cons sizes i 0 within)

  sheet-next : take at sheet ++ sheet_through l (drop p ps) (drop s ss) (drop at sheet) (drop i sizes)
      ≡ take at_then sheet_then ++ sheet_through out_at.after (drop (min (length ps) (p + 4 * size)) ps) (drop (min (length ss) (s + size)) ss) (drop at_then sheet_then) (drop (i + 1) sizes)
  unfolding sheet_through
  sheet-next =
      rw (
        sizes-are,
        left_is ps p (4 * size),
        left_is ss s size,
        front-more sheet (sheet_after l call_at) at (row_bytes * out_at.rows) here,
        behind_more sheet (sheet_after l call_at) at (row_bytes * out_at.rows) here,
        append_assoc (take at sheet),
      )

  answers_next : answers_of l (drop p ps) (drop s ss) (drop at sheet) (drop i sizes)
      ≡ answer_by out_at.verdict out_at.rows ∷ answers_of out_at.after (drop (min (length ps) (p + 4 * size)) ps) (drop (min (length ss) (s + size)) ss) (drop at_then sheet_then) (drop (i + 1) sizes)
  unfolding answers_of
  answers_next = rw (sizes-are, left_is ps p (4 * size), left_is ss s size, behind_more sheet (sheet_after l call_at) at (row_bytes * out_at.rows) here)

  -- as the code has it: what the call answers and leaves, and where the next one's prices, stamps and rows begin
  pub call_next : (answer : Result ℕ Refusal) (left : Layer) (then : List ℕ) (p-next s-next at-next : ℕ) → answer ≡ rows_answer out_at → left ≡ out_at.after → then ≡ sheet_then
      → p-next ≡ min (length ps) (p + 4 * size) → s-next ≡ min (length ss) (s + size) → at-next ≡ at + row_bytes * result_unwrap_or answer 0
      → (take at sheet ++ sheet_through l (drop p ps) (drop s ss) (drop at sheet) (drop i sizes)
      ≡ take at-next then ++ sheet_through left (drop p-next ps) (drop s-next ss) (drop at-next then) (drop (i + 1) sizes))
      × (answers_of l (drop p ps) (drop s ss) (drop at sheet) (drop i sizes)
      ≡ answer_in answer ∷ answers_of left (drop p-next ps) (drop s-next ss) (drop at-next then) (drop (i + 1) sizes))
  call_next answer left then p-next s-next at-next is is-left is-then is-p is-s is-at =
      rw (is-at, is, rows-told l call_at, answer-told out_at.verdict out_at.rows, is-left, is-then, is-p, is-s) (sheet-next, answers_next)
