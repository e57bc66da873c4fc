-- Calls to a layer of terms, one after the other, each handed the layer that the one before it left; hours and answers as numbers.
use Rattle.std.specs.Prelude.{Result, Err, Ok}
use Rattle.answers.specs.Refusal.{Verdict}
use Rattle.answers.specs.declared.refusals.Refusal.{Refusal}
use Rattle.std.specs.Prelude.{ℕ, zero, suc, ◌+◌, ◌*◌, ◌/◌, min, List, [], ◌∷◌, ◌++◌, length, get_or, take, drop, Float}
use Rattle.recognisers.specs.Number.{row_bytes}
use Rattle.recognisers.specs.Refusal.{refusal_number}
use Rattle.trading_hours.specs.declared.hours.{DayWindow.DayWindow, Hours.Hours}
use Rattle.trading_hours.specs.Hours.{most_windows, window_from, hours_with}
use Rattle.terms.specs.declared.layers.{Layer.Layer}
use Rattle.terms.specs.History.{Call, Run, Shut, called, sheet_after}

-- ---- hours as numbers

-- two numbers to a window, from and to; missing ones read as zeros
abbrev pub window_in : List ℕ → ℕ → DayWindow
window_in numbers i = window_from (get_or numbers (2 * i) 0) (get_or numbers (2 * i + 1) 0)

-- more windows than there are places for are told by their count
unfoldable pub hours_in : List ℕ → Hours
hours_in numbers =
    hours_with (window_in numbers 0 ∷ window_in numbers 1 ∷ window_in numbers 2 ∷ window_in numbers 3 ∷ []) (min ((length numbers + 1) / 2) (most_windows + 1))

-- ---- the calls

-- a call by its size: 0 is a close, any other number a run of that many of the bars that are left
abbrev pub call_of : ℕ → List Float → List ℕ → List ℕ → Call
call_of zero prices stamps sheet = Shut sheet
call_of (suc n) prices stamps sheet = Run (take (4 * suc n) prices) (take (suc n) stamps) sheet

-- how many rows it filled, or 16,777,216 plus its refusal
abbrev pub answer_by : Verdict → ℕ → ℕ
answer_by (Ok tt) rows = rows
answer_by (Err r) rows = 16777216 + refusal_number r

-- the same of what a run or a close answers
abbrev pub answer_in : Result ℕ Refusal → ℕ
answer_in (Ok rows) = rows
answer_in (Err r) = 16777216 + refusal_number r

-- the bars that are left, and the sheet behind the rows that were filled, go to the next call
unfoldable pub answers_of : Layer → List Float → List ℕ → List ℕ → List ℕ → List ℕ
answers_of l prices stamps sheet [] = []
answers_of l prices stamps sheet (n ∷ ns) =
    let x = call_of n prices stamps sheet in
    let t = called l x in
    answer_by t.verdict t.rows ∷ answers_of t.after (drop (4 * n) prices) (drop n stamps) (drop (row_bytes * t.rows) (sheet_after l x)) ns

unfoldable pub sheet_through : Layer → List Float → List ℕ → List ℕ → List ℕ → List ℕ
sheet_through l prices stamps sheet [] = sheet
sheet_through l prices stamps sheet (n ∷ ns) =
    let x = call_of n prices stamps sheet in
    let t = called l x in
    let s = sheet_after l x in
    take (row_bytes * t.rows) s ++ sheet_through t.after (drop (4 * n) prices) (drop n stamps) (drop (row_bytes * t.rows) s) ns
