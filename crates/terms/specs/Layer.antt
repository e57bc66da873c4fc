-- 02, P6: the layer, its making, a run and a close, for every layer that a caller can hand in.
use Rattle.answers.specs.Refusal.{Verdict}
use Rattle.std.specs.Prelude.{ℕ, List, [], ◌∷◌, length, Float, Result, Ok, Err}
use Rattle.measures.specs.Bar.{Bar, bars_of, prices_of}
use Rattle.recognisers.specs.Threshold.{Thresholds, standard_set}
use Rattle.answers.specs.declared.refusals.Refusal.{Refusal}
use Rattle.recognisers.specs.Refusal.{leaves}
use Rattle.box_record.specs.declared.boxes.BarBox.{BarBox}
use Rattle.bar_box.specs.Box.{fresh_box, fed_of, sheet_of}
use Rattle.trading_hours.specs.declared.hours.Hours.{Hours}
use Rattle.trading_hours.specs.Hours.{day_minutes, window_from, no_window, hours_with, with_zeros}
use Rattle.term_events.specs.declared.events.Carried.{Carried}
use Rattle.term_events.specs.Events.{Event, Close, nothing_yet, ended_of, carried_of, minutes_of}
use Rattle.term_events.specs.Verdicts.{make_verdict, run_verdict, close_verdict}
use Rattle.terms.specs.declared.layers.Layer.{Layer}

-- ---- a fresh layer

abbrev pub layer_with : Hours → ℕ → Carried → BarBox → Layer
layer_with h m c b = record { inner = b; carried = c; hours = h; minutes = m }

abbrev pub fresh_layer : Thresholds → Hours → ℕ → Layer
fresh_layer t h m = layer_with h m nothing_yet (fresh_box t)

-- one window 0 to 1,440
unfoldable pub whole_day : Hours
whole_day = hours_with (window_from 0 day_minutes ∷ no_window ∷ no_window ∷ no_window ∷ []) 1

-- ---- the calls

-- the layer after a call, how many rows the call filled, and whether it is refused
pub record Taken : Type 0 where
  pub after : Layer
  pub rows : ℕ
  pub verdict : Verdict

abbrev pub taken : Verdict → ℕ → Layer → Taken
taken v rows l = record { after = l; rows = rows; verdict = v }

-- "A refused making returns a fresh layer with the standard set, one window 0 to 1,440 and m = 5"
abbrev pub made_by : Verdict → Thresholds → Hours → ℕ → Layer
made_by (Ok tt) t h m = fresh_layer t (with_zeros h) m
made_by (Err r) t h m = fresh_layer standard_set whole_day 5

unfoldable pub made_of : Thresholds → Hours → ℕ → Taken
made_of t h m = let v = make_verdict t h m in taken v 0 (made_by v t h m)

-- the term bars that end in events that come to a layer
abbrev pub ended_in : Layer → List Event → List Bar
ended_in l es = ended_of l.hours l.minutes l.carried es

-- the layer after events: its box is fed the ended term bars
abbrev pub after_events : Layer → List Event → ℕ → Layer
after_events l es sheet =
    layer_with l.hours l.minutes (carried_of l.hours l.minutes l.carried es) (fed_of l.inner (prices_of (ended_in l es)) sheet).after

-- "is refused whole or taken whole": a call that takes events in, by its verdict; a refusal leaves the layer and fills no row
abbrev pub taken_of : Verdict → Layer → List Event → ℕ → Taken
taken_of v l es sheet = taken v (leaves v 0 (length (ended_in l es))) (leaves v l (after_events l es sheet))

-- the sheet after it: "rows from the start for the term bars that ended in it", as a feed of them writes; bytes past these stay, and a refusal
-- leaves all
abbrev pub taken_sheet : Verdict → Layer → List Event → List ℕ → List ℕ
taken_sheet v l es sheet = leaves v sheet (sheet_of l.inner (prices_of (ended_in l es)) sheet)

abbrev pub run_verdict_of : Layer → ℕ → List ℕ → ℕ → Verdict
run_verdict_of l prices stamps sheet = run_verdict l.inner.thresholds l.hours l.minutes l.carried l.inner.count prices stamps sheet

abbrev pub close_verdict_of : Layer → ℕ → Verdict
close_verdict_of l sheet = close_verdict l.inner.thresholds l.hours l.minutes l.carried l.inner.count sheet

-- a run
unfoldable pub ran_of : Layer → List Float → List ℕ → ℕ → Taken
ran_of l prices stamps sheet = taken_of (run_verdict_of l (length prices) stamps sheet) l (minutes_of stamps (bars_of prices)) sheet

unfoldable pub ran_sheet : Layer → List Float → List ℕ → List ℕ → List ℕ
ran_sheet l prices stamps sheet = taken_sheet (run_verdict_of l (length prices) stamps (length sheet)) l (minutes_of stamps (bars_of prices)) sheet

-- a close
unfoldable pub closed_of : Layer → ℕ → Taken
closed_of l sheet = taken_of (close_verdict_of l sheet) l (Close ∷ []) sheet

unfoldable pub closed_sheet : Layer → List ℕ → List ℕ
closed_sheet l sheet = taken_sheet (close_verdict_of l (length sheet)) l (Close ∷ []) sheet

-- ---- what a run or a close answers: how many rows it filled, or the refusal alone

abbrev pub rows_by : Verdict → ℕ → Result ℕ Refusal
rows_by (Ok _) rows = Ok rows
rows_by (Err r) rows = Err r

abbrev pub rows_answer : Taken → Result ℕ Refusal
rows_answer o = rows_by o.verdict o.rows

-- whether it is refused
abbrev pub verdict_in : Result ℕ Refusal → Verdict
verdict_in (Ok rows) = Ok tt
verdict_in (Err r) = Err r
