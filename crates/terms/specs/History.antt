-- 02, P6: what every list of calls leaves. The first part builds one plain list of events from what the accepted calls were lent; the second follows
-- the calls by the definitions that the contracts cite; the third says how the two agree.
use Rattle.std.specs.Prelude.{Option, None, Ok}
use Rattle.answers.specs.Refusal.{Verdict}
use Rattle.std.specs.Prelude.{ℕ, ◌*◌, ◌≤◌, ◌<◌, ◌≡◌, ◌⊎◌, Bool, true, ◌&&◌, List, [], ◌∷◌, ◌++◌, length, get_or, take, Float}
use Rattle.measures.specs.Bar.{Bar, bars_of}
use Rattle.recognisers.specs.Threshold.{Thresholds, valid_of}
use Rattle.recognisers.specs.Number.{row_bytes}
use Rattle.recognisers.specs.Refusal.{leaves}
use Rattle.bar_box.specs.Calls.{after, each, joined}
use Rattle.bar_box.specs.History.{NoBars, one_feed, fed, rows_in, Holds as BoxHolds}
use Rattle.trading_hours.specs.declared.hours.Hours.{Hours}
use Rattle.trading_hours.specs.Hours.{most_windows, windows_of, valid_hours, in_hours, term_of, term_length}
use Rattle.trading_hours.specs.TermRule.{Before}
use Rattle.terms.specs.declared.layers.Layer.{Layer}
use Rattle.term_events.specs.Events.{Event, Close, nothing_yet, ended_of, carried_of, stamp_after, stamps_in, minutes_of}
use Rattle.term_events.specs.Verdicts.{valid_layer, run_tried, close_tried}
use Rattle.terms.specs.Layer.{Taken, made_of, ended_in, ran_of, ran_sheet, closed_of, closed_sheet}

-- what a call is lent: a run prices, one stamp a bar, and a sheet; a close a sheet
pub data Call : Type 0 where
  Run : List Float → List ℕ → List ℕ → Call
  Shut : List ℕ → Call

abbrev pub lent_sheet : Call → List ℕ
lent_sheet (Run prices stamps sheet) = sheet
lent_sheet (Shut sheet) = sheet

-- ---- the account: one list of events

abbrev pub events_in : Call → List Event
events_in (Run prices stamps sheet) = minutes_of stamps (bars_of prices)
events_in (Shut sheet) = Close ∷ []

-- a call's verdict, by the thresholds, whether the layer keeps the rules, the hours, the last stamp, and the count of term bars
abbrev pub verdict_by : Thresholds → Bool → Hours → Option ℕ → ℕ → Call → Verdict
verdict_by t valid h last n (Run prices stamps sheet) = run_tried t valid h last n (length prices) stamps (length sheet)
verdict_by t valid h last n (Shut sheet) = close_tried t valid n (length sheet)

module _ (t : Thresholds) (h : Hours) (m : ℕ) where
  -- a call is refused exactly as the list of refusals says, with the stamp of the last bar of the events and the count of the term bars that
  -- ended in them; 12 is for the hours and the term length alone
  abbrev pub verdict_on : List Event → Call → Verdict
  verdict_on es x = verdict_by t (valid_hours h && term_length m) h (stamp_after None es) (length (ended_of h m nothing_yet es)) x

  -- it then leaves the list as it is; any other call appends its bars, or its close
  abbrev pub appended : List Event → Call → List Event
  appended es x = leaves (verdict_on es x) es (es ++ events_in x)

  -- from the empty list it is the one list of all bars and closes of the accepted calls
  abbrev pub events_after : List Event → List Call → List Event
  events_after = after appended

  abbrev pub verdicts_on : List Event → List Call → List Verdict
  verdicts_on = each appended verdict_on

-- ---- the calls, as the contracts of a run and a close have them

abbrev pub called : Layer → Call → Taken
called l (Run prices stamps sheet) = ran_of l prices stamps (length sheet)
called l (Shut sheet) = closed_of l (length sheet)

abbrev pub sheet_after : Layer → Call → List ℕ
sheet_after l (Run prices stamps sheet) = ran_sheet l prices stamps sheet
sheet_after l (Shut sheet) = closed_sheet l sheet

abbrev pub layer_left : Layer → Call → Layer
layer_left l x = (called l x).after

abbrev pub layer_after : Layer → List Call → Layer
layer_after = after layer_left

abbrev pub verdicts_of : Layer → List Call → List Verdict
verdicts_of = each layer_left (λ l x. (called l x).verdict)

-- the term bars that end in an accepted call, by what the layer carries
abbrev pub ended_in_call : Layer → Call → List Bar
ended_in_call l x = leaves (called l x).verdict [] (ended_in l (events_in x))

abbrev pub joined_ended : Layer → List Call → List Bar
joined_ended = joined layer_left ended_in_call

-- the rows of a call: as many as it says that it filled, as its sheet stands when it returns
abbrev pub rows_of_call : Layer → Call → List ℕ
rows_of_call l x = take (row_bytes * (called l x).rows) (sheet_after l x)

abbrev pub joined_rows : Layer → List Call → List ℕ
joined_rows = joined layer_left rows_of_call

-- ---- stamps that 10 and 11 let pass: each lies in the hours, and of any two the later is above the earlier, in its term or in one after it

pub record Rising (h : Hours) (m : ℕ) (stamps : List ℕ) : Type 0 where
  pub inside : (i : ℕ) → i < length stamps → in_hours h (get_or stamps i 0) ≡ true
  pub above : (i j : ℕ) → i < j → j < length stamps → get_or stamps i 0 < get_or stamps j 0
  pub later : (i j : ℕ) → i < j → j < length stamps
      → let a = term_of h m (get_or stamps i 0) in
      let b = term_of h m (get_or stamps j 0) in
      (a ≡ b) ⊎ Before a b

-- ---- what holds after a list of calls xs to a layer l to which nothing came; es is the one list of events, ended are the term bars that end in
-- it, and sheet is one that is long enough for their rows

pub record Holds (l : Layer) (xs : List Call) (es : List Event) (ended : List Bar) (sheet : List ℕ) : Type 0 where
  -- (a) each call is refused exactly as the events, their last stamp and the count of their ended term bars say
  pub refusals : verdicts_of l xs ≡ verdicts_on l.inner.thresholds l.hours l.minutes [] xs
  -- so its stamps rise, and a term ends in it "when a bar of a later one arrives"
  pub rising : Rising l.hours l.minutes (stamps_in es)
  -- (b) "the ended term bars are those of all bars and closes of the accepted ones in one list"
  pub same_ended : joined_ended l xs ≡ ended
  -- (c) "the rows and box are those of one feed of the ended term bars to its fresh box", which is accepted unless the thresholds are outside
  -- their limits, where every call is refused
  pub same_rows : joined_rows l xs ≡ rows_in l.inner (one_feed ended sheet)
  pub same-box : (layer_after l xs).inner ≡ (fed l.inner (one_feed ended sheet)).after
  pub accepted : valid_of l.inner.thresholds ≡ true → (fed l.inner (one_feed ended sheet)).verdict ≡ Ok tt
  -- demand 3 for that feed: each row has the pairs over all term bars up to it, and looks at the box give the printed pairs
  pub demand-3 : BoxHolds l.inner (one_feed ended sheet ∷ []) ended sheet
  -- (d) the kept stamp and the open term bar are those of the events; hours and term length stay
  pub same-carried : (layer_after l xs).carried ≡ carried_of l.hours l.minutes nothing_yet es
  pub same-stamp : (layer_after l xs).carried.last ≡ stamp_after None es
  pub same-hours : (layer_after l xs).hours ≡ l.hours
  pub same-minutes : (layer_after l xs).minutes ≡ l.minutes

-- a layer to which nothing came, as made or as a caller filled it
pub record NoneYet (l : Layer) : Type 0 where
  pub nothing : l.carried ≡ nothing_yet
  pub no-bars : NoBars l.inner

-- for every list of calls
pub record TermCalls : Type 0 where
  pub holds : (l : Layer) → NoneYet l → (xs : List Call) (sheet : List ℕ)
      → let es = events_after l.inner.thresholds l.hours l.minutes [] xs in
      let ended = ended_of l.hours l.minutes nothing_yet es in
      row_bytes * length ended ≤ length sheet → Holds l xs es ended sheet
  -- the same events in other calls leave the same layer and the same rows
  pub cuts : (l : Layer) → NoneYet l → (xs ys : List Call)
      → events_after l.inner.thresholds l.hours l.minutes [] xs ≡ events_after l.inner.thresholds l.hours l.minutes [] ys
      → (layer_after l xs ≡ layer_after l ys) × (joined_rows l xs ≡ joined_rows l ys)
  -- the box's own feed of the term bars that end in a call is never refused where the call isn't, whatever layer is handed in
  pub box-accepts : (l : Layer) (x : Call) → (called l x).verdict ≡ Ok tt → (fed l.inner (one_feed (ended_in l (events_in x)) (lent_sheet x))).verdict ≡ Ok tt
  -- what making gives is such a layer, with thresholds inside their limits and hours, term length and carried bar that keep the rules; it is the
  -- same for hours with the same windows in use
  pub made : (t : Thresholds) (h : Hours) (m : ℕ) → NoneYet (made_of t h m).after
  pub made-valid : (t : Thresholds) (h : Hours) (m : ℕ) → length h.windows ≡ most_windows → let l = (made_of t h m).after in (valid_of l.inner.thresholds ≡ true) × (valid_layer l.hours l.minutes l.carried ≡ true)
  pub made-same : (t : Thresholds) (g h : Hours) (m : ℕ) → g.count ≡ h.count → windows_of g ≡ windows_of h → made_of t g m ≡ made_of t h m
