-- What the calls take in: nothing of a refused one; of an accepted run its bars; of an accepted close the open bar. And what making leaves.
-- Assumes nothing.
use Rattle.std.specs.Prelude.{Option, Some, None, Err, Ok}
use Rattle.answers.specs.Refusal.{Verdict}
use Rattle.answers.specs.declared.refusals.Refusal.{Refusal}
use Prim.Native.Nat.{ℕ, ◌≤◌, ◌<◌}
use mathlib.Core.Path.{◌≡◌, ap, sym, ◌∙◌}
use mathlib.Core.List.{List, [], ◌∷◌}
use native.Mathlib.Omega.{arith}
use lib.ListN.{length, take, drop}
use lib.Ieee.{Float}
use Rattle.measures.specs.Bar.{Bar, bars_of, overlay, prices_of}
use Rattle.measures.proofs.RunLaws.{length-bars}
use Rattle.measures.proofs.Overlay.{overlay-none}
use Rattle.recognisers.specs.Number.{places}
use Rattle.recognisers.specs.Threshold.{Thresholds, standard_set}
use Rattle.recognisers.specs.Refusal.{feed_verdict}
use Rattle.box_record.specs.declared.boxes.BarBox.{BarBox}
use Rattle.bar_box.specs.Sheet.{rows_of}
use Rattle.bar_box.specs.Box.{taken_in, fed_of, sheet_of}
use Rattle.bar_box.proofs.BoxLaws.{taken_none}
use Rattle.bar_box.proofs.PartLaws.{rows_from}
use Rattle.trading_hours.specs.declared.hours.Hours.{Hours}
use Rattle.trading_hours.specs.Hours.{with_zeros}
use Rattle.trading_hours.proofs.HourLaws.{term-some}
use Rattle.term_events.specs.declared.events.{Passed.Passed}
use Rattle.term_events.specs.Events.{Event, Close, carried_with, open_bars, carried_of, minutes_of}
use Rattle.term_events.specs.Verdicts.{make_verdict}
use Rattle.term_events.specs.EventSteps.{Ready, end_after, pass_of}
use Rattle.term_events.proofs.EventLaws.{ended-one}
use Rattle.term_events.proofs.VerdictLaws.{run-meets}
use Rattle.terms.specs.declared.layers.Layer.{Layer}
use Rattle.terms.specs.Layer.{layer_with, fresh_layer, run_verdict_of, ended_in, taken, taken_of, taken_sheet, ran_of, ran_sheet, whole_day, made_of, close_verdict_of, closed_of, closed_sheet}
use Rattle.terms.specs.History.{Run, Shut}
use Rattle.terms.proofs.CallSteps.{call-feed}
use Rattle.terms.proofs.PartLaws.{carried_to, PartFits, part-fits, all-passed}
use Rattle.terms.proofs.LayerLaws.{box-is, taken_is, sheet-is}

module _ (l : Layer) (ps : List Float) (ss sheet : List ℕ) where
  abbrev h : Hours
  h = l.hours

  abbrev m : ℕ
  m = l.minutes

  abbrev events : List Event
  events = minutes_of ss (bars_of ps)

  abbrev verdict : Verdict
  verdict = run_verdict_of l (length ps) ss (length sheet)

  -- ---- an accepted run

  module _ (e : verdict ≡ Ok tt) where
    one_each : length ss ≡ length (bars_of ps)
    one_each = (run-meets _ _ _ _ _ _ _ _ e).one_each ∙ sym (length-bars ps)

    run-ready : Ready h m l.carried ss
    run-ready =
        let met = run-meets _ _ _ _ _ _ _ _ e in
        record { some = term-some _ met.layer.minutes; valid = met.layer.hours; sound = met.layer.carried; rising = met.rising }

    run-as-feed : feed_verdict l.inner.thresholds l.inner.count (length ps) (length sheet) ≡ Ok tt
    run-as-feed = (run-meets _ _ _ _ _ _ _ _ e).feed

    -- the box's own feed is not refused
    run-feed : feed_verdict l.inner.thresholds l.inner.count (length (prices_of (ended_in l events))) (length sheet) ≡ Ok tt
    run-feed = call-feed _ _ _ _ _ (Run ps ss sheet) e

    -- what it leaves
    pub ran-is : taken (Ok tt) (length (ended_in l events)) (layer_with h m (carried_of h m l.carried events) (taken_in l.inner (ended_in l events))) ≡ ran_of l ps ss (length sheet)
    unfolding ran_of
    ran-is = taken_is l events sheet run-feed ∙ ap (λ (v : Verdict). taken_of v l events (length sheet)) (sym e)

    pub ran-sheet-is : overlay sheet 0 (rows_from l.inner (ended_in l events)) ≡ ran_sheet l ps ss sheet
    unfolding ran_sheet
    ran-sheet-is = sym (sheet-is l events sheet run-feed) ∙ ap (λ (v : Verdict). taken_sheet v l events sheet) (sym e)

    -- a part of it, as the code's loop has the layer
    pub next-part : (done : ℕ) → done < length ss → (run : List Float) → length run ≡ 128 → (now : Layer) (b : BarBox) → now ≡ layer_with h m (carried_to h m l.carried ps ss done) b → (f : Passed) (left : List Float)
        → let r = pass_of now.hours now.minutes (bars_of ps) now.carried (end_after now.hours now.minutes now.carried.last) done 0 run (drop done ss) in (f ≡ r.0) × (left ≡ r.1)
        → PartFits h m l.carried ps ss l.inner.thresholds l.inner.count (length sheet) done f left
    next-part done less run size = part-fits h m l.carried ps ss one_each run-ready _ _ _ run-as-feed done less run (omega arith)

    -- past the last one
    pub all-taken : (done : ℕ) → length ss ≤ done → take done events ≡ events
    all-taken = all-passed h m l.carried ps ss one_each

  -- ---- a refused run leaves layer and sheet

  pub ran-refused : (r : Refusal) → verdict ≡ Err r → (ran_of l ps ss (length sheet) ≡ taken (Err r) 0 l) × (ran_sheet l ps ss sheet ≡ sheet)
  unfolding ran_of ran_sheet
  ran-refused r e = (rw e, rw e)

-- ---- making

pub made-good : (t : Thresholds) (h : Hours) (m : ℕ) → make_verdict t h m ≡ Ok tt → made_of t h m ≡ taken (Ok tt) 0 (fresh_layer t (with_zeros h) m)
unfolding made_of
made-good t h m e = rw e

pub made-bad : (t : Thresholds) (h : Hours) (m : ℕ) (r : Refusal) → make_verdict t h m ≡ Err r → made_of t h m ≡ taken (Err r) 0 (fresh_layer standard_set whole_day 5)
unfolding made_of
made-bad t h m r e = rw e

-- ---- a close

module _ (l : Layer) (sheet : List ℕ) where
  abbrev shut : List Event
  shut = Close ∷ []

  pub shut-refused : (r : Refusal) → close_verdict_of l (length sheet) ≡ Err r → (closed_of l (length sheet) ≡ taken (Err r) 0 l) × (closed_sheet l sheet ≡ sheet)
  unfolding closed_of closed_sheet
  shut-refused r e = (rw e, rw e)

  module _ (e : close_verdict_of l (length sheet) ≡ Ok tt) where
    shut-ended : ended_in l shut ≡ open_bars l.carried.pending
    shut-ended = ended-one l.hours l.minutes l.carried Close

    -- the box's own feed is not refused
    shut-feed : feed_verdict l.inner.thresholds l.inner.count (length (prices_of (ended_in l shut))) (length sheet) ≡ Ok tt
    shut-feed = call-feed _ _ _ _ _ (Shut sheet) e

    pub shut-none : length l.inner.bars ≡ places → l.carried.pending ≡ None → (closed_of l (length sheet) ≡ taken (Ok tt) 0 l) × (closed_sheet l sheet ≡ sheet)
    unfolding closed_of closed_sheet carried_of rows_of
    shut-none all none =
        let ended : ended_in l shut ≡ [] = shut-ended ∙ ap open_bars none in
        let box : (fed_of l.inner (prices_of (ended_in l shut)) (length sheet)).after ≡ l.inner = box-is l shut sheet shut-feed ∙ rw (ended, taken_none l.inner all) in
        let left : taken_of (Ok tt) l shut (length sheet) ≡ taken (Ok tt) 0 (layer_with l.hours l.minutes (carried_with l.carried.last None) l.inner) = rw (box, ended) in
        let written : taken_sheet (Ok tt) l shut sheet ≡ sheet = sheet-is l shut sheet shut-feed ∙ rw ended (overlay-none sheet 0) in (
          ap (λ (v : Verdict). taken_of v l shut (length sheet)) e ∙ left ∙ sym (ap (λ (p : Option Bar). taken (Ok tt) 0 (layer_with l.hours l.minutes (carried_with l.carried.last p) l.inner)) none),
          ap (λ (v : Verdict). taken_sheet v l shut sheet) e ∙ written,
        )

    module _ (bar : Bar) (one : l.carried.pending ≡ Some bar) where
      shut-bar : ended_in l shut ≡ bar ∷ []
      shut-bar = shut-ended ∙ ap open_bars one

      pub shut-accepted : feed_verdict l.inner.thresholds l.inner.count (length (prices_of (bar ∷ []))) (length sheet) ≡ Ok tt
      shut-accepted = rw shut-bar at shut-feed

      pub shut-one : (closed_of l (length sheet) ≡ taken (Ok tt) 1 (layer_with l.hours l.minutes (carried_with l.carried.last None) (fed_of l.inner (prices_of (bar ∷ [])) (length sheet)).after))
          × (closed_sheet l sheet ≡ sheet_of l.inner (prices_of (bar ∷ [])) sheet)
      unfolding closed_of closed_sheet carried_of
      shut-one = (ap (λ (v : Verdict). taken_of v l shut (length sheet)) e ∙ rw shut-bar, ap (λ (v : Verdict). taken_sheet v l shut sheet) e ∙ rw shut-bar)
