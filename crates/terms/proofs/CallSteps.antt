-- One call to the layer that events left, against the same call to the plain list of events: its verdict, the layer after it and the rows that
-- it gives. Assumes nothing.
use Rattle.std.specs.Prelude.{None, Err, Ok}
use Rattle.answers.specs.Refusal.{Verdict}
use Rattle.std.specs.Result.{result_unwrap_or}
use Prim.Native.Nat.{ℕ, ◌+◌, ◌*◌, ◌≤◌, ◌<◌}
use mathlib.Core.Path.{◌≡◌, refl, ap, sym, ◌∙◌}
use mathlib.Core.List.{List, [], ◌∷◌, ◌++◌}
use native.Mathlib.Omega.{arith}
use lib.ListN.{length, get_or, take, drop}
use lib.Seq.{take_at}
use Rattle.measures.specs.Bar.{Bar, prices_of, bars_of}
use Rattle.measures.proofs.RunLaws.{length-bars}
use Rattle.recognisers.specs.Threshold.{Thresholds}
use Rattle.recognisers.specs.Number.{places, row_bytes, most_bars}
use Rattle.bar_box.specs.Sheet.{rows_of}
use Rattle.bar_box.specs.Box.{taken_in, fed_of}
use Rattle.recognisers.specs.Refusal.{first_true, leaves, feed_verdict}
use Rattle.bar_box.specs.History.{one_feed, fed, NoBars}
use Rattle.bar_box.proofs.SheetLaws.{length-rows, rows-newest}
use Rattle.bar_box.proofs.BoxLaws.{taken-append}
use Rattle.measures.proofs.PriceLaws.{length-prices}
use Rattle.bar_box.proofs.FeedSteps.{fits, count-after, kept-after}
use Rattle.trading_hours.specs.declared.hours.Hours.{Hours}
use Rattle.term_events.specs.declared.events.Carried.{Carried}
use Rattle.terms.specs.declared.layers.Layer.{Layer}
use Rattle.term_events.specs.Events.{Event, Close, nothing_yet, ended_of, carried_of, stamps_in, minutes_of}
use Rattle.term_events.specs.Verdicts.{sound_carried, valid_layer, stamps_tried}
use Rattle.terms.specs.Layer.{Taken, rows_by, rows_answer, layer_with, ended_in, after_events, taken_of, taken_sheet, ran_of, ran_sheet, closed_of, closed_sheet}
use Rattle.terms.specs.History.{Call, Run, Shut, lent_sheet, events_in, verdict_by, verdict_on, appended, called, sheet_after, rows_of_call, Rising}
use mathlib.Core.Bool.{true, ◌&&◌, and-true}
use Rattle.trading_hours.specs.Hours.{valid_hours, in_hours, term_length}
use Rattle.trading_hours.specs.TermRule.{TermRule}
use Rattle.trading_hours.proofs.HourLaws.{term-some}
use Rattle.trading_hours.proofs.TermLaws.{term-rule}
use Rattle.term_events.proofs.EventLaws.{carried-last, carried-append, ended-append, ended-few, length-minutes}
use Rattle.terms.proofs.FeedLaws.{bars-accepted}
use Rattle.term_events.proofs.StampLaws.{stamps-at, stamps-rise, stamps-append, events-sound, minutes-stamps}
use Rattle.term_events.proofs.VerdictLaws.{LayerMeets, run-meets, close-meets}
use Rattle.terms.proofs.LayerLaws.{box-is, sheet-is}

-- ---- a call of either kind

abbrev verdict_at : Layer → Call → Verdict
verdict_at l x = verdict_by l.inner.thresholds (valid_layer l.hours l.minutes l.carried) l.hours l.carried.last l.inner.count x

called_is : (l : Layer) (x : Call) → called l x ≡ taken_of (verdict_at l x) l (events_in x) (length (lent_sheet x))
unfolding ran_of closed_of
called_is l (Run prices stamps sheet) = refl
called_is l (Shut sheet) = refl

sheet-after-is : (l : Layer) (x : Call) → sheet_after l x ≡ taken_sheet (verdict_at l x) l (events_in x) (lent_sheet x)
unfolding ran_sheet closed_sheet
sheet-after-is l (Run prices stamps sheet) = refl
sheet-after-is l (Shut sheet) = refl

-- the box's own feed of the term bars that end is not refused where the call isn't
pub call-feed : (t : Thresholds) (h : Hours) (m : ℕ) (c : Carried) (n : ℕ) (x : Call) → verdict_by t (valid_layer h m c) h c.last n x ≡ Ok tt
    → feed_verdict t n (length (prices_of (ended_of h m c (events_in x)))) (length (lent_sheet x)) ≡ Ok tt
call-feed t h m c n (Run prices stamps sheet) e =
    let met = run-meets t h m c n (length prices) stamps (length sheet) e in
    let each : length stamps ≡ length (bars_of prices) = met.one_each ∙ sym (length-bars prices) in
    let es = minutes_of stamps (bars_of prices) in
    let total = length-minutes stamps (bars_of prices) each in
    let few = ended-few h m c es in
    let one_each = met.one_each in
    bars-accepted t n (length prices) (length sheet) met.feed (ended_of h m c es) (omega arith)
call-feed t h m c n (Shut sheet) e =
    let met = close-meets t h m c n (length sheet) e in
    let few = ended-few h m c (Close ∷ []) in
    bars-accepted t n 4 (length sheet) met.feed (ended_of h m c (Close ∷ [])) (omega arith)

pub box-accepts : (l : Layer) (x : Call) → (called l x).verdict ≡ Ok tt → (fed l.inner (one_feed (ended_in l (events_in x)) (lent_sheet x))).verdict ≡ Ok tt
unfolding fed_of
box-accepts l x e = call-feed _ _ _ _ _ x (sym (ap (λ (o : Taken). o.verdict) (called_is l x)) ∙ e)

-- the rows that a call fills are no more than a box may count, and its sheet has room for them
pub rows_fit : (l : Layer) (x : Call) → ((called l x).rows ≤ most_bars) × (row_bytes * (called l x).rows ≤ length (lent_sheet x))
rows_fit l x = rw (called_is l x) (go (verdict_at l x) refl)
  where
    go : (v : Verdict) → verdict_at l x ≡ v → (leaves v 0 (length (ended_in l (events_in x))) ≤ most_bars) × (row_bytes * leaves v 0 (length (ended_in l (events_in x))) ≤ length (lent_sheet x))
    go (Ok tt) e =
        let f = fits _ _ _ _ (call-feed _ _ _ _ _ x e) in
        let four = length-prices (ended_in l (events_in x)) in
        (omega (arith, f.few), omega (arith, f.room))
    go (Err r) e = (omega arith, omega arith)

-- they are what it answers, none of a refused call
pub rows-told : (l : Layer) (x : Call) → result_unwrap_or (rows_answer (called l x)) 0 ≡ (called l x).rows
rows-told l x = rw (called_is l x) (go (verdict_at l x))
  where
    go : (v : Verdict) → result_unwrap_or (rows_by v (leaves v 0 (length (ended_in l (events_in x))))) 0 ≡ leaves v 0 (length (ended_in l (events_in x)))
    go (Ok tt) = refl
    go (Err r) = refl

-- of an accepted call the layer keeps the rules, and no refusal stops the stamps
call-stamps : (t : Thresholds) (h : Hours) (m : ℕ) (c : Carried) (n : ℕ) (x : Call) → verdict_by t (valid_layer h m c) h c.last n x ≡ Ok tt
    → LayerMeets h m c × (first_true (stamps_tried h c.last (stamps_in (events_in x))) ≡ Ok tt)
unfolding stamps_in stamps_tried first_true
call-stamps t h m c n (Run prices stamps sheet) e =
    let met = run-meets t h m c n (length prices) stamps (length sheet) e in
    (met.layer, rw (minutes-stamps stamps (bars_of prices) (met.one_each ∙ sym (length-bars prices))) met.rising)
call-stamps t h m c n (Shut sheet) e = ((close-meets t h m c n (length sheet) e).layer, refl)

-- ---- the layer that events left

module _ (l : Layer) (start : NoBars l.inner) where
  abbrev ended : List Event → List Bar
  ended es = ended_of l.hours l.minutes nothing_yet es

  abbrev carried : List Event → Carried
  carried es = carried_of l.hours l.minutes nothing_yet es

  abbrev pub layer_of : List Event → Layer
  layer_of es = layer_with l.hours l.minutes (carried es) (taken_in l.inner (ended es))

  abbrev on : List Event → Call → Verdict
  on es x = verdict_on l.inner.thresholds l.hours l.minutes es x

  -- no refusal stops the stamps of the events; if there is one, the hours and the term length keep the rules
  unfoldable pub Kept : List Event → Type 0
  Kept es = (first_true (stamps_tried l.hours None (stamps_in es)) ≡ Ok tt) × (1 ≤ length (stamps_in es) → TermRule l.hours l.minutes)

  -- so 12 can't be true of the layer for its stamp or an open term bar, and its verdict on a call is that of the events
  verdict-at : (es : List Event) (x : Call) → Kept es → verdict_at (layer_of es) x ≡ on es x
  unfolding Kept valid_layer sound_carried
  verdict-at es x k =
      let last = carried-last l.hours l.minutes nothing_yet es in
      let sound = events-sound l.hours l.minutes nothing_yet es k.0 refl in
      rw (count-after l.inner start (ended es), sound, and-true (valid_hours l.hours && term_length l.minutes), last)

  pub verdict-step : (es : List Event) (x : Call) → Kept es → (called (layer_of es) x).verdict ≡ on es x
  verdict-step es x k = ap (λ (o : Taken). o.verdict) (called_is (layer_of es) x) ∙ verdict-at es x k

  -- no event left it so, and each call leaves it so
  pub kept-none : Kept []
  unfolding Kept stamps_in stamps_tried first_true
  kept-none = (refl, λ some. absurd (let z : ⊥ = omega arith in z))

  kept_by : (v : Verdict) (es : List Event) (x : Call) → verdict_at (layer_of es) x ≡ v → Kept es → Kept (leaves v es (es ++ events_in x))
  unfolding Kept
  kept_by (Ok tt) es x e k =
      let met = call-stamps _ _ _ (carried es) _ x e in (
        stamps-append l.hours None es (events_in x) k.0 (rw (← carried-last l.hours l.minutes nothing_yet es) met.1),
        λ some. term-rule l.hours l.minutes (term-some _ met.0.minutes) met.0.hours,
      )
  kept_by (Err r) es x e k = k

  pub kept_step : (es : List Event) (x : Call) → Kept es → Kept (appended l.inner.thresholds l.hours l.minutes es x)
  kept_step es x k = rw (verdict-at es x k) at (kept_by (verdict_at (layer_of es) x) es x refl k)

  -- so the stamps rise
  pub kept-rising : (es : List Event) → Kept es → Rising l.hours l.minutes (stamps_in es)
  unfolding Kept
  kept-rising es k =
      let ss = stamps_in es in
      let inside : (i : ℕ) → i < length ss → in_hours l.hours (get_or ss i 0) ≡ true = λ i within. (stamps-at l.hours None ss i within k.0).1 in
      let up : (i j : ℕ) → i < j → j < length ss → get_or ss i 0 < get_or ss j 0 = λ i j less within. stamps-rise l.hours None ss i j less within k.0 in
      record {
        inside = inside;
        above = up;
        later = λ i j less within. (k.1 (omega arith)).rise (get_or ss i 0) (get_or ss j 0) (inside i (omega arith)) (inside j within) (omega (arith, up i j less within));
      }

  -- an accepted call leaves the layer that the events and its own leave
  accepted-layer : (es : List Event) (x : Call) → verdict_at (layer_of es) x ≡ Ok tt → after_events (layer_of es) (events_in x) (length (lent_sheet x)) ≡ layer_of (es ++ events_in x)
  accepted-layer es x e =
      let new = events_in x in
      let feed = call-feed _ _ _ _ _ x e in
      rw (
        box-is (layer_of es) new (lent_sheet x) feed,
        taken-append l.inner start.all-places (ended es) (ended_of l.hours l.minutes (carried es) new),
        ← ended-append l.hours l.minutes nothing_yet es new,
        ← carried-append l.hours l.minutes nothing_yet es new,
      )

  layer-by : (v : Verdict) (es : List Event) (x : Call) → verdict_at (layer_of es) x ≡ v
      → leaves v (layer_of es) (after_events (layer_of es) (events_in x) (length (lent_sheet x))) ≡ layer_of (leaves v es (es ++ events_in x))
  layer-by (Ok tt) es x e = accepted-layer es x e
  layer-by (Err r) es x e = refl

  pub layer-step : (es : List Event) (x : Call) → Kept es → (called (layer_of es) x).after ≡ layer_of (appended l.inner.thresholds l.hours l.minutes es x)
  layer-step es x k =
      ap (λ (o : Taken). o.after) (called_is (layer_of es) x)
      ∙ layer-by (verdict_at (layer_of es) x) es x refl
      ∙ ap (λ (v : Verdict). layer_of (leaves v es (es ++ events_in x))) (verdict-at es x k)

  -- the rows that a call gives are those of its term bars over all term bars before them
  rows-by : (v : Verdict) (es : List Event) (x : Call) → verdict_at (layer_of es) x ≡ v
      → let new = ended_in (layer_of es) (events_in x) in
      take (row_bytes * leaves v 0 (length new)) (taken_sheet v (layer_of es) (events_in x) (lent_sheet x))
      ≡ leaves v [] (rows_of l.inner.thresholds (length (ended es)) (ended es) new)
  rows-by (Ok tt) es x e =
      let t = l.inner.thresholds in
      let old = ended es in
      let new = ended_in (layer_of es) (events_in x) in
      let feed = call-feed _ _ _ _ _ x e in
      rw (
        sheet-is (layer_of es) (events_in x) (lent_sheet x) feed,
        kept-after l.inner start old,
        count-after l.inner start old,
        rows-newest places (omega arith) t (length old) old new,
      )
      (take_at (rows_of t (length old) old new) (drop (0 + length (rows_of t (length old) old new)) (lent_sheet x)) (row_bytes * length new) (length-rows t (length old) old new))
  rows-by (Err r) es x e = refl

  pub rows_step : (es : List Event) (x : Call) → Kept es
      → rows_of_call (layer_of es) x ≡ leaves (on es x) [] (rows_of l.inner.thresholds (length (ended es)) (ended es) (ended_of l.hours l.minutes (carried es) (events_in x)))
  rows_step es x k =
      let new = ended_in (layer_of es) (events_in x) in
      rw (called_is (layer_of es) x, sheet-after-is (layer_of es) x)
      (rows-by (verdict_at (layer_of es) x) es x refl
      ∙ ap (λ (v : Verdict). leaves v [] (rows_of l.inner.thresholds (length (ended es)) (ended es) new)) (verdict-at es x k))

  -- where the events say that a call is accepted, a feed of its term bars is
  pub events-feed : (es : List Event) (x : Call) → Kept es → on es x ≡ Ok tt
      → feed_verdict l.inner.thresholds (length (ended es)) (length (prices_of (ended_of l.hours l.minutes (carried es) (events_in x)))) (length (lent_sheet x)) ≡ Ok tt
  events-feed es x k e = rw (count-after l.inner start (ended es)) at (call-feed _ _ _ (carried es) _ x (verdict-at es x k ∙ e))
