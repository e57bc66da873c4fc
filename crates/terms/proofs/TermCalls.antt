-- What every list of calls leaves, over every layer to which nothing came and over the layer that making gives. Assumes nothing.
use Rattle.std.specs.Prelude.{Err, Ok}
use Rattle.answers.specs.Refusal.{Verdict}
use Prim.Native.Nat.{ℕ, ◌*◌, ◌≤◌}
use mathlib.Core.Path.{◌≡◌, refl, ap, sym, ◌∙◌}
use mathlib.Core.Bool.{true}
use mathlib.Core.List.{List, [], ◌∷◌, ◌++◌, flatten, append-nil}
use native.Mathlib.Omega.{arith}
use native.Mathlib.Nat.{zero-add}
use lib.ListN.{length, length-append}
use Rattle.measures.specs.Bar.{Bar, prices_of, bars_of}
use Rattle.recognisers.specs.Threshold.{Thresholds, standard_set, valid_of}
use Rattle.recognisers.specs.Number.{row_bytes}
use Rattle.bar_box.specs.Sheet.{rows_of}
use borrow.Author.Tests.{not-false}
use Rattle.bar_box.specs.Box.{fed_of}
use Rattle.recognisers.specs.Refusal.{leaves}
use Rattle.bar_box.specs.Calls.{after, each}
use Rattle.bar_box.proofs.CallLists.{kept, built, after-follows, each-follows}
use Rattle.bar_box.proofs.SheetLaws.{rows_append}
use Rattle.bar_box.proofs.BoxLaws.{taken_none}
use Rattle.bar_box.specs.History.{one_feed, history_after, verdict_on as boxVerdictOn, appended as boxAppended}
use Rattle.measures.proofs.PriceLaws.{length-prices, bars-prices}
use Rattle.bar_box.proofs.Demand3.{standard-valid, fresh-none, demand-3}
use Rattle.bar_box.proofs.FeedSteps.{none_true, fits}
use Rattle.bar_box.proofs.FeedLists.{Sound, sound_empty, one-accepted, one-box, one-rows}
use Rattle.trading_hours.specs.declared.hours.Hours.{Hours}
use Rattle.term_events.specs.declared.events.Carried.{Carried}
use Rattle.terms.specs.declared.layers.Layer.{Layer}
use Rattle.term_events.specs.Events.{Event, nothing_yet, ended_of, carried_of, stamps_in}
use Rattle.terms.specs.History.{Call, events_in, verdict_on, appended, events_after, called, layer_left, layer_after, ended_in_call, joined_ended, rows_of_call, joined_rows, Rising, Holds, NoneYet, TermCalls}
use Rattle.trading_hours.specs.Hours.{most_windows, windows_of, with_zeros, valid_hours, rising_from, term_length}
use Rattle.trading_hours.proofs.HourLaws.{zeros-windows}
use Rattle.term_events.specs.Verdicts.{sound_carried, valid_layer, make_verdict}
use Rattle.terms.specs.Layer.{whole_day, taken, made_by, made_of}
use Rattle.term_events.proofs.EventLaws.{carried-last, ended-append}
use Rattle.terms.proofs.CallSteps.{box-accepts, Kept, kept-none, kept_step, kept-rising, events-feed, layer_of, verdict-step, layer-step, rows_step}

-- ---- one feed of bars to no history

none_left : (v : Verdict) → leaves {A = List Bar} v [] [] ≡ []
none_left (Ok tt) = refl
none_left (Err r) = refl

-- it leaves the bars, if it is accepted where there is one
whole : (t : Thresholds) (sheet : List ℕ) (bars : List Bar) → (1 ≤ length bars → boxVerdictOn t [] (one_feed bars sheet) ≡ Ok tt) → boxAppended t [] (one_feed bars sheet) ≡ bars
unfolding prices_of bars_of
whole t sheet [] p = none_left (boxVerdictOn t [] (one_feed [] sheet))
whole t sheet (b ∷ bars) p = rw (p (omega arith)) (bars-prices (b ∷ bars))

module _ (l : Layer) (start : NoneYet l) where
  abbrev t : Thresholds
  t = l.inner.thresholds

  abbrev ended : List Event → List Bar
  ended es = ended_of l.hours l.minutes nothing_yet es

  abbrev layer : List Event → Layer
  layer es = layer_of l start.no-bars es

  abbrev more : List Event → Call → List Event
  more es x = appended t l.hours l.minutes es x

  -- ---- the lists

  -- a layer follows the events that leave it, and keeps the rules
  Follows : Layer → List Event → Type 0
  Follows x es = (x ≡ layer es) × Kept l start.no-bars es

  follows : (x : Layer) (es : List Event) (c : Call) → Follows x es → Follows (layer_left x c) (more es c)
  unfolding Follows
  follows x es c r = (rw r.0 (layer-step l start.no-bars es c r.1), kept_step l start.no-bars es c r.1)

  -- the layer is the one that no event leaves
  at-start : Follows l []
  unfolding Follows ended_of carried_of
  at-start = (rw (taken_none l.inner start.no-bars.all-places, ← start.nothing), kept-none l start.no-bars)

  layer-after : (xs : List Call) → Follows (layer_after l xs) (events_after t l.hours l.minutes [] xs)
  layer-after xs = after-follows layer_left more Follows follows l [] xs at-start

  each_after : {A : Type 0} (gives : Layer → Call → A) (says : List Event → Call → A) → ((es : List Event) (x : Call) → Kept l start.no-bars es → gives (layer es) x ≡ says es x)
      → (xs : List Call) → each layer_left gives l xs ≡ each more says [] xs
  unfolding Follows
  each_after gives says agree xs = each-follows layer_left more Follows follows gives says (λ x es c r. rw r.0 (agree es c r.1)) l [] xs at-start

  -- the term bars that end in a call, and their rows, by its verdict
  abbrev carried : List Event → Carried
  carried es = carried_of l.hours l.minutes nothing_yet es

  abbrev on : List Event → Call → Verdict
  on = verdict_on t l.hours l.minutes

  abbrev ended_on : List Event → Call → List Bar
  ended_on es x = leaves (on es x) [] (ended_of l.hours l.minutes (carried es) (events_in x))

  abbrev rows_on : List Event → Call → List ℕ
  rows_on es x = leaves (on es x) [] (rows_of t (length (ended es)) (ended es) (ended_of l.hours l.minutes (carried es) (events_in x)))

  ended_by : (v : Verdict) (es new : List Event) → ended es ++ leaves v [] (ended_of l.hours l.minutes (carried es) new) ≡ ended (leaves v es (es ++ new))
  ended_by (Ok tt) es new = sym (ended-append l.hours l.minutes nothing_yet es new)
  ended_by (Err r) es new = append-nil (ended es)

  rows-by : (v : Verdict) (es new : List Event)
      → rows_of t 0 [] (ended es) ++ leaves v [] (rows_of t (length (ended es)) (ended es) (ended_of l.hours l.minutes (carried es) new)) ≡ rows_of t 0 [] (ended (leaves v es (es ++ new)))
  rows-by (Ok tt) es new =
      rw (ended-append l.hours l.minutes nothing_yet es new)
      (sym (rows_append t 0 [] (ended es) (ended_of l.hours l.minutes (carried es) new) ∙ rw zero-add))
  rows-by (Err r) es new = append-nil (rows_of t 0 [] (ended es))

  -- ---- what the refusals see to

  sound-by : (v : Verdict) (es : List Event) (x : Call) → verdict_on t l.hours l.minutes es x ≡ v → Kept l start.no-bars es → Sound t (ended es) → Sound t (ended (leaves v es (es ++ events_in x)))
  sound-by (Ok tt) es x e k s =
      let c = carried_of l.hours l.minutes nothing_yet es in
      let new = ended_of l.hours l.minutes c (events_in x) in
      let met = fits _ _ _ _ (events-feed l start.no-bars es x k e) in
      let four = length-prices new in
      rw (ended-append l.hours l.minutes nothing_yet es (events_in x)) record { few = rw length-append (omega (arith, met.few)); valid = λ some. met.valid }
  sound-by (Err r) es x e k s = s

  sound-after : (xs : List Call) → Sound t (ended (events_after t l.hours l.minutes [] xs))
  unfolding ended_of
  sound-after xs =
      (kept more (λ es. Kept l start.no-bars es × Sound t (ended es)) (λ es x p. (kept_step l start.no-bars es x p.0, sound-by (on es x) es x refl p.0 p.1))
      [] xs (kept-none l start.no-bars, sound_empty t)).1

  -- ---- the one list of events

  module _ (xs : List Call) where
    abbrev events : List Event
    events = events_after t l.hours l.minutes [] xs

    -- no more than 1,000,000 term bars ended in it, and none if the thresholds are outside their limits
    ended-sound : Sound t (ended events)
    ended-sound = sound-after xs

    -- the layer is the one that the events leave
    pub joined-layer : layer_after l xs ≡ layer events
    unfolding Follows
    joined-layer = (layer-after xs).0

    events-rise : Rising l.hours l.minutes (stamps_in events)
    unfolding Follows
    events-rise = kept-rising l start.no-bars events (layer-after xs).1

    -- the rows are those of the term bars that ended in it
    pub joined-rows : joined_rows l xs ≡ rows_of t 0 [] (ended events)
    unfolding rows_of ended_of
    joined-rows = ap flatten (each_after rows_of_call rows_on (rows_step l start.no-bars) xs) ∙ built more (λ es. rows_of t 0 [] (ended es)) rows_on (λ es x. rows-by (on es x) es (events_in x)) [] xs

    -- and end call by call
    pub joined-ended : joined_ended l xs ≡ ended events
    unfolding ended_of
    joined-ended = ap flatten (each_after ended_in_call ended_on (λ es x k. rw (verdict-step l start.no-bars es x k)) xs) ∙ built more ended ended_on (λ es x. ended_by (on es x) es (events_in x)) [] xs

    module _ (sheet : List ℕ) (room : row_bytes * length (ended events) ≤ length sheet) where
      -- one feed of them gives them for its history
      one-history : history_after t [] (one_feed (ended events) sheet ∷ []) ≡ ended events
      unfolding after fed_of
      one-history =
          whole t sheet (ended events)
          (λ some.
          let valid = ended-sound.valid some in
          rw start.no-bars.none at (one-accepted l.inner start.no-bars (ended events) sheet ended-sound room valid))

      holds_after : Holds l xs events (ended events) sheet
      holds_after =
          let no-bars = start.no-bars in
          let sound = ended-sound in
          let bars = ended events in
          record {
            -- (a)
            refusals = each_after (λ x c. (called x c).verdict) on (verdict-step l start.no-bars) xs;
            rising = events-rise;
            -- (b)
            same_ended = joined-ended;
            -- (c)
            same_rows = joined-rows ∙ sym (one-rows l.inner no-bars bars sheet sound room);
            same-box = ap (λ (x : Layer). x.inner) joined-layer ∙ sym (one-box l.inner no-bars bars sheet sound room);
            accepted = one-accepted l.inner no-bars bars sheet sound room;
            demand-3 = rw one-history at (demand-3.holds l.inner no-bars (one_feed bars sheet ∷ []) sheet (rw one-history room));
            -- (d)
            same-carried = ap (λ (x : Layer). x.carried) joined-layer;
            same-stamp = ap (λ (x : Layer). x.carried.last) joined-layer ∙ carried-last l.hours l.minutes nothing_yet events;
            same-hours = ap (λ (x : Layer). x.hours) joined-layer;
            same-minutes = ap (λ (x : Layer). x.minutes) joined-layer;
          }

  -- the same events in other calls
  same-cuts : (xs ys : List Call) → events xs ≡ events ys → (layer_after l xs ≡ layer_after l ys) × (joined_rows l xs ≡ joined_rows l ys)
  same-cuts xs ys e = (joined-layer xs ∙ rw e (sym (joined-layer ys)), joined-rows xs ∙ rw e (sym (joined-rows ys)))

-- ---- the layer that making gives

by_verdict : (v : Verdict) (t : Thresholds) (h : Hours) (m : ℕ) → NoneYet (made_by v t h m)
by_verdict (Ok tt) t h m = record { nothing = refl; no-bars = fresh-none t }
by_verdict (Err r) t h m = record { nothing = refl; no-bars = fresh-none standard_set }

made-any : (t : Thresholds) (h : Hours) (m : ℕ) → NoneYet (made_of t h m).after
unfolding made_of
made-any t h m = by_verdict (make_verdict t h m) t h m

-- one window from 0 to 1,440 and 5 keep the rules
pub standard-layer : valid_layer whole_day 5 nothing_yet ≡ true
unfolding valid_layer valid_hours rising_from term_length sound_carried whole_day
standard-layer = refl

Valid : Layer → Type 0
Valid l = (valid_of l.inner.thresholds ≡ true) × (valid_layer l.hours l.minutes l.carried ≡ true)

-- hours keep the rules as those with the same windows in use do
valid_same : (g h : Hours) (m : ℕ) → g.count ≡ h.count → windows_of g ≡ windows_of h → valid_layer g m nothing_yet ≡ valid_layer h m nothing_yet
unfolding valid_layer valid_hours sound_carried
valid_same g h m c w = rw (w, c)

valid-by : (v : Verdict) (t : Thresholds) (h : Hours) (m : ℕ) → length h.windows ≡ most_windows → make_verdict t h m ≡ v → Valid (made_by v t h m)
unfolding make_verdict Valid with_zeros
valid-by (Ok tt) t h m full e =
    let three = none_true _ _ e in
    let twelve = none_true _ _ three.1 in
    (not-false _ three.0, valid_same (with_zeros h) h m refl (zeros-windows h full) ∙ not-false _ twelve.0)
valid-by (Err r) t h m full e = (standard-valid, standard-layer)

made-valid : (t : Thresholds) (h : Hours) (m : ℕ) → length h.windows ≡ most_windows → Valid (made_of t h m).after
unfolding made_of
made-valid t h m full = valid-by (make_verdict t h m) t h m full refl

made-by-same : (v : Verdict) (t : Thresholds) (g h : Hours) (m : ℕ) → with_zeros g ≡ with_zeros h → made_by v t g m ≡ made_by v t h m
made-by-same (Ok tt) t g h m e = rw e
made-by-same (Err r) t g h m e = refl

made-same : (t : Thresholds) (g h : Hours) (m : ℕ) → g.count ≡ h.count → windows_of g ≡ windows_of h → made_of t g m ≡ made_of t h m
unfolding made_of make_verdict with_zeros
made-same t g h m c w =
    let v = make_verdict t h m in
    let same : make_verdict t g m ≡ v = rw (valid_same g h m c w) in
    ap (λ (x : Verdict). taken x 0 (made_by x t g m)) same ∙ ap (taken v 0) (made-by-same v t g h m (rw (w, c)))

-- ---- said of the whole list at once

pub term-calls : TermCalls
unfolding Valid
term-calls = record { holds = holds_after; cuts = same-cuts; box-accepts = box-accepts; made = made-any; made-valid = made-valid; made-same = made-same }
