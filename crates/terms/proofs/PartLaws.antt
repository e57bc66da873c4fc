-- The parts of a run whose feed is accepted, one after the other: each ends term bars, which are fed behind those before them. Assumes nothing.
use Rattle.std.specs.Prelude.{Ok}
use Prim.Native.Nat.{ℕ, ◌+◌, ◌*◌, ◌/◌, ◌≤◌, ◌<◌}
use mathlib.Core.Path.{◌≡◌, ap, sym, ◌∙◌}
use mathlib.Core.List.{List, ◌++◌}
use native.Mathlib.Omega.{arith}
use lib.ListN.{length, take, drop, length-append, length-take, length-drop}
use lib.Seq.{take_at, take_all}
use lib.Ieee.{Float}
use Rattle.measures.specs.Bar.{Bar, bars_of, prices_of}
use Rattle.measures.proofs.RunLaws.{length-bars}
use Rattle.measures.proofs.PriceLaws.{length-prices, bars-prices}
use Rattle.measures.proofs.Overlay.{length-overlay}
use Rattle.recognisers.specs.Number.{row_bytes, most_bars}
use Rattle.recognisers.specs.Threshold.{Thresholds}
use Rattle.recognisers.specs.Refusal.{feed_verdict}
use Rattle.bar_box.proofs.FeedSteps.{fits}
use Rattle.trading_hours.specs.declared.hours.Hours.{Hours}
use Rattle.term_events.specs.declared.events.{Carried.Carried, Passed.Passed}
use Rattle.term_events.specs.Events.{Event, ended_of, carried_of, minutes_of}
use Rattle.term_events.specs.EventSteps.{Ready, end_after, pass_of}
use Rattle.term_events.proofs.EventLaws.{ended-few, length-minutes, ended-more, carried-more}
use Rattle.term_events.proofs.StepLaws.{PassedBy, minutes-drop, ready-after, passed-by}
use Rattle.box_record.specs.declared.boxes.BarBox.{BarBox}
use Rattle.terms.specs.declared.layers.Layer.{Layer}
use Rattle.terms.specs.Layer.{layer_with}
use Rattle.terms.proofs.FeedLaws.{some-accepted, some-room}

module _ (h : Hours) (m : ℕ) (c : Carried) (ps : List Float) (ss : List ℕ) where
  -- the events, and the term bars that end and what is carried on up to one
  abbrev pub events : List Event
  events = minutes_of ss (bars_of ps)

  abbrev pub ended_to : ℕ → List Bar
  ended_to done = ended_of h m c (take done events)

  abbrev pub carried_to : ℕ → Carried
  carried_to done = carried_of h m c (take done events)

  -- what is known of the next part: it passes some bars, and its term bars are accepted behind the old ones
  pub record PartFits (t : Thresholds) (n sheet done : ℕ) (f : Passed) (run : List Float) : Type 0 where
    pub some : done < f.at
    pub within : f.at ≤ length ss
    pub enough : 4 * f.count ≤ length run
    pub few : length (ended_to done) + f.count ≤ most_bars
    pub accepted : feed_verdict t (n + length (ended_to done)) (4 * f.count) (row_bytes * f.count) ≡ Ok tt
    pub room : row_bytes * (length (ended_to done) + f.count) ≤ sheet
    pub count : length (bars_of (take (4 * f.count) run)) ≡ f.count
    pub ended : ended_to f.at ≡ ended_to done ++ bars_of (take (4 * f.count) run)
    pub carried : f.carried ≡ carried_to f.at

  module _ (each : length ss ≡ length (bars_of ps)) where
    -- what passing from the next bar on leaves
    passed-part : Ready h m c ss → (done : ℕ) → done < length ss → (run : List Float)
        → PassedBy h m (carried_to done) (drop done events) done 0 run (pass_of h m (bars_of ps) (carried_to done) (end_after h m (carried_to done).last) done 0 run (drop done ss))
    passed-part ready done less run =
        rw (← minutes-drop done ss (bars_of ps)) at (passed-by h m (bars_of ps) (carried_to done) done 0 run (drop done ss) (ready-after h m c ss (bars_of ps) done each ready) (rw length-drop (omega arith)) (omega arith))

    part_of : (t : Thresholds) (n sheet : ℕ) → feed_verdict t n (length ps) sheet ≡ Ok tt → (done : ℕ) → done < length ss → (run : List Float) → 4 ≤ length run
        → (r : Passed × List Float) → PassedBy h m (carried_to done) (drop done events) done 0 run r → PartFits t n sheet done r.0 r.1
    part_of t n sheet e done less run some r by =
        let old = ended_to done in
        let p = by.passed in
        let new = ended_of h m (carried_to done) (take p (drop done events)) in
        let size = length-minutes ss (bars_of ps) each in
        let rest = length-drop done events in
        let both-ended : ended_to r.0.at ≡ old ++ new = rw by.at (ended-more h m c events done p) in
        let count : r.0.count ≡ length new = omega (arith, by.ended) in
        let four = length-prices new in
        let front : take (4 * r.0.count) r.1 ≡ prices_of new = rw by.prices (take_at (prices_of new) (drop (0 + length (prices_of new)) run) (4 * r.0.count) (omega arith)) in
        let bars-are : bars_of (take (4 * r.0.count) r.1) ≡ new = ap bars_of front ∙ bars-prices new in
        let sum : length old + r.0.count ≤ length ps / 4 = omega (arith, length-append old new, ap length both-ended, ended-few h m c (take r.0.at events), length-take r.0.at events, length-bars ps) in
        record {
          some = omega (arith, by.at, by.some (omega arith) (omega arith));
          within = omega (arith, by.at, by.within);
          enough = rw (by.prices, length-overlay run 0 (prices_of new) (omega (arith, by.few))) (omega (arith, by.few));
          few = omega (arith, (fits _ _ _ _ e).few);
          accepted = some-accepted _ _ _ _ e (length old) r.0.count sum;
          room = some-room _ _ _ _ e (length old) r.0.count sum;
          count = rw bars-are (sym count);
          ended = rw bars-are both-ended;
          carried = by.carried ∙ sym (rw by.at (carried-more h m c events done p));
        }

    -- as the code has it, which takes hours, term length and what is carried from the layer
    pub part-fits : Ready h m c ss → (t : Thresholds) (n sheet : ℕ) → feed_verdict t n (length ps) sheet ≡ Ok tt
        → (done : ℕ) → done < length ss → (run : List Float) → 4 ≤ length run → (now : Layer) (b : BarBox) → now ≡ layer_with h m (carried_to done) b → (f : Passed) (left : List Float)
        → let r = pass_of now.hours now.minutes (bars_of ps) now.carried (end_after now.hours now.minutes now.carried.last) done 0 run (drop done ss) in (f ≡ r.0) × (left ≡ r.1)
        → PartFits t n sheet done f left
    part-fits ready t n sheet e done less run some now b is f left made = rw (made.0, made.1, is) (part_of t n sheet e done less run some _ (passed-part ready done less run))

    -- past the last part
    pub all-passed : (done : ℕ) → length ss ≤ done → take done events ≡ events
    all-passed done past = take_all done events (omega (arith, length-minutes ss (bars_of ps) each))

-- the layer with another box and another bar carried
pub layer-next : (h : Hours) (m : ℕ) (c : Carried) (b : BarBox) (now : Layer) → now ≡ layer_with h m c b → {x y : BarBox} {p q : Carried} → x ≡ y → p ≡ q
    → layer_with now.hours now.minutes p x ≡ layer_with h m q y
layer-next h m c b now is box carried = rw (is, box, carried)
