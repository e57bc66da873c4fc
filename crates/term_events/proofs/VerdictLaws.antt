-- The calls' verdicts: what an accepted run or close meets. Assumes nothing.
use Rattle.std.specs.Prelude.{Option, Err, Ok}
use Rattle.answers.specs.Refusal.{Verdict}
use Prim.Native.Nat.{ℕ, ◌/◌}
use mathlib.Core.Path.{◌≡◌, refl, ◌∙◌}
use mathlib.Core.Bool.{Bool, true, false, cond, ◌&&◌}
use mathlib.Core.List.{List, [], ◌∷◌, ◌++◌}
use borrow.Author.Tests.{not-false, eqb-true, ltb-false}
use lib.Dec.{eqb}
use lib.ListN.{length}
use Rattle.recognisers.specs.Threshold.{Thresholds}
use Rattle.answers.specs.declared.refusals.Refusal.TheVariants.{BadThreshold, BrokenBars}
use Rattle.recognisers.specs.Refusal.{Tried, broken_bars, bad_layer, first_true, next_after, feed_tried, feed_verdict, checked_tried}
use Rattle.answers.proofs.VerdictLaws.{none_true, accepts}
use Rattle.trading_hours.specs.declared.hours.Hours.{Hours}
use Rattle.trading_hours.specs.Hours.{valid_hours, term_length}
use Rattle.trading_hours.proofs.HourLaws.{both}
use Rattle.term_events.specs.declared.events.{Carried.Carried}
use Rattle.term_events.specs.Verdicts.{stamps_tried, sound_carried, valid_layer, run_tried, close_tried, run_verdict, close_verdict}

-- ---- the tests of a run: those that are checked as a feed's, and then those of the stamps

abbrev pub then_tried : Verdict → Verdict → Verdict
then_tried (Ok tt) v = v
then_tried (Err r) v = Err r

first-append : (xs ys : List Tried) → first_true (xs ++ ys) ≡ then_tried (first_true xs) (first_true ys)
unfolding first_true
first-append [] ys = refl
first-append (x ∷ xs) ys = go x.met (first-append xs ys)
  where
    go : (m : Bool) → first_true (xs ++ ys) ≡ then_tried (first_true xs) (first_true ys)
        → cond m (Err x.why) (first_true (xs ++ ys)) ≡ then_tried (cond m (Err x.why) (first_true xs)) (first_true ys)
    go true e = refl
    go false e = e

module _ (t : Thresholds) (valid : Bool) (n prices : ℕ) (stamps : List ℕ) (sheet : ℕ) (v : Verdict) (e : first_true (checked_tried t valid n prices (eqb (length stamps) (prices / 4)) true sheet) ≡ v) where
  abbrev as_feed : List Tried
  as_feed = next_after BadThreshold (bad_layer valid ∷ []) (next_after BrokenBars (broken_bars (eqb (length stamps) (prices / 4)) ∷ []) (feed_tried t n prices sheet))

  as-feed : first_true as_feed ≡ v
  unfolding checked_tried feed_tried next_after first_true
  as-feed = e

  pub run-checked : (h : Hours) (last : Option ℕ) → run_tried t valid h last n prices stamps sheet ≡ then_tried v (first_true (stamps_tried h last stamps))
  unfolding run_tried
  run-checked h last = first-append as_feed (stamps_tried h last stamps) ∙ rw as-feed

  pub checked-layer : v ≡ Ok tt → valid ≡ true
  unfolding checked_tried feed_tried next_after
  checked-layer a = not-false _ (none_true _ _ (none_true _ _ (e ∙ a)).1).0

-- ---- what an accepted call meets

-- the layer's hours, term length and carried bar keep the rules
pub record LayerMeets (h : Hours) (m : ℕ) (c : Carried) : Type 0 where
  pub hours : valid_hours h ≡ true
  pub minutes : term_length m ≡ true
  pub carried : sound_carried h c.last c.pending ≡ true

pub layer-meets : (h : Hours) (m : ℕ) (c : Carried) → valid_layer h m c ≡ true → LayerMeets h m c
unfolding valid_layer
layer-meets h m c e =
    let outer = both (valid_hours h && term_length m) (sound_carried h c.last c.pending) e in
    let inner = both (valid_hours h) (term_length m) outer.0 in
    record { hours = inner.0; minutes = inner.1; carried = outer.1 }

pub record RunMeets (t : Thresholds) (h : Hours) (m : ℕ) (c : Carried) (n prices : ℕ) (stamps : List ℕ) (sheet : ℕ) : Type 0 where
  pub layer : LayerMeets h m c
  pub one_each : length stamps ≡ prices / 4
  pub feed : feed_verdict t n prices sheet ≡ Ok tt
  pub rising : first_true (stamps_tried h c.last stamps) ≡ Ok tt

pub run-meets : (t : Thresholds) (h : Hours) (m : ℕ) (c : Carried) (n prices : ℕ) (stamps : List ℕ) (sheet : ℕ)
    → run_verdict t h m c n prices stamps sheet ≡ Ok tt → RunMeets t h m c n prices stamps sheet
unfolding run_tried feed_tried next_after
run-meets t h m c n prices stamps sheet none =
    let three = none_true _ _ none in
    let twelve = none_true _ _ three.1 in
    let four = none_true _ _ twelve.1 in
    let another = none_true _ _ four.1 in
    let five = none_true _ _ another.1 in
    let six = none_true _ _ five.1 in
    record {
      layer = layer-meets h m c (not-false _ twelve.0);
      one_each = eqb-true _ _ (not-false _ another.0);
      feed = accepts t n prices sheet (record { valid = not-false _ three.0; whole = eqb-true _ _ (not-false _ four.0); few = ltb-false _ _ five.0; room = ltb-false _ _ six.0 });
      rising = six.1;
    }

pub record CloseMeets (t : Thresholds) (h : Hours) (m : ℕ) (c : Carried) (n sheet : ℕ) : Type 0 where
  pub layer : LayerMeets h m c
  pub feed : feed_verdict t n 4 sheet ≡ Ok tt

pub close-meets : (t : Thresholds) (h : Hours) (m : ℕ) (c : Carried) (n sheet : ℕ) → close_verdict t h m c n sheet ≡ Ok tt → CloseMeets t h m c n sheet
unfolding close_tried feed_tried next_after
close-meets t h m c n sheet none =
    let three = none_true _ _ none in
    let twelve = none_true _ _ three.1 in
    let four = none_true _ _ twelve.1 in
    let five = none_true _ _ four.1 in
    let six = none_true _ _ five.1 in
    record {
      layer = layer-meets h m c (not-false _ twelve.0);
      feed = accepts t n 4 sheet (record { valid = not-false _ three.0; whole = refl; few = ltb-false _ _ five.0; room = ltb-false _ _ six.0 });
    }
