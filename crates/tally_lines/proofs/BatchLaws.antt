-- Bars that are fed at once leave what feeding them one by one does. Assumes nothing.
use Rattle.std.specs.Prelude.{Err, Ok}
use Rattle.answers.specs.Refusal.{Verdict}
use Prim.Native.Nat.{ℕ, suc, ◌+◌, ◌*◌, ◌/◌, ◌%◌, ◌≤◌, ◌<◌}
use mathlib.Core.Bool.{true}
use mathlib.Core.List.{List, [], ◌∷◌, ◌++◌}
use mathlib.Core.Path.{◌≡◌, refl, sym, ◌∙◌}
use native.Mathlib.Decide.{dec_le}
use native.Mathlib.Omega.{arith}
use borrow.Author.Tests.{eq-eqb, le-ltb}
use lib.ListN.{length}
use lib.Ieee.{Float}
use Rattle.measures.specs.Bar.{Bar, bars_of, prices_of}
use Rattle.answers.specs.declared.refusals.Refusal.{Refusal}
use Rattle.recognisers.specs.Number.{row_bytes, most_bars, places}
use Rattle.recognisers.specs.Refusal.{bad_threshold, too_many_bars, first_true, next_after, leaves, feed_tried}
use Rattle.recognisers.specs.Threshold.{valid_of}
use Rattle.box_record.specs.declared.boxes.BarBox.{BarBox}
use Rattle.bar_box.specs.Box.{numbered, held, taken_in}
use Rattle.bar_box.proofs.BoxLaws.{length-laid, taken-append}
use Rattle.bar_box.proofs.FeedSteps.{fits}
use Rattle.tallies.specs.declared.table.TallyRow.{TallyRow}
use Rattle.tallies.specs.Tally.{Shaped, adds_up, counted}
use Rattle.tallies.specs.Feed.{Tallied, lent, wrong_tally, tally_verdict, verdict_with, tallied_of, table_answer}
use Rattle.tallies.proofs.RowLaws.{counted-shaped}
use Rattle.tallies.proofs.FeedLaws.{accepted-adds, accepted-plain, tallied-refused, tallied-accepted}
use Rattle.tallies.proofs.PartLaws.{rows_from, parts_add, parts-counted}
use Rattle.bar_box.specs.History.{Feed, fed, rows_in}
use Rattle.tally_lines.specs.Session.{bar_feed, fed_all}
use Rattle.tally_lines.specs.SessionSteps.{fed_by}

-- ---- the verdict of so many whole bars on a sheet that is long enough
abbrev verdict_for : BarBox → List TallyRow → ℕ → Verdict
verdict_for b tally n = first_true (bad_threshold b.thresholds ∷ too_many_bars (b.count + n) ∷ wrong_tally b.count tally ∷ [])

module _ (b : BarBox) (tally : List TallyRow) where
  verdict-bars : (n prices sheet : ℕ) → prices ≡ 4 * n → row_bytes * n ≤ sheet → tally_verdict b.thresholds b.count tally prices sheet ≡ verdict_for b tally n
  unfolding tally_verdict feed_tried next_after first_true
  verdict-bars n prices sheet is room =
      let whole : prices % 4 ≡ 0 = omega arith in
      let bars : prices / 4 ≡ n = omega arith in
      rw (eq-eqb (prices % 4) 0 whole, bars, le-ltb sheet (row_bytes * n) room)

  one-verdict : (bar : Bar) → verdict_with b tally (bar_feed bar) ≡ verdict_for b tally 1
  unfolding prices_of
  one-verdict bar = verdict-bars 1 4 row_bytes refl (omega arith)

  -- the first bar alone is refused as all are, if there is room for all or it is the only one
  same-verdict : (n : ℕ) → 1 ≤ n → (1 < n → b.count + n ≤ most_bars) → verdict_for b tally 1 ≡ verdict_for b tally n
  unfolding first_true
  same-verdict n some few =
      elim (dec_le 2 n) [
        | yes more ↦ (let all = few more in rw (le-ltb most_bars (b.count + 1) (omega arith), le-ltb most_bars (b.count + n) all))
        | no alone ↦ (let one : n ≡ 1 = omega arith in rw one)
      ]

-- ---- accepted bars

-- what they leave
abbrev all_taken : BarBox → List TallyRow → List Bar → Tallied
all_taken b tally bars = record { verdict = Ok tt; after = taken_in b bars; tally = counted (rows_from b bars) tally }

-- none of the refusals that concern so many bars is true
record Fit (b : BarBox) (tally : List TallyRow) (n : ℕ) : Type 0 where
  valid : valid_of b.thresholds ≡ true
  few : b.count + n ≤ most_bars
  adds : adds_up b.count tally ≡ true

fit-accepted : (b : BarBox) (tally : List TallyRow) (n : ℕ) → Fit b tally n → verdict_for b tally n ≡ Ok tt
unfolding first_true
fit-accepted b tally n f = rw (f.valid, le-ltb most_bars (b.count + n) f.few, f.adds)

one-taken : (b : BarBox) (tally : List TallyRow) (bar : Bar) → verdict_for b tally 1 ≡ Ok tt → tallied_of b tally (bar_feed bar) ≡ all_taken b tally (bar ∷ [])
unfolding bars_of prices_of
one-taken b tally bar e = tallied-accepted b tally (bar_feed bar) (one-verdict b tally bar ∙ e)

all-fed : (b : BarBox) → length b.bars ≡ places → (tally : List TallyRow) → Shaped tally → (bar : Bar) (bars : List Bar) → Fit b tally (suc (length bars))
    → fed_all b tally (bar ∷ bars) ≡ all_taken b tally (bar ∷ bars)
unfolding fed_all
all-fed b all tally shaped bar [] f = rw (one-taken b tally bar (fit-accepted b tally 1 f))
all-fed b all tally shaped bar (next ∷ bars) f =
    let first = bar ∷ [] in
    let count = f.few in
    let one : Fit b tally 1 = record { valid = f.valid; few = omega arith; adds = f.adds } in
    let rest : Fit (taken_in b first) (counted (rows_from b first) tally) (suc (length bars)) =
    record { valid = f.valid; few = omega arith; adds = parts_add b all tally shaped first f.adds } in
    let later = all-fed (taken_in b first) (length-laid b.bars (held b ++ numbered b.count first) all) (counted (rows_from b first) tally) (counted-shaped tally shaped (rows_from b first)) next bars rest in
    rw (one-taken b tally bar (fit-accepted b tally 1 one), later, taken-append b all first (next ∷ bars), parts-counted b all tally shaped first (next ∷ bars))

-- ---- refused ones: the first of them is, and no more is fed
first-refused : (b : BarBox) (tally : List TallyRow) (bar : Bar) (bars : List Bar) (r : Refusal) → tallied_of b tally (bar_feed bar) ≡ record { verdict = Err r; after = b; tally = tally }
    → fed_all b tally (bar ∷ bars) ≡ record { verdict = Err r; after = b; tally = tally }
unfolding fed_all
first-refused b tally bar bars r e = rw e

-- ---- by the verdict
module _ (b : BarBox) (all : length b.bars ≡ places) (tally : List TallyRow) (shaped : Shaped tally) (ps : List Float) (sheet : List ℕ) where
  by-verdict : (bars : List Bar) → bars_of ps ≡ bars → length ps ≡ 4 * length bars → 1 ≤ length bars → (1 < length bars → b.count + length bars ≤ most_bars)
      → row_bytes * length bars ≤ length sheet → (v : Verdict) → verdict_for b tally (length bars) ≡ v → tallied_of b tally (lent ps sheet) ≡ fed_all b tally bars
  by-verdict [] is whole some few room v e = absurd (let z : ⊥ = omega arith in z)
  by-verdict (bar ∷ bars) is whole some few room (Err r) e =
      let first = tallied-refused b tally (bar_feed bar) r (one-verdict b tally bar ∙ same-verdict b tally (suc (length bars)) some few ∙ e) in
      let both = tallied-refused b tally (lent ps sheet) r (verdict-bars b tally (suc (length bars)) (length ps) (length sheet) whole room ∙ e) in
      both ∙ sym (first-refused b tally bar bars r first)
  by-verdict (bar ∷ bars) is whole some few room (Ok tt) e =
      let accepted : verdict_with b tally (lent ps sheet) ≡ Ok tt = verdict-bars b tally (suc (length bars)) (length ps) (length sheet) whole room ∙ e in
      let met = fits b.thresholds b.count (length ps) (length sheet) (accepted-plain b tally (lent ps sheet) accepted) in
      let f : Fit b tally (suc (length bars)) =
      record { valid = met.valid; few = omega (arith, met.few); adds = accepted-adds b.thresholds b.count tally (length ps) (length sheet) accepted } in
      tallied-accepted b tally (lent ps sheet) accepted ∙ rw is (sym (all-fed b all tally shaped bar bars f))

  pub batch-fed : length ps ≡ 4 * length (bars_of ps) → 1 ≤ length (bars_of ps) → (1 < length (bars_of ps) → b.count + length (bars_of ps) ≤ most_bars)
      → row_bytes * length (bars_of ps) ≤ length sheet → tallied_of b tally (lent ps sheet) ≡ fed_all b tally (bars_of ps)
  batch-fed whole some few room = by-verdict (bars_of ps) refl whole some few room (verdict_for b tally (length (bars_of ps))) refl

-- ---- a feed is what its answer and its box say, beside the tally before
pub fed-by : (b : BarBox) (tally : List TallyRow) (f : Feed) → tallied_of b tally f ≡ fed_by (table_answer (tallied_of b tally f)) (tallied_of b tally f).after tally
unfolding tallied_of
fed-by b tally f = go (verdict_with b tally f)
  where
    go : (v : Verdict) → let o : Tallied = record { verdict = v; after = leaves v b (fed b f).after; tally = leaves v tally (counted (rows_in b f) tally) } in
        o ≡ fed_by (table_answer o) o.after tally
    go (Ok tt) = refl
    go (Err r) = refl

-- ---- and its box keeps all places
pub tallied-full : (b : BarBox) → length b.bars ≡ places → (tally : List TallyRow) (f : Feed) → length (tallied_of b tally f).after.bars ≡ places
tallied-full b all tally f = go (verdict_with b tally f) refl
  where
    go : (v : Verdict) → verdict_with b tally f ≡ v → length (tallied_of b tally f).after.bars ≡ places
    go (Ok tt) e = rw (tallied-accepted b tally f e) (length-laid b.bars (held b ++ numbered b.count (bars_of f.prices)) all)
    go (Err r) e = rw (tallied-refused b tally f r e) all

-- ---- no bars
none-bars : (ps : List Float) → length ps ≡ 0 → bars_of ps ≡ []
unfolding bars_of
none-bars [] e = refl
none-bars (p ∷ ps) e = absurd (let z : ⊥ = omega arith in z)

pub none-fed : (b : BarBox) (tally : List TallyRow) (ps : List Float) → length ps ≡ 0 → record { verdict = Ok tt; after = b; tally = tally } ≡ fed_all b tally (bars_of ps)
unfolding fed_all
none-fed b tally ps e = rw (none-bars ps e)
