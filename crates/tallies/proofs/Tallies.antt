-- What every list of feeds with a tally leaves, from a box without bars and the fresh tally. Assumes nothing.
use Rattle.std.specs.Prelude.{Err, Ok}
use Rattle.answers.specs.Refusal.{Verdict}
use Prim.Native.Nat.{ℕ, ◌+◌, ◌*◌, ◌/◌, ◌≤◌, ◌<◌}
use mathlib.Core.Bool.{true}
use mathlib.Core.List.{List, [], ◌++◌, flatten}
use mathlib.Core.Path.{◌≡◌, refl, ap, sym, ◌∙◌}
use native.Mathlib.Nat.{zero-add, add-zero}
use native.Mathlib.Omega.{arith}
use lib.Dec.{eqb}
use lib.ListN.{length, get_or, take, drop}
use lib.Seq.{get_or-take, get_or-drop}
use Rattle.measures.specs.Bar.{Bar, bars_of}
use Rattle.recognisers.specs.Number.{recognisers, labels, row_bytes}
use Rattle.recognisers.specs.Label.{code_of}
use Rattle.recognisers.specs.Table.{pair_at, codes_of}
use Rattle.recognisers.specs.Threshold.{Thresholds}
use Rattle.box_record.specs.declared.boxes.BarBox.{BarBox}
use Rattle.bar_box.specs.Sheet.{rows_of}
use Rattle.bar_box.specs.Box.{taken_in, fed_of, sheet_of}
use Rattle.recognisers.specs.Refusal.{leaves}
use Rattle.bar_box.specs.Calls.{after, each}
use Rattle.bar_box.specs.History.{Feed, verdict_on, appended, history_after, fed, box_left, rows_in, joined_rows, one_feed, NoBars}
use Rattle.bar_box.proofs.SheetLaws.{length-rows, rows_append}
use Rattle.bar_box.proofs.RowPairs.{pair-in}
use Rattle.bar_box.proofs.FeedSteps.{count-after, verdict-step, box-step, rows_step}
use Rattle.bar_box.proofs.CallLists.{after-follows, each-follows}
use Rattle.bar_box.proofs.FeedLists.{sound_empty, sound-after, Follows, box_follows, at-start, box-after, rows-after, one-rows}
use Rattle.bar_box.proofs.Demand3.{demand-3}
use Rattle.tallies.specs.declared.table.TallyRow.{TallyRow}
use Rattle.tallies.specs.Tally.{fresh_tally, counts_of, cell_of, adds_up, v1_in, rows_with, gained, counted}
use Rattle.tallies.specs.Feed.{verdict_with, tallied_of, tallied_sheet}
use Rattle.tallies.specs.History.{WithTally, both_left, tally_after, rows_written, bars_with, TallyHolds, Tallies}
use Rattle.tallies.proofs.PlaceLaws.{at_place}
use Rattle.tallies.proofs.TallyLaws.{row-adds, counts-gained, gained-same}
use Rattle.tallies.proofs.CountLaws.{count_same}
use Rattle.tallies.proofs.RowLaws.{rows-known, fresh-shaped, fresh-cell, fresh-adds, counted-shaped, counted-adds, none-counted, counted-append}
use Rattle.tallies.proofs.FeedLaws.{plain-verdict}

-- ---- the tally that a history leaves

-- its rows, counted from nothing
abbrev pub tally_of : Thresholds → List Bar → List TallyRow
tally_of t h = counted (rows_of t 0 [] h) fresh_tally

-- before the first bar the tally is the fresh one
pub tally-none : (t : Thresholds) → tally_of t [] ≡ fresh_tally
unfolding rows_of
tally-none t = none-counted fresh_tally

-- each row adds up to the history's count
pub tally-adds : (t : Thresholds) (h : List Bar) → adds_up (length h) (tally_of t h) ≡ true
tally-adds t h =
    let rows = rows_of t 0 [] h in
    let size : 0 + length rows / row_bytes ≡ length h = omega (arith, length-rows t 0 [] h) in
    rw size at (counted-adds fresh_tally fresh-shaped rows 0 (rows-known t 0 [] h) fresh-adds)

-- by the verdict of a feed, the tally after it is that of the history after it
tally-by : (t : Thresholds) (v : Verdict) (h bars : List Bar)
    → leaves v (tally_of t h) (counted (leaves v [] (rows_of t (length h) h bars)) (tally_of t h)) ≡ tally_of t (leaves v h (h ++ bars))
tally-by t (Ok tt) h bars =
    counted-append fresh_tally fresh-shaped (rows_of t 0 [] h) (rows_of t (length h) h bars) (length h) (length-rows t 0 [] h)
    ∙ ap (λ (rows : List ℕ). counted rows fresh_tally) (sym (rows_append t 0 [] h bars ∙ rw zero-add))
tally-by t (Err r) h bars = refl

-- ---- one feed to the box and tally that a history left

module _ (b : BarBox) (start : NoBars b) where
  abbrev t : Thresholds
  t = b.thresholds

  abbrev tally : List Bar → List TallyRow
  tally h = tally_of t h

  -- the tally adds up, so that the verdict is that of the feed without one
  verdict-with : (h : List Bar) (f : Feed) → verdict_with (taken_in b h) (tally h) f ≡ (fed (taken_in b h) f).verdict
  unfolding fed_of
  verdict-with h f =
      plain-verdict t (taken_in b h).count (tally h) (length f.prices) (length f.sheet) (rw (count-after b start h) (tally-adds t h))

  -- a refusal leaves what was there, as the feed without a tally does
  leaves-fed : (v : Verdict) (h : List Bar) (f : Feed) → (fed (taken_in b h) f).verdict ≡ v → leaves v (taken_in b h) (fed (taken_in b h) f).after ≡ (fed (taken_in b h) f).after
  unfolding fed_of
  leaves-fed (Ok tt) h f e = refl
  leaves-fed (Err r) h f e = rw e

  leaves-sheet : (v : Verdict) (h : List Bar) (f : Feed) → (fed (taken_in b h) f).verdict ≡ v → leaves v f.sheet (sheet_of (taken_in b h) f.prices f.sheet) ≡ sheet_of (taken_in b h) f.prices f.sheet
  unfolding fed_of sheet_of
  leaves-sheet (Ok tt) h f e = refl
  leaves-sheet (Err r) h f e = rw e

  -- what it leaves
  pub tallied-step : (h : List Bar) (f : Feed)
      → tallied_of (taken_in b h) (tally h) f ≡ record { verdict = (fed (taken_in b h) f).verdict; after = taken_in b (appended t h f); tally = tally (appended t h f) }
  unfolding tallied_of
  tallied-step h f =
      let after = leaves-fed (fed (taken_in b h) f).verdict h f refl ∙ box-step b start h f in
      let counts : leaves (fed (taken_in b h) f).verdict (tally h) (counted (rows_in (taken_in b h) f) (tally h)) ≡ tally (appended t h f) =
      rw (rows_step b start h f, verdict-step b start h f) (tally-by t (verdict_on t h f) h (bars_of f.prices)) in
      rw (verdict-with h f, after, counts)

  pub sheet-step : (h : List Bar) (f : Feed) → tallied_sheet (taken_in b h) (tally h) f ≡ sheet_of (taken_in b h) f.prices f.sheet
  unfolding tallied_sheet
  sheet-step h f = rw (verdict-with h f) (leaves-sheet (fed (taken_in b h) f).verdict h f refl)

  -- ---- every list of feeds, after a history

  -- box and tally follow the history
  abbrev Both : WithTally → List Bar → Type 0
  Both s h = s ≡ (taken_in b h, tally h)

  both-follow : (s : WithTally) (h : List Bar) (f : Feed) → Both s h → Both (both_left s f) (appended t h f)
  both-follow s h f e = rw (e, tallied-step h f)

  both-start : Both (b, fresh_tally) []
  both-start = rw (tally-none t, ← at-start b start)

  both-after : (fs : List Feed) → Both (after both_left (b, fresh_tally) fs) (history_after t [] fs)
  both-after fs = after-follows both_left (appended t) Both both-follow (b, fresh_tally) [] fs both-start

  -- beside a list of feeds without a tally each feed gives the same
  beside : {A : Type 0} (gives : WithTally → Feed → A) (plain : BarBox → Feed → A) → ((h : List Bar) (f : Feed) → gives (taken_in b h, tally h) f ≡ plain (taken_in b h) f)
      → (fs : List Feed) → each both_left gives (b, fresh_tally) fs ≡ each box_left plain b fs
  beside gives plain agree fs =
      each-follows both_left (appended t) Both both-follow gives (λ h. plain (taken_in b h)) (λ s h f e. rw e (agree h f)) (b, fresh_tally) [] fs both-start
      ∙ sym (each-follows box_left (appended t) (Follows b start) (box_follows b start) plain (λ h. plain (taken_in b h)) (λ x h f e. rw e) b [] fs (at-start b start))

-- ---- what the cells are

-- a cell of the tally that rows leave is the number of rows that have its code
cell-rows : (rows : List ℕ) (k c : ℕ) → k < recognisers → c < labels → cell_of (counted rows fresh_tally) k c ≡ rows_with rows k c
unfolding counted
cell-rows rows k c known label =
    let inside : k < length fresh_tally = omega (arith, fresh-shaped.0) in
    let wide : c < length (counts_of fresh_tally k) = omega (arith, fresh-shaped.1 k known) in
    rw (counts-gained (rows_with rows) fresh_tally k inside)
    (at_place (λ c count. count + rows_with rows k c) 0 (counts_of fresh_tally k) c 0 wide ∙ rw (fresh-cell k c known label) (zero-add (rows_with rows k (0 + c)) ∙ rw zero-add))

-- v1 of a recogniser in the row of place i of a history is that of its pair over the history up to that bar
code_in : (t : Thresholds) (h : List Bar) (i k : ℕ) → i < length h → k < recognisers → v1_in (rows_of t 0 [] h) i k ≡ code_of (pair_at k t (i + 1) (take (i + 1) h) 1).v1
unfolding codes_of
code_in t h i k lt known =
    let rows = rows_of t 0 [] h in
    let place = row_bytes * i + 2 * k in
    sym (get_or-take 2 (drop place rows) 0 0 (omega arith) ∙ get_or-drop place rows 0 0 ∙ rw add-zero) ∙ ap (λ (bytes : List ℕ). get_or bytes 0 0) (pair-in t h i k lt known)

rows-bars : (t : Thresholds) (h : List Bar) (k c : ℕ) → k < recognisers → rows_with (rows_of t 0 [] h) k c ≡ bars_with t h k c
unfolding rows_with bars_with
rows-bars t h k c known =
    let size : length (rows_of t 0 [] h) / row_bytes ≡ length h = omega (arith, length-rows t 0 [] h) in
    rw size (count_same (λ i. eqb (v1_in (rows_of t 0 [] h) i k) c) (λ i. eqb (code_of (pair_at k t (i + 1) (take (i + 1) h) 1).v1) c) (length h) (λ i lt. rw (code_in t h i k lt known)))

-- so that the tally of a history counts its bars by the rules
pub tally-bars : (t : Thresholds) (h : List Bar) → tally_of t h ≡ gained (bars_with t h) fresh_tally
unfolding counted
tally-bars t h =
    gained-same (rows_with (rows_of t 0 [] h)) (bars_with t h) fresh_tally (λ k c inside wide. rows-bars t h k c (omega (arith, fresh-shaped.0)))

-- ---- the theorem

module _ (b : BarBox) (start : NoBars b) (fs : List Feed) where
  abbrev joined : List Bar
  joined = history_after b.thresholds [] fs

  -- what is said after a history, of the box without bars and the fresh tally
  from-fresh : {A : Type 0} (F G : BarBox → List TallyRow → A) → F (taken_in b []) (tally_of b.thresholds []) ≡ G (taken_in b []) (tally_of b.thresholds []) → F b fresh_tally ≡ G b fresh_tally
  from-fresh F G e = rw (tally-none b.thresholds, ← at-start b start) at e

  joined-tally : tally_after b fresh_tally fs ≡ tally_of b.thresholds joined
  joined-tally = ap (λ (s : WithTally). s.1) (both-after b start fs)

  joined-rows : joined_rows b fs ≡ rows_of b.thresholds 0 [] joined
  joined-rows = rows-after b start fs

  module _ (sheet : List ℕ) (room : row_bytes * length joined ≤ length sheet) where
    abbrev one : Feed
    one = one_feed joined sheet

    -- one feed of the joined history: where it is refused there is no row
    one-by : (v : Verdict) → (fed b one).verdict ≡ v → leaves v fresh_tally (counted (rows_in b one) fresh_tally) ≡ counted (rows_in b one) fresh_tally
    one-by (Ok tt) e = refl
    one-by (Err r) e = sym (rw e (none-counted fresh_tally))

    one-tally : (tallied_of b fresh_tally one).tally ≡ tally_of b.thresholds joined
    unfolding tallied_of
    one-tally =
        let sound = sound-after b.thresholds [] fs (sound_empty b.thresholds) in
        let same : verdict_with b fresh_tally one ≡ (fed b one).verdict = from-fresh (λ x tally. verdict_with x tally one) (λ x tally. (fed x one).verdict) (verdict-with b start [] one) in
        rw same (one-by (fed b one).verdict refl ∙ ap (λ (rows : List ℕ). counted rows fresh_tally) (one-rows b start joined sheet sound room))

    tallies-hold : TallyHolds b fs joined sheet
    tallies-hold =
        let h = joined in
        let t = b.thresholds in
        record {
          same-verdicts = beside b start (λ s f. (tallied_of s.0 s.1 f).verdict) (λ x f. (fed x f).verdict) (λ h f. rw (tallied-step b start h f)) fs;
          same-sheets = beside b start (λ s f. tallied_sheet s.0 s.1 f) (λ x f. sheet_of x f.prices f.sheet) (sheet-step b start) fs;
          same_rows = ap flatten (beside b start rows_written rows_in (λ h f. rw (sheet-step b start h f, tallied-step b start h f)) fs);
          same-box = ap (λ (s : WithTally). s.0) (both-after b start fs) ∙ sym (box-after b start fs);
          demand-3 = demand-3.holds b start fs sheet room;
          -- "each row adds up to the number of bars fed"
          sums = λ k known. rw joined-tally (row-adds (length h) (tally_of t h) (tally-adds t h) k (omega (arith, (counted-shaped fresh_tally fresh-shaped (rows_of t 0 [] h)).0)));
          -- "each cell is the number of sheet rows with that code"
          cells = λ k c known label. rw (joined-tally, joined-rows) (cell-rows (rows_of t 0 [] h) k c known label);
          by-rules = λ k c known label. rw joined-tally (cell-rows (rows_of t 0 [] h) k c known label ∙ rows-bars t h k c known);
          same-tally = joined-tally ∙ sym one-tally;
        }

pub tallies : Tallies
tallies = tallies-hold
