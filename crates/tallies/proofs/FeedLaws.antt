-- A feed with a tally beside one without: its verdict, and what an accepted one leaves. Assumes nothing.
use Rattle.std.specs.Prelude.{Err, Ok}
use Rattle.answers.specs.Refusal.{Verdict}
use Prim.Native.Nat.{ℕ, ◌+◌, ◌*◌}
use mathlib.Core.Bool.{true}
use mathlib.Core.List.{List}
use mathlib.Core.Path.{◌≡◌, refl, sym, ◌∙◌}
use borrow.Author.Tests.{not-false}
use lib.ListN.{length, take, drop}
use lib.Seq.{take_at}
use Rattle.measures.specs.Bar.{bars_of}
use Rattle.recognisers.specs.Number.{row_bytes}
use Rattle.recognisers.specs.Threshold.{Thresholds}
use Rattle.recognisers.specs.Refusal.{first_true, next_after, feed_tried, feed_verdict}
use Rattle.answers.specs.declared.refusals.Refusal.{Refusal}
use Rattle.box_record.specs.declared.boxes.BarBox.{BarBox}
use Rattle.bar_box.specs.Sheet.{rows_of}
use Rattle.bar_box.specs.Box.{kept, taken_in, fed_of, sheet_of}
use Rattle.bar_box.specs.History.{Feed, fed}
use Rattle.bar_box.proofs.SheetLaws.{length-rows}
use Rattle.bar_box.proofs.FeedSteps.{none_true}
use Rattle.tallies.specs.declared.table.TallyRow.{TallyRow}
use Rattle.tallies.specs.Tally.{adds_up, counted}
use Rattle.tallies.specs.Feed.{tally_verdict, verdict_with, tallied_of, answered, verdict_in}

-- ---- the verdict

module _ (t : Thresholds) (n : ℕ) (tally : List TallyRow) (prices : ℕ) where
  -- where the tally adds up, the verdict is that of a feed without one
  pub plain-verdict : (sheet : ℕ) → adds_up n tally ≡ true → tally_verdict t n tally prices sheet ≡ feed_verdict t n prices sheet
  unfolding tally_verdict feed_verdict feed_tried next_after first_true
  plain-verdict sheet adds = rw adds

  -- where it is accepted, the tally adds up
  pub accepted-adds : (sheet : ℕ) → tally_verdict t n tally prices sheet ≡ Ok tt → adds_up n tally ≡ true
  unfolding tally_verdict feed_tried next_after
  accepted-adds sheet e =
      let three = none_true _ _ e in
      let four = none_true _ _ three.1 in
      let five = none_true _ _ four.1 in
      not-false _ (none_true _ _ five.1).0

-- ---- what a feed leaves

module _ (b : BarBox) (tally : List TallyRow) (f : Feed) where
  pub tallied-refused : (r : Refusal) → verdict_with b tally f ≡ Err r → tallied_of b tally f ≡ record { verdict = Err r; after = b; tally = tally }
  unfolding tallied_of
  tallied-refused r e = rw e

  -- the verdict of the same feed without a tally
  pub accepted-plain : verdict_with b tally f ≡ Ok tt → feed_verdict b.thresholds b.count (length f.prices) (length f.sheet) ≡ Ok tt
  accepted-plain e =
      sym (plain-verdict b.thresholds b.count tally (length f.prices) (length f.sheet) (accepted-adds b.thresholds b.count tally (length f.prices) (length f.sheet) e)) ∙ e

  module _ (e : verdict_with b tally f ≡ Ok tt) where
    abbrev rows : List ℕ
    rows = rows_of b.thresholds b.count (kept b) (bars_of f.prices)

    -- the box after it
    pub fed-after : (fed b f).after ≡ taken_in b (bars_of f.prices)
    unfolding fed_of
    fed-after = rw (accepted-plain e)

    -- the rows that it writes
    pub rows_written : take (row_bytes * length (bars_of f.prices)) (sheet_of b f.prices f.sheet) ≡ rows
    unfolding sheet_of
    rows_written =
        rw (accepted-plain e) (take_at rows (drop (0 + length rows) f.sheet) (row_bytes * length (bars_of f.prices)) (length-rows b.thresholds b.count (kept b) (bars_of f.prices)))

    pub tallied-accepted : tallied_of b tally f ≡ record { verdict = Ok tt; after = taken_in b (bars_of f.prices); tally = counted rows tally }
    unfolding tallied_of fed_of
    tallied-accepted = rw (e, accepted-plain e, rows_written)

-- ---- what it answers

-- the verdict in the answer to it
pub verdict-answered : (v : Verdict) (tally : List TallyRow) → verdict_in (answered v tally) ≡ v
verdict-answered (Ok tt) tally = refl
verdict-answered (Err r) tally = refl
