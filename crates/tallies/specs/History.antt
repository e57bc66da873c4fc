-- What a list of feeds with a tally leaves, said of the list at once. The first part follows the calls; the second says what holds of them,
-- beside the same list of feeds without a tally, the joined history and the joined rows of demand 3.
use Rattle.answers.specs.Refusal.{Verdict}
use Rattle.std.specs.Prelude.{ℕ, ◌+◌, ◌*◌, ◌≤◌, ◌<◌, List, [], ◌≡◌, eqb, length, take}
use Rattle.measures.specs.Bar.{Bar, bars_of}
use Rattle.recognisers.specs.Number.{recognisers, labels, row_bytes}
use Rattle.recognisers.specs.Label.{code_of}
use Rattle.recognisers.specs.Table.{pair_at}
use Rattle.recognisers.specs.Threshold.{Thresholds}
use Rattle.box_record.specs.declared.boxes.BarBox.{BarBox}
use Rattle.bar_box.specs.Box.{sheet_of}
use Rattle.recognisers.specs.Refusal.{leaves}
use Rattle.bar_box.specs.Calls.{after, each, joined}
use Rattle.bar_box.specs.History.{Feed, history_after, box_left, box_after, verdicts_of, joined_rows, one_feed, Holds, NoBars}
use Rattle.tallies.specs.declared.table.TallyRow.{TallyRow}
use Rattle.tallies.specs.Tally.{fresh_tally, counts_of, cell_of, total_of, count_below, rows_with}
use Rattle.tallies.specs.Feed.{tallied_of, tallied_sheet}

-- ---- the calls, as the contract of a feed with a tally has them

-- a box with its tally, and what a feed leaves of both
abbrev pub WithTally : Type 0
WithTally = BarBox × List TallyRow

abbrev pub both_left : WithTally → Feed → WithTally
both_left s f = let x = tallied_of s.0 s.1 f in (x.after, x.tally)

abbrev pub box_with : BarBox → List TallyRow → List Feed → BarBox
box_with b tally fs = (after both_left (b, tally) fs).0

abbrev pub tally_after : BarBox → List TallyRow → List Feed → List TallyRow
tally_after b tally fs = (after both_left (b, tally) fs).1

abbrev pub verdicts_with : BarBox → List TallyRow → List Feed → List Verdict
verdicts_with b tally fs = each both_left (λ s f. (tallied_of s.0 s.1 f).verdict) (b, tally) fs

-- the sheets, as they stand when their feeds return
abbrev pub sheets_with : BarBox → List TallyRow → List Feed → List (List ℕ)
sheets_with b tally fs = each both_left (λ s f. tallied_sheet s.0 s.1 f) (b, tally) fs

-- and the joined rows
abbrev pub rows_written : WithTally → Feed → List ℕ
rows_written s f = leaves (tallied_of s.0 s.1 f).verdict [] (take (row_bytes * length (bars_of f.prices)) (tallied_sheet s.0 s.1 f))

abbrev pub rows_after : BarBox → List TallyRow → List Feed → List ℕ
rows_after b tally fs = joined both_left rows_written (b, tally) fs

-- those of feeds without a tally
abbrev pub sheets_of : BarBox → List Feed → List (List ℕ)
sheets_of = each box_left (λ b f. sheet_of b f.prices f.sheet)

-- ---- what holds of them

-- how many bars of a history get code c as v1 of recogniser k, each over the history up to it
unfoldable pub bars_with : Thresholds → List Bar → ℕ → ℕ → ℕ
bars_with t h k c = count_below (λ i. eqb (code_of (pair_at k t (i + 1) (take (i + 1) h) 1).v1) c) (length h)

-- after a list of feeds fs to a box b without bars; h is the joined history, and sheet one that is long enough for it
pub record TallyHolds (b : BarBox) (fs : List Feed) (h : List Bar) (sheet : List ℕ) : Type 0 where
  -- verdicts, sheets, rows and box are those of the same list of feeds without a tally
  pub same-verdicts : verdicts_with b fresh_tally fs ≡ verdicts_of b fs
  pub same-sheets : sheets_with b fresh_tally fs ≡ sheets_of b fs
  pub same_rows : rows_after b fresh_tally fs ≡ joined_rows b fs
  pub same-box : box_with b fresh_tally fs ≡ box_after b fs
  -- of which demand 3 holds
  pub demand-3 : Holds b fs h sheet
  -- each row adds up to the number of bars fed
  pub sums : (k : ℕ) → k < recognisers → total_of (counts_of (tally_after b fresh_tally fs) k) ≡ length h
  -- each cell is the number of joined sheet rows that have that code as v1 of that recogniser
  pub cells : (k c : ℕ) → k < recognisers → c < labels → cell_of (tally_after b fresh_tally fs) k c ≡ rows_with (joined_rows b fs) k c
  -- which is the number of bars that get it from the rules over the history up to each
  pub by-rules : (k c : ℕ) → k < recognisers → c < labels → cell_of (tally_after b fresh_tally fs) k c ≡ bars_with b.thresholds h k c
  -- however the history is cut into feeds, the table is that of one feed of it
  pub same-tally : tally_after b fresh_tally fs ≡ (tallied_of b fresh_tally (one_feed h sheet)).tally

-- for every list of feeds to every box without bars
abbrev pub Tallies : Type 0
Tallies = (b : BarBox) → NoBars b → (fs : List Feed) (sheet : List ℕ)
    → let h = history_after b.thresholds [] fs in row_bytes * length h ≤ length sheet → TallyHolds b fs h sheet
