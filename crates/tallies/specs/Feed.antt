-- A feed with a tally, for every box and tally that a caller can hand in.
use Rattle.answers.specs.Refusal.{Verdict}
use Rattle.std.specs.Prelude.{ℕ, not, List, [], ◌∷◌, length, Float, Result, Ok, Err}
use Rattle.recognisers.specs.Threshold.{Thresholds}
use Rattle.answers.specs.declared.refusals.Refusal.{Refusal}
use Rattle.answers.specs.declared.refusals.Refusal.TheVariants.{TooManyBars}
use Rattle.recognisers.specs.Refusal.{Tried, tried, first_true, next_after, leaves, feed_tried}
use Rattle.box_record.specs.declared.boxes.BarBox.{BarBox}
use Rattle.bar_box.specs.Box.{sheet_of}
use Rattle.bar_box.specs.History.{Feed, fed, rows_in}
use Rattle.tallies.specs.declared.table.TallyRow.{TallyRow}
use Rattle.tallies.specs.Tally.{adds_up, counted}

-- what a feed is lent
abbrev pub lent : List Float → List ℕ → Feed
lent prices sheet = record { prices = prices; sheet = sheet }

-- 5 also covers a tally with a row that doesn't add up to the box's N.
abbrev pub wrong_tally : ℕ → List TallyRow → Tried
wrong_tally n tally = tried (not (adds_up n tally)) TooManyBars

-- otherwise it tries what a feed does
unfoldable pub tally_verdict : Thresholds → ℕ → List TallyRow → ℕ → ℕ → Verdict
tally_verdict t n tally prices sheet = first_true (next_after TooManyBars (wrong_tally n tally ∷ []) (feed_tried t n prices sheet))

abbrev pub verdict_with : BarBox → List TallyRow → Feed → Verdict
verdict_with b tally f = tally_verdict b.thresholds b.count tally (length f.prices) (length f.sheet)

-- whether a feed is refused, and the box and the tally after it
pub record Tallied : Type 0 where
  pub verdict : Verdict
  pub after : BarBox
  pub tally : List TallyRow

-- box and sheet are those of a feed, and its rows are counted; a refusal leaves box, tally and sheet as they were
unfoldable pub tallied_of : BarBox → List TallyRow → Feed → Tallied
tallied_of b tally f =
    let v = verdict_with b tally f in record { verdict = v; after = leaves v b (fed b f).after; tally = leaves v tally (counted (rows_in b f) tally) }

unfoldable pub tallied_sheet : BarBox → List TallyRow → Feed → List ℕ
tallied_sheet b tally f = leaves (verdict_with b tally f) f.sheet (sheet_of b f.prices f.sheet)

-- a feed's answer: the tally after it, or the refusal alone
abbrev pub answered : Verdict → List TallyRow → Result (List TallyRow) Refusal
answered (Ok _) tally = Ok tally
answered (Err r) tally = Err r

abbrev pub table_answer : Tallied → Result (List TallyRow) Refusal
table_answer o = answered o.verdict o.tally

-- the verdict in it
abbrev pub verdict_in : Result (List TallyRow) Refusal → Verdict
verdict_in (Ok _) = Ok tt
verdict_in (Err r) = Err r
