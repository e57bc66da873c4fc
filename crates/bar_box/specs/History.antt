-- "What a list of feeds leaves": demand 3. The first part builds the plain history from what the feeds were lent; the second follows the
-- calls; the third says how the two agree.
use Rattle.std.specs.Prelude.{Ok}
use Rattle.answers.specs.Refusal.{Verdict}
use Rattle.std.specs.Prelude.{ℕ, ◌+◌, ◌-◌, ◌*◌, ◌≤◌, ◌<◌, min, ◌≡◌, true, cond, List, [], ◌∷◌, ◌++◌, length, get_or, take, drop, replicate, Float}
use Rattle.measures.specs.Bar.{Bar, no_bar, bars_of, prices_of}
use Rattle.measures.specs.Window.{newest, back_of}
use Rattle.recognisers.specs.Threshold.{Thresholds, standard_set, valid_of}
use Rattle.recognisers.specs.Number.{recognisers, row_bytes, gated, places, farthest_look}
use Rattle.recognisers.specs.Table.{table_row, pair_at, codes_of}
use Rattle.recognisers.specs.Refusal.{codes_in, answer_in, ordinal_in, leaves, feed_verdict}
use Rattle.box_record.specs.declared.boxes.{KeptBar.KeptBar, BarBox.BarBox, Outcome.Outcome}
use Rattle.bar_box.specs.Calls.{after, each, joined}
use Rattle.bar_box.specs.Box.{kept_bar, numbered, empty_place, made_of, fed_of, sheet_of, look_answer_of}

-- what a feed is lent
pub record Feed : Type 0 where
  pub prices : List Float
  pub sheet : List ℕ

-- ---- the history, a plain list of bars

-- a feed is refused exactly as the list of refusals says, with the history's count for N and the fresh box's thresholds
abbrev pub verdict_on : Thresholds → List Bar → Feed → Verdict
verdict_on t history f = feed_verdict t (length history) (length f.prices) (length f.sheet)

-- it then leaves the history as it is; any other feed appends its bars in their order
abbrev pub appended : Thresholds → List Bar → Feed → List Bar
appended t history f = leaves (verdict_on t history f) history (history ++ bars_of f.prices)

-- the history after the feeds; from the empty one it is the joined history
abbrev pub history_after : Thresholds → List Bar → List Feed → List Bar
history_after t = after (appended t)

abbrev pub verdicts_on : Thresholds → List Bar → List Feed → List Verdict
verdicts_on t = each (appended t) (verdict_on t)

-- ---- the calls, as the contract of a feed has them

abbrev pub fed : BarBox → Feed → Outcome
fed b f = fed_of b f.prices (length f.sheet)

abbrev pub box_left : BarBox → Feed → BarBox
box_left b f = (fed b f).after

abbrev pub box_after : BarBox → List Feed → BarBox
box_after = after box_left

abbrev pub verdicts_of : BarBox → List Feed → List Verdict
verdicts_of = each box_left (λ b f. (fed b f).verdict)

-- the sheet rows of a feed: the bytes that it wrote for its bars, as its sheet stands when the feed returns; a refused feed gives none
abbrev pub rows_in : BarBox → Feed → List ℕ
rows_in b f = leaves (fed b f).verdict [] (take (row_bytes * length (bars_of f.prices)) (sheet_of b f.prices f.sheet))

-- the joined sheet rows are all of them, in the order of the history
abbrev pub joined_rows : BarBox → List Feed → List ℕ
joined_rows = joined box_left rows_in

-- one feed of a whole history
abbrev pub one_feed : List Bar → List ℕ → Feed
one_feed history sheet = record { prices = prices_of history; sheet = sheet }

-- the two bytes of recogniser k in the i-th of joined rows, from 0
abbrev pub printed : List ℕ → ℕ → ℕ → List ℕ
printed rows i k = take 2 (drop (row_bytes * i + 2 * k) rows)

-- the bar of a history with an ordinal, and what the i-th place of a box holds, both from 1
abbrev pub bar_with : List Bar → ℕ → Bar
bar_with h ordinal = get_or h (ordinal - 1) no_bar

abbrev pub in_place : BarBox → ℕ → KeptBar
in_place b i = get_or b.bars (i - 1) empty_place

-- a look within its limits: an offset from 1 to 43, and a known recogniser; and one at an offset within the history
abbrev pub InLimits : ℕ → ℕ → Type 0
InLimits di k = (1 ≤ di) × (di ≤ farthest_look) × (k < recognisers)

abbrev pub Within : List Bar → ℕ → ℕ → Type 0
Within h di k = InLimits di k × (di ≤ length h)

-- ---- what holds after a list of feeds fs to a box b without bars; h is the joined history, and sheet one that is long enough for it

pub record Holds (b : BarBox) (fs : List Feed) (h : List Bar) (sheet : List ℕ) : Type 0 where
  -- (a) each feed is refused exactly as the history says
  pub refusals : verdicts_of b fs ≡ verdicts_on b.thresholds [] fs
  -- (b) rows and final box equal those of one feed of the joined history: byte for byte, and as whole records. That feed is accepted unless
  -- the thresholds are outside their limits, where every feed is refused and no bar is there
  pub same_rows : joined_rows b fs ≡ rows_in b (one_feed h sheet)
  pub same-box : box_after b fs ≡ (fed b (one_feed h sheet)).after
  pub accepted : valid_of b.thresholds ≡ true → (fed b (one_feed h sheet)).verdict ≡ Ok tt
  -- (c) one row for each bar; each has the pairs that the rules give at offset 1 over the history up to that bar, 12's len being the number
  -- of bars up to it
  pub row_count : length (joined_rows b fs) ≡ row_bytes * length h
  pub pairs : (i k : ℕ) → i < length h → k < recognisers → printed (joined_rows b fs) i k ≡ codes_of (pair_at k b.thresholds (i + 1) (take (i + 1) h) 1 ∷ [])
  -- (d) the final box has the fresh box's thresholds; its N is the history's count; its places hold the history's newest 64 bars with their
  -- ordinals, and what they held where there are fewer
  pub final-box : box_after b fs ≡ record { thresholds = b.thresholds; count = length h; bars = newest places (numbered 0 h) ++ drop (length h) b.bars }
  -- (e) the i-th kept place, from 1, holds the bar with ordinal N − kept + i
  pub ordinals : (i : ℕ) → 1 ≤ i → i ≤ min (length h) places
      → let ordinal = length h - min (length h) places + i in in_place (box_after b fs) i ≡ kept_bar (bar_with h ordinal) ordinal
  -- (f) a look at an offset from 1 to 43 within the history gives, of 12 as of all, the pair of the rule at that offset over the whole history, with
  -- the history's count for len, and the judged bar's ordinal
  pub look-whole : (di k : ℕ) → Within h di k → look_answer_of (box_after b fs) k di ≡ Ok (record { pair = (pair_at k b.thresholds (length h) h di); ordinal = (length h - di + 1) })
  -- (g) the bar with that ordinal in the history is the di-th from its end, and the box keeps it with that ordinal, in the place that is the di-th
  -- from the last kept one
  pub look-judges : (di k : ℕ) → Within h di k → bar_with h (ordinal_in (look_answer_of (box_after b fs) k di)) ≡ back_of h di
  pub look-kept : (di k : ℕ) → Within h di k
      → let ordinal = ordinal_in (look_answer_of (box_after b fs) k di) in in_place (box_after b fs) (min (length h) places - di + 1) ≡ kept_bar (back_of h di) ordinal
  -- (h) its row was printed as that many-th: for every recogniser but 12 the pair is the printed one there
  pub look-printed : (di k : ℕ) → Within h di k → (k ≡ gated → ⊥)
      → let seen = look_answer_of (box_after b fs) k di in codes_in (answer_in seen) ≡ printed (joined_rows b fs) (ordinal_in seen - 1) k
  -- (i) within a look's limits and beyond the history there is no judged bar: the short pair, and the ordinal 0
  pub look_none : valid_of b.thresholds ≡ true → (di k : ℕ) → InLimits di k → length h < di → look_answer_of (box_after b fs) k di ≡ Ok (record { pair = (table_row k).short; ordinal = 0 })

-- a box without bars, as made or as a caller filled it: N is 0, whatever its thresholds and its 64 places hold
pub record NoBars (b : BarBox) : Type 0 where
  pub none : b.count ≡ 0
  pub all-places : length b.bars ≡ places

-- what making gives: a box without bars, with the thresholds asked for or, if these are refused, the standard set, so that they are always
-- inside their limits, and zeros in all places
pub record Fresh (t : Thresholds) (b : BarBox) : Type 0 where
  pub no-bars : NoBars b
  pub thresholds : b.thresholds ≡ cond (valid_of t) t standard_set
  pub valid : valid_of b.thresholds ≡ true
  pub zeros : b.bars ≡ replicate places empty_place

-- for every list of feeds: over every box without bars, and over the box made with any thresholds
pub record Demand3 : Type 0 where
  pub holds : (b : BarBox) → NoBars b → (fs : List Feed) (sheet : List ℕ)
      → let h = history_after b.thresholds [] fs in row_bytes * length h ≤ length sheet → Holds b fs h sheet
  -- two lists of feeds with the same joined history leave the same box and the same rows
  pub cuts : (b : BarBox) → NoBars b → (fs gs : List Feed) → history_after b.thresholds [] fs ≡ history_after b.thresholds [] gs
      → (box_after b fs ≡ box_after b gs) × (joined_rows b fs ≡ joined_rows b gs)
  pub fresh : (t : Thresholds) → Fresh t (made_of t).after
  -- after the feeds the places that no bar took still hold zeros
  pub zeros-left : (t : Thresholds) (fs : List Feed)
      → let b = (made_of t).after in
      let h = history_after b.thresholds [] fs in (box_after b fs).bars ≡ newest places (numbered 0 h) ++ replicate (places - length h) empty_place
