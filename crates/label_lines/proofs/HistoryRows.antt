-- What an input prints is what its lines print over the whole history up to each bar, though the box keeps 64. Assumes nothing.
use Rattle.std.specs.Prelude.{Err, Ok, Some}
use Prim.Native.Nat.{ℕ, ◌+◌, ◌≤◌}
use mathlib.Core.Bool.{Bool, true, false, cond}
use mathlib.Core.List.{List, [], ◌∷◌, ◌++◌, map, append-nil}
use mathlib.Core.Path.{◌≡◌, refl, ap, ◌∙◌}
use native.Mathlib.Omega.{arith}
use borrow.Author.Tests.{ltb-true, ltb-false, lt-ltb}
use lib.Dec.{ltb}
use lib.ListN.{length, replicate, length-append}
use Rattle.measures.specs.Bar.{Bar, bars_of, prices_of}
use Rattle.answers.specs.declared.refusals.Refusal.TheVariants as refusal
use Rattle.recognisers.specs.Number.{row_bytes, most_bars, places}
use Rattle.recognisers.specs.Refusal.{first_true, feed_tried, feed_verdict}
use Rattle.recognisers.specs.Threshold.{standard_set}
use Rattle.box_record.specs.declared.boxes.BarBox.{BarBox}
use Rattle.bar_box.specs.Sheet.{row_of}
use Rattle.bar_box.specs.Box.{fresh_box, taken_in, fed_of, sheet_of}
use Rattle.bar_box.specs.History.{Feed, verdict_on, NoBars}
use Rattle.bar_box.proofs.SheetLaws.{length-row, rows-one, rows-newest}
use Rattle.bar_box.proofs.FeedSteps.{accepts, count-after, kept-after, verdict-step, box-step}
use Rattle.bar_box.proofs.FeedLists.{at-start}
use Rattle.bar_box.proofs.Demand3.{standard-valid, fresh-none}
use Rattle.text.specs.declared.line_text.LineError.TheVariants.{BadShape, BadPrice}
use Rattle.text.specs.LineText.{Line, line_of}
use Rattle.input_lines.specs.Lines.{lines_of}
use Rattle.output_lines.specs.declared.output.Stop.TheVariants.{By, Price}
use Rattle.output_lines.specs.Output.{refusal_line}
use Rattle.label_lines.specs.Output.{fed_step, read_step, line_step, printed_of, output_of}
use Rattle.label_lines.specs.History.{newest_lines, lines_print, history_prints}
use Rattle.label_lines.proofs.SessionLaws.{fed-refused, fed-accepted}

-- ---- the box that a history leaves

abbrev pub fresh : BarBox
fresh = fresh_box standard_set

pub start : NoBars fresh
start = fresh-none standard_set

abbrev pub box_of : List Bar → BarBox
box_of h = taken_in fresh h

-- ---- a line after a history

module _ (h : List Bar) (bar : Bar) where
  -- the history up to it
  abbrev more : List Bar
  more = h ++ (bar ∷ [])

  -- what its feed is lent
  abbrev feed : Feed
  feed = record { prices = prices_of (bar ∷ []); sheet = replicate row_bytes 0 }

  -- up to the most bars it is accepted
  module _ (few : length h + 1 ≤ most_bars) where
    pub accepted : verdict_on standard_set h feed ≡ Ok tt
    unfolding prices_of
    accepted = accepts standard_set (length h) 4 row_bytes (record { valid = standard-valid; whole = refl; few = few; room = omega arith })

    fed : (fed_of (box_of h) (prices_of (bar ∷ [])) row_bytes).verdict ≡ Ok tt
    fed = verdict-step fresh start h feed ∙ accepted

    after : (fed_of (box_of h) (prices_of (bar ∷ [])) row_bytes).after ≡ box_of more
    unfolding bars_of prices_of
    after = box-step fresh start h feed ∙ rw accepted

    -- the sheet is its row over the whole history
    row : sheet_of (box_of h) (prices_of (bar ∷ [])) (replicate row_bytes 0) ≡ row_of standard_set (length h + 1) more
    unfolding sheet_of bars_of prices_of
    row =
        let near = rows-newest places (omega arith) standard_set (length h) h (bar ∷ []) in
        rw (kept-after fresh start h, count-after fresh start h, accepted, near, rows-one standard_set (length h) h bar, length-row standard_set (length h + 1) more)
        (append-nil (row_of standard_set (length h + 1) more))

    fed-more : fed_step (box_of h) bar ≡ record { printed = newest_lines more; after = box_of more; stops = false }
    fed-more = fed-accepted (box_of h) bar _ refl fed ∙ rw (row, after, count-after fresh start h, length-append h (bar ∷ []))

  -- past them it is refused
  pub past : length h ≡ most_bars → verdict_on standard_set h feed ≡ Err refusal.TooManyBars
  unfolding feed_verdict feed_tried first_true prices_of
  past most = simp (standard-valid, lt-ltb most_bars (length h + 1) (omega arith))

  fed-past : length h ≡ most_bars → fed_step (box_of h) bar ≡ record { printed = refusal_line (length h + 1) (Some (By refusal.TooManyBars)); after = box_of h; stops = true }
  fed-past most = fed-refused (box_of h) bar _ refl refusal.TooManyBars (verdict-step fresh start h feed ∙ past most) ∙ rw (count-after fresh start h)

-- ---- lines after it

-- a line, where the rest is as it should be after every history
module _ (lines : List (List ℕ)) (on : (h : List Bar) → length h ≤ most_bars → printed_of (box_of h) lines ≡ history_prints h (map line_of lines)) where
  bar-line : (h : List Bar) (bar : Bar) (t : Bool) → ltb (length h) most_bars ≡ t → length h ≤ most_bars
      → (fed_step (box_of h) bar).printed ++ cond (fed_step (box_of h) bar).stops [] (printed_of (fed_step (box_of h) bar).after lines)
      ≡ cond t (newest_lines (h ++ (bar ∷ [])) ++ history_prints (h ++ (bar ∷ [])) (map line_of lines)) (refusal_line (length h + 1) (Some (By refusal.TooManyBars)))
  bar-line h bar true room few =
      let below = ltb-true (length h) most_bars room in
      let still : length (h ++ (bar ∷ [])) ≤ most_bars = rw (length-append h (bar ∷ [])) (omega (arith, below)) in
      rw (fed-more h bar (omega (arith, below)), on (h ++ (bar ∷ [])) still)
  bar-line h bar false full few =
      let most : length h ≡ most_bars = omega (arith, few, ltb-false (length h) most_bars full) in
      rw (fed-past h bar most) (append-nil (refusal_line (length h + 1) (Some (By refusal.TooManyBars))))

  one_line : (h : List Bar) (l : Line) → length h ≤ most_bars
      → (read_step (box_of h) l).printed ++ cond (read_step (box_of h) l).stops [] (printed_of (read_step (box_of h) l).after lines) ≡ history_prints h (l ∷ map line_of lines)
  unfolding lines_print
  one_line h (Ok bar) few = bar-line h bar (ltb (length h) most_bars) refl few
  one_line h (Err BadShape) few = rw (count-after fresh start h) (append-nil (refusal_line (length h + 1) (Some (By refusal.BadShape))))
  one_line h (Err (BadPrice place)) few = rw (count-after fresh start h) (append-nil (refusal_line (length h + 1) (Some (Price place))))

after-history : (h : List Bar) (lines : List (List ℕ)) → length h ≤ most_bars → printed_of (box_of h) lines ≡ history_prints h (map line_of lines)
unfolding printed_of line_step lines_print
after-history h [] few = refl
after-history h (line ∷ lines) few = one_line lines (λ h' few'. after-history h' lines few') h (line_of line) few

-- ---- the program
pub history-output : (input : List ℕ) → output_of input ≡ history_prints [] (map line_of (lines_of input))
history-output input = ap (λ b. printed_of b (lines_of input)) (at-start fresh start) ∙ after-history [] (lines_of input) (omega arith)
