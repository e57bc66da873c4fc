-- "A feed reaches the box": what the box keeps of the bars that it takes in, and a feed, for every box that a caller can hand in; the box, its
-- making and a look are passed on.
use Rattle.std.specs.Prelude.{ℕ, ◌+◌, List, [], ◌∷◌, ◌++◌, length, drop, Float}
use Rattle.measures.specs.Bar.{Bar, bars_of, overlay}
use Rattle.measures.specs.Window.{newest}
use Rattle.recognisers.specs.Number.{places}
use Rattle.recognisers.specs.Refusal.{feed_verdict, leaves}
use Rattle.box_record.specs.declared.boxes.{KeptBar.KeptBar, BarBox.BarBox, Outcome.Outcome}
pub use Rattle.box_record.specs.Box.{kept_bar, bars_in, held, kept, empty_place, fresh_box, outcome, made_by}
unfoldable pub use Rattle.box_record.specs.Box.{empty_places, made_of, look_of, look_answer_of}
use Rattle.bar_box.specs.Sheet.{rows_of}

-- the records of bars that follow n others: ordinals count from 1, in the order of the history
unfoldable pub numbered : ℕ → List Bar → List KeptBar
numbered n [] = []
numbered n (b ∷ bars) = kept_bar b (n + 1) ∷ numbered (n + 1) bars

-- the places after a history: the records of its newest 64 bars, then what the places past them held
abbrev pub laid : List KeptBar → List KeptBar → List KeptBar
laid old history = newest places history ++ drop (length history) old

-- the box after it took bars in
abbrev pub taken_in : BarBox → List Bar → BarBox
taken_in b bars = record { thresholds = b.thresholds; count = b.count + length bars; bars = laid b.bars (held b ++ numbered b.count bars) }

-- the box takes the bars in; a refusal leaves it as it was
unfoldable pub fed_of : BarBox → List Float → ℕ → Outcome
fed_of b prices sheet = let v = feed_verdict b.thresholds b.count (length prices) sheet in outcome v (leaves v b (taken_in b (bars_of prices)))

-- the sheet has a row for each bar, from its first byte on; bytes past these stay, and a refusal leaves all
unfoldable pub sheet_of : BarBox → List Float → List ℕ → List ℕ
sheet_of b prices sheet =
    leaves (feed_verdict b.thresholds b.count (length prices) (length sheet)) sheet (overlay sheet 0 (rows_of b.thresholds b.count (kept b) (bars_of prices)))
