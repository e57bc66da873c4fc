-- One feed to the box that a history left, against the same feed to the plain history: its verdict, the box after it and the rows that it
-- gives. Assumes nothing.
use Rattle.std.specs.Prelude.{Err, Ok}
use Rattle.answers.specs.Refusal.{Verdict}
use Prim.Native.Nat.{ℕ, ◌+◌, ◌*◌}
use mathlib.Core.Path.{◌≡◌, refl, ◌∙◌}
use mathlib.Core.List.{List, [], ◌++◌}
use native.Mathlib.Omega.{arith}
use native.Mathlib.Nat.{zero-add}
use lib.ListN.{length, take, drop}
use lib.Ieee.{Float}
use lib.Seq.{take_at, take-length}
use Rattle.measures.specs.Bar.{Bar, bars_of, overlay}
use Rattle.measures.specs.Window.{newest}
use Rattle.measures.proofs.Overlay.{overlay-none}
use Rattle.recognisers.specs.Threshold.{Thresholds}
use Rattle.recognisers.specs.Number.{row_bytes, places}
use Rattle.recognisers.specs.Refusal.{leaves}
pub use Rattle.answers.proofs.VerdictLaws.{Fits, none_true, fits, accepts}
use Rattle.box_record.specs.declared.boxes.BarBox.{BarBox}
use Rattle.bar_box.specs.Sheet.{rows_of}
use Rattle.bar_box.specs.Box.{kept, taken_in, fed_of, sheet_of}
use Rattle.bar_box.specs.History.{Feed, verdict_on, appended, fed, rows_in, NoBars}
use Rattle.bar_box.proofs.SheetLaws.{length-rows, rows-newest}
use Rattle.bar_box.proofs.BoxLaws.{kept-taken, taken-append, taken_none}

-- ---- a feed takes all lent prices in, or none

-- those that it takes in, by the verdict
abbrev lent : Verdict → List Float → List Float
lent v ps = take (leaves v 0 (length ps)) ps

-- they leave the box that the verdict says
pub lent-box : (v : Verdict) (b : BarBox) → length b.bars ≡ places → (ps : List Float) → taken_in b (bars_of (lent v ps)) ≡ leaves v b (taken_in b (bars_of ps))
unfolding bars_of
lent-box (Ok tt) b all ps = rw (take-length ps)
lent-box (Err r) b all ps = taken_none b all

-- and the sheet
pub lent-sheet : (v : Verdict) (t : Thresholds) (n : ℕ) (h : List Bar) (ps : List Float) (sheet : List ℕ)
    → overlay sheet 0 (rows_of t n h (bars_of (lent v ps))) ≡ leaves v sheet (overlay sheet 0 (rows_of t n h (bars_of ps)))
unfolding bars_of rows_of
lent-sheet (Ok tt) t n h ps sheet = rw (take-length ps)
lent-sheet (Err r) t n h ps sheet = overlay-none sheet 0

-- ---- the box that a history left

-- the rows out of the sheet, as the feed leaves it
written : (v : Verdict) (sheet rows : List ℕ) (n : ℕ) → length rows ≡ n → leaves v [] (take n (leaves v sheet (overlay sheet 0 rows))) ≡ leaves v [] rows
written (Ok tt) sheet rows n e = take_at rows (drop (0 + length rows) sheet) n e
written (Err r) sheet rows n e = refl

module _ (b : BarBox) (start : NoBars b) where
  -- its N is the history's count
  pub count-after : (h : List Bar) → (taken_in b h).count ≡ length h
  count-after h = rw (start.none, zero-add)

  -- it keeps the history's newest 64 bars
  pub kept-after : (h : List Bar) → kept (taken_in b h) ≡ newest places h
  kept-after h = kept-taken b start.all-places h ∙ rw start.none

  -- the feed is refused as the history says
  pub verdict-step : (h : List Bar) (f : Feed) → (fed (taken_in b h) f).verdict ≡ verdict_on b.thresholds h f
  unfolding fed_of
  verdict-step h f = rw (count-after h)

  -- by its verdict, it leaves the box that the history after it leaves
  box-by : (v : Verdict) (h bars : List Bar) → leaves v (taken_in b h) (taken_in (taken_in b h) bars) ≡ taken_in b (leaves v h (h ++ bars))
  box-by (Ok tt) h bars = taken-append b start.all-places h bars
  box-by (Err r) h bars = refl

  -- the box after the feed is the one that the history after the feed leaves
  pub box-step : (h : List Bar) (f : Feed) → (fed (taken_in b h) f).after ≡ taken_in b (appended b.thresholds h f)
  unfolding fed_of
  box-step h f = box-by (fed (taken_in b h) f).verdict h (bars_of f.prices) ∙ rw (count-after h)

  -- the feed gives the rows of its bars over the whole history, though the box keeps 64 bars of it
  pub rows_step : (h : List Bar) (f : Feed)
      → rows_in (taken_in b h) f ≡ leaves (verdict_on b.thresholds h f) [] (rows_of b.thresholds (length h) h (bars_of f.prices))
  unfolding fed_of sheet_of
  rows_step h f =
      let bars = bars_of f.prices in
      let t = b.thresholds in
      rw (kept-after h, count-after h, rows-newest places (omega arith) t (length h) h bars)
      (written (verdict_on t h f) f.sheet (rows_of t (length h) h bars) (row_bytes * length bars) (length-rows t (length h) h bars))
