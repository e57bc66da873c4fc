-- What crates above cite of an accepted feed: what it leaves, on a part of a sheet too, and of two feeds one after the other. Assumes nothing.
use Rattle.std.specs.Prelude.{Ok}
use Prim.Native.Nat.{ℕ, ◌+◌, ◌-◌, ◌*◌, ◌≤◌}
use mathlib.Core.Path.{◌≡◌, ◌∙◌}
use mathlib.Core.Bool.{true}
use mathlib.Core.List.{List, ◌++◌, append_assoc, append-nil}
use native.Mathlib.Omega.{arith}
use native.Mathlib.Nat.{zero-add}
use borrow.Rule.Slice.PartMut.{put_mid}
use lib.ListN.{length, take, drop, length-take, length-drop, drop_of_length-le}
use lib.Seq.{take_all, drop-drop}
use lib.Ieee.{Float}
use Rattle.measures.specs.Bar.{Bar, bars_of, overlay}
use Rattle.recognisers.specs.Threshold.{Thresholds, valid_of}
use Rattle.recognisers.specs.Number.{places, row_bytes}
use Rattle.recognisers.specs.Refusal.{first_true, feed_verdict}
use Rattle.box_record.specs.declared.boxes.BarBox.{BarBox}
use Rattle.bar_box.specs.Sheet.{rows_of}
use Rattle.bar_box.specs.Box.{fresh_box, made_of, kept, taken_in, fed_of, sheet_of}
use Rattle.measures.proofs.Overlay.{overlay-more}
use Rattle.bar_box.proofs.SheetLaws.{length-rows, rows_append, rows-newest}
use Rattle.bar_box.proofs.BoxLaws.{kept-taken}

-- ---- a part of a sheet

-- the bytes of a sheet from a byte on
abbrev pub rest_of : List ℕ → ℕ → List ℕ
rest_of s at = take (length s - at) (drop at s)

-- how many bytes
pub length_rest : (s : List ℕ) (at : ℕ) → length (rest_of s at) ≡ length s - at
length_rest s at = rw (length-take, length-drop) (omega arith)

-- bytes written over the front of those are written over the whole from there on
pub overlay-rest : (s : List ℕ) (at : ℕ) (xs : List ℕ) → put_mid at (length s - at) s (overlay (rest_of s at) 0 xs) ≡ overlay s at xs
overlay-rest s at xs =
    let left : length (drop at s) ≡ length s - at = length-drop at s in
    rw (
      take_all (length s - at) (drop at s) (omega arith),
      drop_of_length-le (drop at s) {i = length s - at} (omega arith),
      append-nil (xs ++ drop (0 + length xs) (drop at s)),
      zero-add,
      drop-drop (length xs) at s,
      append_assoc (take at s) xs,
    )

-- ---- what an accepted feed leaves

-- the rows of bars that a box takes in
abbrev pub rows_from : BarBox → List Bar → List ℕ
rows_from b bars = rows_of b.thresholds b.count (kept b) bars

module _ (b : BarBox) (ps : List Float) (sheet : List ℕ) (e : feed_verdict b.thresholds b.count (length ps) (length sheet) ≡ Ok tt) where
  -- the box with the bars taken in
  pub fed-box : (fed_of b ps (length sheet)).after ≡ taken_in b (bars_of ps)
  unfolding fed_of
  fed-box = simp e

  -- the sheet with their rows
  pub fed-sheet : sheet_of b ps sheet ≡ overlay sheet 0 (rows_from b (bars_of ps))
  unfolding sheet_of
  fed-sheet = simp e

-- with thresholds inside their limits making gives a fresh box with them
pub made-valid : (t : Thresholds) → valid_of t ≡ true → (made_of t).after ≡ fresh_box t
unfolding made_of first_true
made-valid t e = simp e

-- ---- one part after the other

module _ (b : BarBox) (all : length b.bars ≡ places) where
  -- the rows of both parts are those of the first, and then those of the second after it
  pub rows-parts : (xs ys : List Bar) → rows_from b (xs ++ ys) ≡ rows_from b xs ++ rows_from (taken_in b xs) ys
  rows-parts xs ys =
      let t = b.thresholds in
      let h = kept b ++ xs in
      rw (kept-taken b all xs, rows-newest places (omega arith) t (b.count + length xs) h ys) (rows_append t b.count (kept b) xs ys)

  -- on a sheet the second part's stand behind the first's
  pub rows_both : (xs ys : List Bar) (s : List ℕ) (row : ℕ) → row ≡ length xs → row_bytes * (length xs + length ys) ≤ length s
      → overlay (overlay s 0 (rows_from b xs)) (row_bytes * row) (rows_from (taken_in b xs) ys) ≡ overlay s 0 (rows_from b (xs ++ ys))
  rows_both xs ys s row at room =
      let first = length-rows b.thresholds b.count (kept b) xs in
      let after = taken_in b xs in
      let second = length-rows after.thresholds after.count (kept after) ys in
      overlay-more s 0 (rows_from b xs) (rows_from after ys) (row_bytes * row) (omega arith) (omega arith) ∙ rw (rows-parts xs ys)
