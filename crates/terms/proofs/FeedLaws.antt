-- A feed of the first bars of a run on a part of the sheet, and of some of the bars of an accepted feed. Assumes nothing.
use Rattle.std.specs.Prelude.{Ok}
use Prim.Native.Nat.{ℕ, ◌+◌, ◌-◌, ◌*◌, ◌/◌, ◌%◌, ◌≤◌}
use mathlib.Core.Path.{◌≡◌}
use mathlib.Core.List.{List}
use native.Mathlib.Omega.{arith}
use borrow.Rule.Slice.PartMut.{put_mid}
use lib.ListN.{length, take}
use lib.Seq.{length-take-le}
use lib.Ieee.{Float}
use Rattle.measures.specs.Bar.{Bar, bars_of, overlay, prices_of}
use Rattle.recognisers.specs.Number.{row_bytes}
use Rattle.recognisers.specs.Threshold.{Thresholds}
use Rattle.box_record.specs.declared.boxes.BarBox.{BarBox}
use Rattle.recognisers.specs.Refusal.{feed_verdict}
use Rattle.bar_box.specs.Box.{taken_in, fed_of, sheet_of}
use Rattle.measures.proofs.PriceLaws.{length-prices}
use Rattle.bar_box.proofs.FeedSteps.{fits, accepts}
use Rattle.bar_box.proofs.PartLaws.{rows_from, rest_of, length_rest, overlay-rest, fed-box, fed-sheet}

-- ---- some of the bars of an accepted feed

module _ (t : Thresholds) (n prices sheet : ℕ) (e : feed_verdict t n prices sheet ≡ Ok tt) where
  -- a feed of no more bars is accepted, if there is room for their rows
  pub fewer-accepted : (k p s : ℕ) → p % 4 ≡ 0 → k + p / 4 ≤ n + prices / 4 → row_bytes * (p / 4) ≤ s → feed_verdict t k p s ≡ Ok tt
  fewer-accepted k p s whole few room =
      let f = fits _ _ _ _ e in
      accepts _ _ _ _ (record { valid = f.valid; whole = whole; few = omega (arith, f.few); room = room })

  -- after i bars k more
  pub some-accepted : (i k : ℕ) → i + k ≤ prices / 4 → feed_verdict t (n + i) (4 * k) (row_bytes * k) ≡ Ok tt
  some-accepted i k le = fewer-accepted (n + i) (4 * k) (row_bytes * k) (omega arith) (omega arith) (omega arith)

  -- there is room for their rows
  pub some-room : (i k : ℕ) → i + k ≤ prices / 4 → row_bytes * (i + k) ≤ sheet
  some-room i k le = omega (arith, (fits _ _ _ _ e).room)

  -- on the same sheet
  pub bars-accepted : (bars : List Bar) → length bars ≤ prices / 4 → feed_verdict t n (length (prices_of bars)) sheet ≡ Ok tt
  bars-accepted bars le =
      let four = length-prices bars in
      fewer-accepted n (length (prices_of bars)) sheet (omega arith) (omega arith) (omega (arith, (fits _ _ _ _ e).room))

-- ---- one feed of the first n bars of a run, on the sheet from a row on

module _ (b : BarBox) (ps : List Float) (n : ℕ) (s : List ℕ) (row : ℕ) (e : feed_verdict b.thresholds b.count (4 * n) (row_bytes * n) ≡ Ok tt) (enough : 4 * n ≤ length ps) (room : row_bytes * (row + n) ≤ length s) where
  pub front-accepted : feed_verdict b.thresholds b.count (length (take (4 * n) ps)) (length (rest_of s (row_bytes * row))) ≡ Ok tt
  front-accepted =
      let size = length-take-le (4 * n) ps enough in
      let rest = length_rest s (row_bytes * row) in
      fewer-accepted _ _ _ _ e _ _ _ (omega arith) (omega arith) (omega arith)

  pub front-box : (fed_of b (take (4 * n) ps) (length (rest_of s (row_bytes * row)))).after ≡ taken_in b (bars_of (take (4 * n) ps))
  front-box = fed-box b (take (4 * n) ps) (rest_of s (row_bytes * row)) front-accepted

  pub front-sheet : put_mid (row_bytes * row) (length s - row_bytes * row) s (sheet_of b (take (4 * n) ps) (rest_of s (row_bytes * row)))
      ≡ overlay s (row_bytes * row) (rows_from b (bars_of (take (4 * n) ps)))
  front-sheet =
      rw (fed-sheet b (take (4 * n) ps) (rest_of s (row_bytes * row)) front-accepted)
      (overlay-rest s (row_bytes * row) (rows_from b (bars_of (take (4 * n) ps))))
