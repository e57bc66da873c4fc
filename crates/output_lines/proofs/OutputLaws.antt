-- The lines of a sheet one recogniser at a time, and how long a line is at most. Assumes nothing.
use Prim.Native.Nat.{ℕ, zero, suc, ◌+◌, ◌-◌, ◌*◌, ◌≤◌, ◌<◌}
use mathlib.Core.Bool.{Bool, true, false, cond}
use mathlib.Core.List.{List, [], ◌∷◌, ◌++◌}
use mathlib.Core.Path.{◌≡◌, refl, sym, ◌∙◌}
use native.Mathlib.Omega.{arith}
use borrow.Author.Tests.{le-leb, lt-leb}
use lib.Dec.{eqb}
use lib.ListN.{length, get_or, drop, length-append, drop_of_length-le}
use lib.Seq.{drop-cons}
use Rattle.std.specs.Simd.{first_chunks}
use Rattle.measures.specs.Bar.{overlay}
use Rattle.measures.proofs.Overlay.{overlay-none, overlay-more}
use Rattle.label_texts.specs.LabelText.{bytes_of}
use Rattle.input_lines.specs.Lines.{comma}
use Rattle.input_lines.specs.Lines.{line_feed}
use Rattle.label_texts.proofs.LabelLaws.{short}
use Rattle.output_lines.specs.Output.{numeral, field, row_line, pair_line, row_lines, longest_row, longest_count, count_line, Written, Printed}
use Rattle.output_lines.proofs.NumeralLaws.{numeral-short}

-- ---- bytes written behind bytes

pub written_on : (s : List ℕ) (at : ℕ) (xs t : List ℕ) (i : ℕ) (ys u : List ℕ) (j : ℕ) → i + length ys ≤ length s
    → Written s at xs t i → Written t i ys u j → Written s at (xs ++ ys) u j
written_on s at xs t i ys u j le a b =
    let len : length (xs ++ ys) ≡ length xs + length ys = length-append xs ys in
    let same : u ≡ overlay (overlay s at xs) i ys = rw a.1 at b.1 in
    (omega (arith, a.0, b.0), same ∙ overlay-more s at xs ys i (omega (arith, a.0)) le)

-- a line where there is room for the longest of its kind, and where there isn't
module _ (need : ℕ) (line s : List ℕ) (at : ℕ) where
  pub printed : (t : List ℕ) (i : ℕ) → need ≤ length s - at → Written s at line t i → Printed need line s at t i
  printed t i room w = rw (le-leb need (length s - at) room) w

  pub unprinted : length s - at < need → Printed need line s at s at
  unprinted none = rw (lt-leb need (length s - at) none) (omega arith, sym (overlay-none s at))

  -- and what it says where there is
  pub written : (t : List ℕ) (i : ℕ) → at + need ≤ length s → Printed need line s at t i → Written s at line t i
  written t i room p = let left : need ≤ length s - at = omega arith in rw (le-leb need (length s - at) left) at p

-- ---- how long a line is at most

pub number-most : (n end : ℕ) → length (field (numeral n) end) ≤ 21
number-most n end = rw (length-append (numeral n) (end ∷ [])) (omega (arith, numeral-short n))

pub label-most : (code end : ℕ) → length (field (bytes_of code) end) ≤ 16
label-most code end = rw (length-append (bytes_of code) (end ∷ [])) (omega (arith, short code))

joined : (a b c d : List ℕ) → length (a ++ b ++ c ++ d) ≡ length a + length b + length c + length d
joined a b c d = rw (length-append (a ++ b ++ c) d, length-append (a ++ b) c, length-append a b)

row-most : (ordinal k v1 v2 : ℕ) → length (row_line ordinal k v1 v2) ≤ longest_row
unfolding row_line
row-most ordinal k v1 v2 =
    let a = field (numeral ordinal) comma in
    let b = field (numeral k) comma in
    let c = field (bytes_of v1) comma in
    let d = field (bytes_of v2) line_feed in
    omega (arith, joined a b c d, number-most ordinal comma, number-most k comma, label-most v1 comma, label-most v2 line_feed)

pub pair-most : (ordinal k v1 v2 : ℕ) → length (pair_line ordinal k v1 v2) ≤ longest_row
pair-most ordinal k v1 v2 = go (eqb v1 0)
  where
    go : (t : Bool) → length (cond t [] (row_line ordinal k v1 v2)) ≤ longest_row
    go true = omega arith
    go false = row-most ordinal k v1 v2

pub count_most : (k code count : ℕ) → length (count_line k code count) ≤ longest_count
unfolding count_line
count_most k code count =
    let a = field (numeral k) comma in
    let b = field (bytes_of code) comma in
    let c = field (numeral count) line_feed in
    let all : length (a ++ b ++ c) ≡ length a + length b + length c = rw (length-append (a ++ b) c, length-append a b) in
    omega (arith, all, number-most k comma, label-most code comma, number-most count line_feed)

-- ---- the lines of a sheet

-- the codes of a sheet two by two
pub pair-at : (n k : ℕ) (s : List ℕ) → k < n → length s ≡ 2 * n → get_or (first_chunks 2 n s) k [] ≡ get_or s (2 * k) 0 ∷ get_or s (2 * k + 1) 0 ∷ []
pair-at zero k s h e = absurd (omega arith)
pair-at (suc n) k [] h e = absurd (omega arith)
pair-at (suc n) k (a ∷ []) h e = absurd (omega arith)
pair-at (suc n) zero (a ∷ b ∷ s) h e = refl
pair-at (suc n) (suc k) (a ∷ b ∷ s) h e =
    let first : 2 * suc k ≡ suc (suc (2 * k)) = omega arith in
    let second : suc (suc (2 * k)) + 1 ≡ suc (suc (2 * k + 1)) = omega arith in
    rw (first, second) (pair-at n k s (omega arith) (omega arith))

pub rows-most : (ordinal k : ℕ) (codes : List ℕ) → 2 * length (row_lines ordinal k codes) ≤ longest_row * length codes
unfolding row_lines
rows-most ordinal k [] = omega arith
rows-most ordinal k (v1 ∷ []) = omega arith
rows-most ordinal k (v1 ∷ v2 ∷ codes) =
    rw (length-append (pair_line ordinal k v1 v2) (row_lines ordinal (k + 1) codes)) (omega (arith, pair-most ordinal k v1 v2, rows-most ordinal (k + 1) codes))

module _ (ordinal k : ℕ) (sheet : List ℕ) where
  pub rows_end : length sheet ≤ 2 * k → row_lines ordinal k (drop (2 * k) sheet) ≡ []
  unfolding row_lines
  rows_end h = rw (drop_of_length-le sheet h)

  pub rows_next : 2 * k + 1 < length sheet
      → row_lines ordinal k (drop (2 * k) sheet)
      ≡ pair_line ordinal k (get_or sheet (2 * k) 0) (get_or sheet (2 * k + 1) 0) ++ row_lines ordinal (k + 1) (drop (2 * (k + 1)) sheet)
  unfolding row_lines
  rows_next h =
      let second : suc (2 * k) ≡ 2 * k + 1 = omega arith in
      let third : suc (2 * k + 1) ≡ 2 * (k + 1) = omega arith in
      rw (drop-cons sheet (2 * k) 0 (omega arith), second, drop-cons sheet (2 * k + 1) 0 h, third)
