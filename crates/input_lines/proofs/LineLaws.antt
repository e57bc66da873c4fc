-- Pieces and lines, one byte or one piece at a time, and what is kept of a line that has begun. Assumes nothing.
use Prim.Native.Nat.{ℕ, zero, suc, ◌+◌, ◌-◌, ◌≤◌, ◌<◌, min}
use mathlib.Core.Bool.{Bool, true, false, cond, not}
use mathlib.Core.List.{List, [], ◌∷◌, ◌++◌, append_assoc, append-nil}
use mathlib.Core.Path.{◌≡◌, refl, ap, ◌∙◌}
use native.Mathlib.Numerals.{add-one}
use native.Mathlib.Omega.{arith}
use lib.Dec.{eqb}
use borrow.Rule.Slice.PartMut.{put_mid}
use lib.ListN.{length, take, drop, replicate, length-take, length-append}
use lib.Seq.{take-append_seam, take_at}
use Rattle.std.proofs.lemmas.List.{drop_at, drop-replicate}
use Rattle.rule_types.specs.Number.{longest_line}
use Rattle.input_lines.specs.declared.lines.Partial.{Partial}
use Rattle.input_lines.specs.Lines.{line_feed, pieces_from, pieces_of, ended_lines, lines_from, lines_of, run_of, piece_end, kept_line, content, partial_of}
use Rattle.measures.proofs.RunLaws.{take-least}
use Rattle.input_lines.proofs.PartLaws.{to_end, take_beyond}

-- ---- pieces

-- no separator: one piece
pub pieces-last : (sep : ℕ) (cur s : List ℕ) → piece_end sep s ≡ length s → pieces_from sep cur s ≡ (cur ++ s) ∷ []
unfolding pieces_from run_of
pieces-last sep cur [] e = rw append-nil
pieces-last sep cur (b ∷ bs) e = go (eqb b sep) (pieces-last sep (cur ++ (b ∷ [])) bs) e
  where
    go : (t : Bool) → (piece_end sep bs ≡ length bs → pieces_from sep (cur ++ (b ∷ [])) bs ≡ ((cur ++ (b ∷ [])) ++ bs) ∷ [])
        → cond (not t) (suc (piece_end sep bs)) 0 ≡ suc (length bs)
        → cond t (cur ∷ pieces_from sep [] bs) (pieces_from sep (cur ++ (b ∷ [])) bs) ≡ (cur ++ (b ∷ bs)) ∷ []
    go true rest e = absurd (omega arith)
    go false rest e = rest (omega arith) ∙ rw append_assoc

-- the piece before the first separator, and those behind it
pub pieces-next : (sep : ℕ) (cur s : List ℕ) → piece_end sep s < length s
    → pieces_from sep cur s ≡ (cur ++ take (piece_end sep s) s) ∷ pieces_of sep (drop (piece_end sep s + 1) s)
unfolding pieces_from run_of
pieces-next sep cur [] h = absurd (omega arith)
pieces-next sep cur (b ∷ bs) h = go (eqb b sep) (pieces-next sep (cur ++ (b ∷ [])) bs) h
  where
    go : (t : Bool)
        → (piece_end sep bs < length bs
        → pieces_from sep (cur ++ (b ∷ [])) bs ≡ ((cur ++ (b ∷ [])) ++ take (piece_end sep bs) bs) ∷ pieces_of sep (drop (piece_end sep bs + 1) bs))
        → let k = cond (not t) (suc (piece_end sep bs)) 0 in
        k < suc (length bs)
        → cond t (cur ∷ pieces_from sep [] bs) (pieces_from sep (cur ++ (b ∷ [])) bs) ≡ (cur ++ take k (b ∷ bs)) ∷ pieces_of sep (drop (k + 1) (b ∷ bs))
    go true rest h = rw append-nil
    go false rest h = rest (omega arith) ∙ rw (append_assoc, add-one (piece_end sep bs), add-one (suc (piece_end sep bs)))

-- there is always a piece
pub pieces-some : (sep : ℕ) (cur s : List ℕ) → 1 ≤ length (pieces_from sep cur s)
unfolding pieces_from
pieces-some sep cur [] = omega arith
pieces-some sep cur (b ∷ bs) = go (eqb b sep) (pieces-some sep (cur ++ (b ∷ [])) bs)
  where
    go : (t : Bool) → 1 ≤ length (pieces_from sep (cur ++ (b ∷ [])) bs)
        → 1 ≤ length (cond t (cur ∷ pieces_from sep [] bs) (pieces_from sep (cur ++ (b ∷ [])) bs))
    go true rest = omega arith
    go false rest = rest

-- both cases from a place k that is known to be the first piece's end
module _ (sep : ℕ) (s : List ℕ) (k : ℕ) (e : k ≡ piece_end sep s) where
  pub pieces_whole : length s ≤ k → k ≤ length s → pieces_of sep s ≡ s ∷ []
  pieces_whole h g = pieces-last sep [] s (omega arith)

  pub pieces-cut : k < length s → pieces_of sep s ≡ take k s ∷ pieces_of sep (take (length s - (k + 1)) (drop (k + 1) s))
  pieces-cut h = rw (to_end s (k + 1), e) (pieces-next sep [] s (omega arith))

-- ---- lines

pub lines_end : lines_from [] [] ≡ []
unfolding pieces_from ended_lines
lines_end = refl

pub lines-last : (b : ℕ) (bs : List ℕ) → lines_from (b ∷ bs) [] ≡ (b ∷ bs) ∷ []
unfolding pieces_from ended_lines
lines-last b bs = refl

-- a piece with another behind it is a line
ended-more : (l : List ℕ) (ls : List (List ℕ)) → 1 ≤ length ls → ended_lines (l ∷ ls) ≡ l ∷ ended_lines ls
unfolding ended_lines
ended-more l [] h = absurd (omega arith)
ended-more l (m ∷ ls) h = refl

pub lines-feed : (cur s : List ℕ) → lines_from cur (line_feed ∷ s) ≡ cur ∷ lines_from [] s
unfolding pieces_from
lines-feed cur s = ended-more cur (pieces_of line_feed s) (pieces-some line_feed [] s)

pub lines-byte : (cur : List ℕ) (b : ℕ) (s : List ℕ) → eqb b line_feed ≡ false → lines_from cur (b ∷ s) ≡ lines_from (cur ++ (b ∷ [])) s
unfolding pieces_from
lines-byte cur b s e = rw e

pub lines-first : (s : List ℕ) → piece_end line_feed s < length s
    → lines_of s ≡ take (piece_end line_feed s) s ∷ lines_of (drop (piece_end line_feed s + 1) s)
lines-first s h =
    let k = piece_end line_feed s in
    let rest = drop (k + 1) s in
    rw (pieces-next line_feed [] s h) (ended-more (take k s) (pieces_of line_feed rest) (pieces-some line_feed [] rest))

-- ---- a line that has begun

-- what is kept of a line that grows
take-front : (n : ℕ) (a b : List ℕ) → take n (take n a ++ b) ≡ take n (a ++ b)
take-front zero a b = refl
take-front (suc n) [] b = refl
take-front (suc n) (x ∷ a) b = ap (λ (l : List ℕ). x ∷ l) (take-front n a b)

pub kept-kept : (a b : List ℕ) → kept_line (kept_line a ++ b) ≡ kept_line (a ++ b)
kept-kept a b = take-front (suc longest_line) a b

-- the line of some bytes, its content, and what it is field by field
pub content-partial : (l : List ℕ) → content (partial_of l) ≡ l
unfolding partial_of
content-partial l = take-append_seam l (replicate (suc longest_line - length l) 0)

pub partial-is : (l bytes : List ℕ) (n : ℕ) → length l ≡ n → bytes ≡ l ++ replicate (suc longest_line - n) 0 → record { bytes = bytes; len = n } ≡ partial_of l
unfolding partial_of
partial-is l bytes n e is = rw (is, e)

pub partial-fields : (p : Partial) (l : List ℕ) → p ≡ partial_of l → (p.bytes ≡ l ++ replicate (suc longest_line - length l) 0) × (p.len ≡ length l)
unfolding partial_of
partial-fields p l e = (ap (λ (q : Partial). q.bytes) e, ap (λ (q : Partial). q.len) e)

-- the bytes of a line that count, so many of s as there is room for, and zeros
pub filled : (line : Partial) (s front added : List ℕ) (b a : ℕ) → length line.bytes ≡ suc longest_line → b ≡ min line.len (suc longest_line)
    → a ≡ min (length s) (suc longest_line - b) → front ≡ take b line.bytes → added ≡ take a s
    → record { bytes = put_mid b (b + a - b) (front ++ drop b (replicate (suc longest_line) 0)) added; len = b + a } ≡ partial_of (kept_line (content line ++ s))
filled line s front added b a all begun more is-front is-added =
    let room = suc longest_line - b in
    let is-content : front ≡ content line = is-front ∙ rw begun (take-least line.len (suc longest_line) line.bytes all) in
    let front-len : length front ≡ b = rw (is-front, length-take) (omega arith) in
    let added-len : length added ≡ a = rw (is-added, length-take) (omega arith) in
    let part : a ≡ min room (length s) = omega arith in
    let kept : take (suc longest_line) (content line ++ s) ≡ front ++ added =
    rw (← is-content, take_beyond (suc longest_line) front s (omega arith), front-len, is-added, part, take-least room (length s) s refl) in
    let k : b + a - b ≡ a = omega arith in
    let left : room - a ≡ suc longest_line - (b + a) = omega arith in
    let bytes : put_mid b (b + a - b) (front ++ drop b (replicate (suc longest_line) 0)) added ≡ (front ++ added) ++ replicate (suc longest_line - (b + a)) 0 =
    rw (k, take_at front _ b front-len, drop_at front _ b front-len, drop-replicate, drop-replicate, left) (simp append_assoc) in
    rw kept (partial-is (front ++ added) _ (b + a) (simp length-append (omega arith)) bytes)
