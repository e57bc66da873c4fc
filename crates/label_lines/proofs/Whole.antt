-- What the bytes of an input print, and its end, is what its lines print, however it is cut into reads. Assumes nothing.
use Prim.Native.Nat.{ℕ}
use mathlib.Core.Bool.{Bool, true, false, cond}
use mathlib.Core.List.{List, [], ◌∷◌, ◌++◌, flatten, append_assoc, append-nil}
use mathlib.Core.Logic.{◌⊎◌, ⊎_elim}
use mathlib.Core.Path.{◌≡◌, refl, sym, ap, ◌∙◌}
use native.Mathlib.Omega.{arith}
use borrow.Author.Tests.{eqb-true, ne_eqb}
use lib.Dec.{eqb}
use lib.ListN.{length, drop, take-append-drop}
use Rattle.input_lines.specs.Lines.{line_feed, lines_from, kept_line}
use Rattle.input_lines.proofs.LineLaws.{lines_end, lines-last, lines-feed, lines-byte, kept-kept}
use Rattle.label_lines.specs.Output.{line_step, printed_of, output_of}
use Rattle.label_lines.specs.Session.{State, fresh_state, ended, grown, byte_leaves, byte_prints, state_after, prints, used_of, taken_bytes, end_prints, reads_print, parts_of}
use Rattle.label_lines.proofs.SessionLaws.{step_kept, leaves-append, prints-append, stopped-leaves, stopped-prints, byte-grows, byte-ends, byte-quiet, feed-prints}

-- what bytes print, and then the input's end
abbrev all_print : State → List ℕ → List ℕ
all_print s input = prints s input ++ end_prints (state_after s input)

-- one byte more
byte-first : (s : State) (b : ℕ) (rest : List ℕ) → all_print s (b ∷ rest) ≡ byte_prints s b ++ all_print (byte_leaves s b) rest
unfolding prints state_after
byte-first s b rest = append_assoc (byte_prints s b) (prints (byte_leaves s b) rest) (end_prints (state_after (byte_leaves s b) rest))

-- nothing follows a refusal
stopped-all : (s : State) (rest : List ℕ) → s.stopped ≡ true → all_print s rest ≡ []
unfolding end_prints
stopped-all s rest e = rw (stopped-prints s rest e, stopped-leaves s rest e, e)

-- the input's end, where the line is all of full
at-end : (s : State) (full : List ℕ) → s.stopped ≡ false → s.line ≡ kept_line full → end_prints s ≡ printed_of s.box (lines_from full [])
unfolding end_prints printed_of
at-end s [] going e = rw (going, e, lines_end)
at-end s (b ∷ bs) going e =
    let some : eqb (length (kept_line (b ∷ bs))) 0 ≡ false = ne_eqb (length (kept_line (b ∷ bs))) 0 (λ none. omega arith) in
    rw (going, e, some, lines-last b bs, step_kept s.box (b ∷ bs)) (last (line_step s.box (b ∷ bs)).stops)
  where
    last : (t : Bool) → (line_step s.box (b ∷ bs)).printed ≡ (line_step s.box (b ∷ bs)).printed ++ cond t [] []
    last true = rw append-nil
    last false = rw append-nil

-- what the rest prints after a line's end, where it stops or not
module _ (s : State) (rest : List ℕ)
    (on : (s' : State) (full : List ℕ) → s'.stopped ≡ false → s'.line ≡ kept_line full → all_print s' rest ≡ printed_of s'.box (lines_from full rest)) where
  after : (t : Bool) → (line_step s.box s.line).stops ≡ t
      → all_print (ended s) rest ≡ cond t [] (printed_of (line_step s.box s.line).after (lines_from [] rest))
  after true stops = stopped-all (ended s) rest stops
  after false stops = on (ended s) [] stops refl

  by_byte : (full : List ℕ) (b : ℕ) (t : Bool) → eqb b line_feed ≡ t → s.stopped ≡ false → s.line ≡ kept_line full
      → byte_prints s b ++ all_print (byte_leaves s b) rest ≡ printed_of s.box (lines_from full (b ∷ rest))
  unfolding printed_of
  by_byte full b true same going e =
      let feed : b ≡ line_feed = eqb-true b line_feed same in
      let kept : line_step s.box s.line ≡ line_step s.box full = rw e (step_kept s.box full) in
      rw (feed, feed-prints s going, byte-ends s going, lines-feed full rest, ← kept, after (line_step s.box s.line).stops refl)
  by_byte full b false plain going e =
      rw (byte-quiet s going b plain, byte-grows s going b plain, lines-byte full b rest plain) (on (grown s (b ∷ [])) (full ++ (b ∷ [])) going (rw e (kept-kept full (b ∷ []))))

pub from-state : (s : State) (full input : List ℕ) → s.stopped ≡ false → s.line ≡ kept_line full → all_print s input ≡ printed_of s.box (lines_from full input)
unfolding prints state_after
from-state s full [] going e = at-end s full going e
from-state s full (b ∷ rest) going e = byte-first s b rest ∙ by_byte s rest (λ s' full' g e'. from-state s' full' rest g e') full b (eqb b line_feed) refl going e

-- in one read
pub whole : (input : List ℕ) → all_print fresh_state input ≡ output_of input
whole input = from-state fresh_state [] input refl refl

-- in several: the same as in one
pub reads-join : (s : State) (reads : List (List ℕ)) → reads_print s reads ≡ all_print s (flatten reads)
unfolding reads_print flatten prints state_after
reads-join s [] = refl
reads-join s (bytes ∷ reads) = rw (prints-append s bytes (flatten reads), leaves-append s bytes (flatten reads), append_assoc) (ap (λ (l : List ℕ). prints s bytes ++ l) (reads-join (state_after s bytes) reads))

-- the theorem of the program: however its input is cut into reads, it prints what the input's lines print
pub reads-print : (reads : List (List ℕ)) → reads_print fresh_state reads ≡ output_of (flatten reads)
reads-print reads = reads-join fresh_state reads ∙ whole (flatten reads)

-- ---- an input that is taken in part by part, as `absorb` does where each call is handed what the calls before it left

-- the parts are the input's, up to some place
parts-front : (s : State) (rooms input : List ℕ) → (rest : List ℕ) × (flatten (parts_of s rooms input) ++ rest ≡ input)
unfolding flatten parts_of
parts-front s [] input = (input, refl)
parts-front s (room ∷ rooms) input =
    let more = parts-front (state_after s (taken_bytes room s input)) rooms (drop (used_of room s input) input) in
    (more.0, rw (append_assoc, more.1) (take-append-drop (used_of room s input) input))

-- nothing follows a refusal
stopped_more : (s : State) (xs rest : List ℕ) → (state_after s xs).stopped ≡ true → all_print s (xs ++ rest) ≡ all_print s xs
stopped_more s xs rest e = rw (prints-append s xs rest, leaves-append s xs rest, stopped-prints (state_after s xs) rest e, stopped-leaves (state_after s xs) rest e, append-nil)

-- the same as in one, once a line was refused or all is used
pub parts-print : (rooms input : List ℕ) → let parts = parts_of fresh_state rooms input in
    ((state_after fresh_state (flatten parts)).stopped ≡ true) ⊎ (flatten parts ≡ input)
    → reads_print fresh_state parts ≡ output_of input
parts-print rooms input =
    let parts = parts_of fresh_state rooms input in
    let front = parts-front fresh_state rooms input in
    ⊎_elim (λ stopped. reads-join fresh_state parts ∙ sym (stopped_more fresh_state (flatten parts) front.0 stopped) ∙ rw front.1 (whole input)) (λ all. reads-print parts ∙ ap output_of all)
