-- What reads leave, and then the input's end prints, is what the input's lines print over the whole history, however it is cut into reads.
-- Assumes nothing.
use Rattle.std.specs.Prelude.{Err, Ok, Some, None}
use Rattle.answers.specs.Refusal.{Verdict}
use Prim.Native.Nat.{ℕ, ◌+◌, ◌≤◌}
use mathlib.Core.Bool.{Bool, true, false, cond}
use mathlib.Core.List.{List, [], ◌∷◌, ◌++◌, map, flatten, append_assoc, append-nil}
use mathlib.Core.Path.{◌≡◌, refl, sym, ap, ◌∙◌}
use native.Mathlib.Omega.{arith}
use borrow.Author.Tests.{ltb-true, ltb-false, eqb-true, ne_eqb}
use lib.Dec.{ltb, eqb}
use lib.ListN.{length, length-append}
use Rattle.measures.specs.Bar.{Bar}
use Rattle.answers.specs.declared.refusals.Refusal.TheVariants as refusal
use Rattle.recognisers.specs.Number.{most_bars}
use Rattle.recognisers.specs.Refusal.{leaves}
use Rattle.tallies.specs.Tally.{fresh_tally}
use Rattle.text.specs.declared.line_text.LineError.TheVariants.{BadShape, BadPrice}
use Rattle.text.specs.LineText.{Line, line_of}
use Rattle.input_lines.specs.Lines.{line_feed, lines_from, kept_line}
use Rattle.input_lines.proofs.LineLaws.{lines_end, lines-last, lines-feed, lines-byte}
use Rattle.output_lines.specs.Output.{refusal_line}
use Rattle.label_lines.specs.History.{lines_print}
use Rattle.output_lines.specs.declared.output.Stop.TheVariants.{By}
use Rattle.label_lines.proofs.HistoryRows.{box_of}
use Rattle.tally_lines.specs.Output.{cell_lines, lines_of_tally}
use Rattle.tally_lines.specs.Session.{Read, State, after_line, read_from, fed_all, settled, state_after, reads_leave, closed, printed, end_prints, fresh_state}
use Rattle.tally_lines.specs.History.{history_tally, tally_prints, output_of}
use Rattle.tally_lines.proofs.ReadLaws.{read_kept, read-after, read-feed}
use Rattle.tally_lines.proofs.SessionLaws.{taken-append, none-taken}
use Rattle.tally_lines.proofs.HistoryLaws.{box-count, box-none, tally-fresh, fed-more, fed-past}

-- what a history has left, and then what was read behind it
abbrev after : List Bar → Read → State
after h r = settled (box_of h) (history_tally h) r

-- ---- a line after a history, where the rest is as it should be after every one
module _ (rest : List ℕ) (on : (h : List Bar) → length h ≤ most_bars → end_prints (after h (read_from [] [] rest)) ≡ tally_prints h (map line_of (lines_from [] rest))) where
  bar-line : (h : List Bar) (bar : Bar) (t : Bool) → ltb (length h) most_bars ≡ t → length h ≤ most_bars
      → end_prints (after h (read_from (bar ∷ []) [] rest))
      ≡ cond t (tally_prints (h ++ (bar ∷ [])) (map line_of (lines_from [] rest))) (refusal_line (length h + 1) (Some (By refusal.TooManyBars)))
  unfolding fed_all closed
  bar-line h bar true room few =
      let below = ltb-true (length h) most_bars room in
      let still : length (h ++ (bar ∷ [])) ≤ most_bars = rw (length-append h (bar ∷ [])) (omega (arith, below)) in
      rw (read-after (bar ∷ []) [] rest, fed-more h bar (omega (arith, below))) (on (h ++ (bar ∷ [])) still)
  bar-line h bar false full few =
      let most : length h ≡ most_bars = omega (arith, few, ltb-false (length h) most_bars full) in
      rw (read-after (bar ∷ []) [] rest, fed-past h bar most, box-count h)

  one_line : (h : List Bar) (l : Line) → length h ≤ most_bars
      → end_prints (after h (after_line l [] (λ more. read_from more [] rest))) ≡ tally_prints h (l ∷ map line_of (lines_from [] rest))
  unfolding lines_print fed_all closed
  one_line h (Ok bar) few = bar-line h bar (ltb (length h) most_bars) refl few
  one_line h (Err BadShape) few = rw (box-count h)
  one_line h (Err (BadPrice place)) few = rw (box-count h)

-- ---- the input's end

-- no line has begun
none_left : (h : List Bar) → end_prints (after h (read_from [] [] [])) ≡ tally_prints h (map line_of (lines_from [] []))
unfolding read_from fed_all closed lines_print
none_left h = rw lines_end

-- behind a line feed none has
closed_none : (s : State) → s.line ≡ [] → closed s ≡ s
unfolding closed
closed_none s e = rw e

by-feed : (v : Verdict) (l : List ℕ) → l ≡ [] → leaves v [] l ≡ []
by-feed (Ok tt) l e = e
by-feed (Err r) l e = refl

after-feed : (h : List Bar) (cur : List ℕ) → (after h (read_from [] cur (line_feed ∷ []))).line ≡ []
after-feed h cur = by-feed (fed_all (box_of h) (history_tally h) (read_from [] cur (line_feed ∷ [])).bars).verdict (read_from [] cur (line_feed ∷ [])).line (rw (read-feed cur))

last_line : (h : List Bar) (cur : List ℕ) → length h ≤ most_bars
    → end_prints (after h (read_from [] cur (line_feed ∷ []))) ≡ tally_prints h (line_of cur ∷ map line_of (lines_from [] []))
unfolding read_from
last_line h cur few = one_line [] (λ h' few'. none_left h') h (line_of cur) few

-- one that has takes its line feed in
begun-left : (h : List Bar) (cur : List ℕ) → after h (read_from [] cur []) ≡ record { line = kept_line cur; box = box_of h; tally = history_tally h; stop = None }
unfolding read_from fed_all
begun-left h cur = refl

some-closed : (s : State) → s.stop ≡ None → eqb (length s.line) 0 ≡ false → closed s ≡ settled s.box s.tally (read_from [] s.line (line_feed ∷ []))
unfolding closed state_after
some-closed s going some = rw (some, going)

begun-closed : (h : List Bar) (b : ℕ) (bs : List ℕ) → closed (after h (read_from [] (b ∷ bs) [])) ≡ after h (read_from [] (b ∷ bs) (line_feed ∷ []))
begun-closed h b bs =
    let s : State = record { line = kept_line (b ∷ bs); box = box_of h; tally = history_tally h; stop = None } in
    let some : eqb (length (kept_line (b ∷ bs))) 0 ≡ false = ne_eqb (length (kept_line (b ∷ bs))) 0 (λ none. omega arith) in
    ap closed (begun-left h (b ∷ bs)) ∙ some-closed s refl some ∙ ap (after h) (read_kept [] (b ∷ bs) (line_feed ∷ []))

-- so that it ends there
at-end : (h : List Bar) (cur : List ℕ) → length h ≤ most_bars → end_prints (after h (read_from [] cur [])) ≡ tally_prints h (map line_of (lines_from cur []))
at-end h [] few = none_left h
at-end h (b ∷ bs) few =
    let cur = b ∷ bs in
    let ended = after h (read_from [] cur (line_feed ∷ [])) in
    ap printed (begun-closed h b bs ∙ sym (closed_none ended (after-feed h cur))) ∙ last_line h cur few ∙ rw (lines-last b bs, lines_end)

-- ---- bytes after a history
byte-line : (rest : List ℕ) → ((h : List Bar) (cur : List ℕ) → length h ≤ most_bars → end_prints (after h (read_from [] cur rest)) ≡ tally_prints h (map line_of (lines_from cur rest)))
    → (h : List Bar) (cur : List ℕ) (b : ℕ) (t : Bool) → eqb b line_feed ≡ t → length h ≤ most_bars
    → end_prints (after h (cond t (after_line (line_of cur) [] (λ more. read_from more [] rest)) (read_from [] (cur ++ (b ∷ [])) rest))) ≡ tally_prints h (map line_of (lines_from cur (b ∷ rest)))
byte-line rest on h cur b true same few =
    let feed : b ≡ line_feed = eqb-true b line_feed same in
    rw (feed, lines-feed cur rest) (one_line rest (λ h' few'. on h' [] few') h (line_of cur) few)
byte-line rest on h cur b false plain few = rw (lines-byte cur b rest plain) (on h (cur ++ (b ∷ [])) few)

pub after-history : (h : List Bar) (cur bytes : List ℕ) → length h ≤ most_bars → end_prints (after h (read_from [] cur bytes)) ≡ tally_prints h (map line_of (lines_from cur bytes))
unfolding read_from
after-history h cur [] few = at-end h cur few
after-history h cur (b ∷ rest) few = byte-line rest (λ h' cur' few'. after-history h' cur' rest few') h cur b (eqb b line_feed) refl few

-- ---- the program

-- in one read
pub whole : (input : List ℕ) → end_prints (state_after fresh_state input) ≡ output_of input
unfolding state_after
whole input = rw (box-none, ← tally-fresh) (after-history [] [] input (omega arith))

-- in several: the same as in one
reads-join : (s : State) (bytes : List ℕ) (reads : List (List ℕ)) → reads_leave (state_after s bytes) reads ≡ state_after s (bytes ++ flatten reads)
unfolding reads_leave flatten
reads-join s bytes [] = rw append-nil
reads-join s bytes (more ∷ reads) = rw (← taken-append s bytes more, reads-join s (bytes ++ more) reads, append_assoc)

-- the theorem of the program: however its input is cut into reads, it prints what the input's lines print
pub reads-print : (reads : List (List ℕ)) → end_prints (reads_leave fresh_state reads) ≡ output_of (flatten reads)
reads-print reads =
    ap (λ (s : State). end_prints (reads_leave s reads)) (sym (none-taken [] fresh_state.box fresh_tally None refl))
    ∙ ap end_prints (reads-join fresh_state [] reads)
    ∙ whole (flatten reads)

-- an input without a byte prints nothing
pub none-prints : output_of [] ≡ []
unfolding lines_print lines_of_tally cell_lines fresh_tally
none-prints = rw (lines_end, tally-fresh)
