-- Of every input this program prints the table of its bars, or the last line that the labels program prints, a refusal line: both print
-- by the same lines after the same history. Assumes nothing.
use Rattle.std.specs.Prelude.{Option, Some, None, Ok, Err}
use Prim.Native.Nat.{ℕ, zero, suc, ◌+◌, ◌/◌, ◌%◌, ◌≤◌}
use mathlib.Core.Bool.{Bool, true, false, cond}
use mathlib.Core.List.{List, [], ◌∷◌, ◌++◌, map, append_assoc, append-nil}
use mathlib.Core.Logic.{◌⊎◌, inl, inr}
use mathlib.Core.Path.{◌≡◌, refl, ap, ◌∙◌}
use native.Mathlib.Omega.{arith}
use borrow.Author.Tests.{ltb-true, ne_eqb}
use lib.Dec.{ltb, eqb}
use lib.ListN.{length, length-append}
use Rattle.io.specs.Digits.{hex_digit_ascii, last_digits}
use Rattle.measures.specs.Bar.{Bar}
use Rattle.measures.proofs.Order.{both_ways}
use Rattle.answers.specs.declared.refusals.Refusal.{Refusal}
use Rattle.answers.specs.declared.refusals.Refusal.TheVariants as refusal
use Rattle.recognisers.specs.Refusal.{refusal_number}
use Rattle.recognisers.specs.Number.{most_bars}
use Rattle.text.specs.declared.line_text.LineError.TheVariants.{BadShape, BadPrice}
use Rattle.label_texts.specs.LabelText.{bytes_of}
use Rattle.input_lines.specs.Lines.{comma}
use Rattle.text.specs.LineText.{Line, line_of}
use Rattle.input_lines.specs.Lines.{line_feed, lines_from, lines_of}
use Rattle.input_lines.proofs.LineLaws.{lines_end, lines-feed, lines-byte}
use Rattle.output_lines.specs.declared.output.Stop.{Stop, TheVariants.By, TheVariants.Price}
use Rattle.output_lines.specs.Output.{digit_count, numeral, field, row_line, row_lines, refused_word, refusal_part, goes_on, refusal_line}
use Rattle.label_lines.specs.History.{newest_lines, lines_print, history_prints}
use Rattle.label_lines.proofs.HistoryRows.{history-output}
use Rattle.tally_lines.specs.History.{tally_prints}
use Rattle.tally_lines.specs.SameRefusal.{Tabled, WholeLines, Refused, SameRefusal}

-- ---- whole lines
whole_append : (xs ys : List ℕ) → WholeLines xs → WholeLines ys → WholeLines (xs ++ ys)
whole_append xs ys (inl e) y = rw e y
whole_append xs ys (inr x) (inl e) = inr (x.0, rw (e, append-nil) x.1)
whole_append xs ys (inr x) (inr (bytes, e)) = inr (xs ++ bytes, rw (e, append_assoc))

row-whole : (ordinal k v1 v2 : ℕ) → WholeLines (row_line ordinal k v1 v2)
unfolding row_line
row-whole ordinal k v1 v2 = inr (field (numeral ordinal) comma ++ field (numeral k) comma ++ field (bytes_of v1) comma ++ bytes_of v2, simp append_assoc)

rows_whole : (ordinal k : ℕ) (codes : List ℕ) → WholeLines (row_lines ordinal k codes)
unfolding row_lines
rows_whole ordinal k [] = inl refl
rows_whole ordinal k (v1 ∷ []) = inl refl
rows_whole ordinal k (v1 ∷ v2 ∷ codes) = whole_append _ _ (go (eqb v1 0)) (rows_whole ordinal (k + 1) codes)
  where
    go : (t : Bool) → WholeLines (cond t [] (row_line ordinal k v1 v2))
    go true = inl refl
    go false = row-whole ordinal k v1 v2

-- ---- the refusal line is one line: no byte before its end is a line feed
abbrev NoFeed : List ℕ → Type 0
NoFeed [] = Unit {0}
NoFeed (b ∷ bs) = (eqb b line_feed ≡ false) × NoFeed bs

free-append : (xs ys : List ℕ) → NoFeed xs → NoFeed ys → NoFeed (xs ++ ys)
free-append [] ys x y = y
free-append (b ∷ xs) ys x y = (x.0, free-append xs ys x.1 y)

free-glyph : (d : ℕ) → eqb (hex_digit_ascii d) line_feed ≡ false
free-glyph d = go (ltb d 10)
  where
    go : (t : Bool) → eqb (cond t (48 + d) (87 + d)) line_feed ≡ false
    go true = ne_eqb (48 + d) line_feed (λ e. omega (arith, e))
    go false = ne_eqb (87 + d) line_feed (λ e. omega (arith, e))

free-digits : (k n : ℕ) → NoFeed (last_digits 10 k n)
free-digits zero n = tt
free-digits (suc k) n = free-append (last_digits 10 k (n / 10)) (hex_digit_ascii (n % 10) ∷ []) (free-digits k (n / 10)) (free-glyph (n % 10), tt)

free-numeral : (n : ℕ) → NoFeed (numeral n)
unfolding numeral
free-numeral n = free-digits (digit_count 19 n) n

ends-line : (cur body : List ℕ) → NoFeed body → lines_from cur (body ++ (line_feed ∷ [])) ≡ (cur ++ body) ∷ []
ends-line cur [] f = rw append-nil (lines-feed cur [] ∙ ap (λ (x : List (List ℕ)). cur ∷ x) lines_end)
ends-line cur (b ∷ body) f = lines-byte cur b (body ++ (line_feed ∷ [])) f.0 ∙ ends-line (cur ++ (b ∷ [])) body f.1 ∙ rw append_assoc

-- a field with a comma behind it
free-field : (s : List ℕ) → NoFeed s → NoFeed (field s comma)
free-field s f = free-append s (comma ∷ []) f (refl, tt)

refusal-free : (ordinal : ℕ) (r : Refusal) → NoFeed (field refused_word comma ++ field (numeral ordinal) comma ++ numeral (refusal_number r))
refusal-free ordinal r =
    free-append (field refused_word comma) (field (numeral ordinal) comma ++ numeral (refusal_number r)) (refl, (refl, (refl, (refl, (refl, (refl, (refl, (refl, tt))))))))
    (free-append (field (numeral ordinal) comma) (numeral (refusal_number r)) (free-field (numeral ordinal) (free-numeral ordinal)) (free-numeral (refusal_number r)))

refusal-one : (ordinal : ℕ) (stop : Option Stop) → goes_on stop ≡ false → (line : List ℕ) × (lines_of (refusal_line ordinal stop) ≡ line ∷ [])
unfolding refusal_line refusal_part
refusal-one ordinal None e = both_ways refl e
refusal-one ordinal (Some (By r)) e =
    let body = field refused_word comma ++ field (numeral ordinal) comma ++ numeral (refusal_number r) in
    let is : field refused_word comma ++ field (numeral ordinal) comma ++ field (numeral (refusal_number r)) line_feed ≡ body ++ (line_feed ∷ []) = simp append_assoc in
    (body, ap lines_of is ∙ ends-line [] body (refusal-free ordinal r))
refusal-one ordinal (Some (Price place)) e =
    let front = field refused_word comma ++ field (numeral ordinal) comma ++ numeral (refusal_number refusal.BadPrice) in
    let body = field front comma ++ numeral place in
    let is : refusal_line ordinal (Some (Price place)) ≡ body ++ (line_feed ∷ []) = simp append_assoc in
    (body, ap lines_of is ∙ ends-line [] body (free-append (field front comma) (numeral place) (free-field front (refusal-free ordinal refusal.BadPrice)) (free-numeral place)))

-- ---- lines after a history
alone : (ordinal : ℕ) (stop : Option Stop) → goes_on stop ≡ false → Refused (refusal_line ordinal stop) (refusal_line ordinal stop)
alone ordinal stop e = record { ordinal = ordinal; stop = stop; refused = e; prints = refl; one_line = refusal-one ordinal stop e; rows = []; whole = inl refl; last = refl }

same : (h : List Bar) (lines : List Line) → length h ≤ most_bars → Tabled h lines (tally_prints h lines) ⊎ Refused (history_prints h lines) (tally_prints h lines)
unfolding lines_print
same h [] few = inl (record { bars = []; accepted = refl; few = rw append-nil few; prints = rw append-nil })
same h (Err BadShape ∷ lines) few = inr (alone (length h + 1) (Some (By refusal.BadShape)) refl)
same h (Err (BadPrice place) ∷ lines) few = inr (alone (length h + 1) (Some (Price place)) refl)
same h (Ok bar ∷ lines) few = go (ltb (length h) most_bars) refl (λ room. same (h ++ (bar ∷ [])) lines (rw (length-append h (bar ∷ [])) (omega (arith, ltb-true (length h) most_bars room))))
  where
    behind : {tally printed : List ℕ} → Tabled (h ++ (bar ∷ [])) lines tally ⊎ Refused printed tally
        → Tabled h (Ok bar ∷ lines) tally ⊎ Refused (newest_lines (h ++ (bar ∷ [])) ++ printed) tally
    behind (inl t) = inl (record { bars = bar ∷ t.bars; accepted = rw t.accepted; few = rw append_assoc at t.few; prints = rw append_assoc at t.prints })
    behind (inr r) =
        inr (record {
          ordinal = r.ordinal;
          stop = r.stop;
          refused = r.refused;
          prints = r.prints;
          one_line = r.one_line;
          rows = newest_lines (h ++ (bar ∷ [])) ++ r.rows;
          whole = whole_append _ r.rows (rows_whole _ 0 _) r.whole;
          last = rw (r.last, append_assoc);
        })

    go : (t : Bool) → ltb (length h) most_bars ≡ t → let more = h ++ (bar ∷ []) in
        (ltb (length h) most_bars ≡ true → Tabled more lines (tally_prints more lines) ⊎ Refused (history_prints more lines) (tally_prints more lines))
        → let past = refusal_line (length h + 1) (Some (By refusal.TooManyBars)) in
        let tally = cond t (tally_prints more lines) past in
        Tabled h (Ok bar ∷ lines) tally ⊎ Refused (cond t (newest_lines more ++ history_prints more lines) past) tally
    go true room rest = behind (rest room)
    go false full rest = inr (alone (length h + 1) (Some (By refusal.TooManyBars)) refl)

pub same-refusal : (input : List ℕ) → SameRefusal input
same-refusal input = rw (history-output input) (same [] (map line_of (lines_of input)) (omega arith))
