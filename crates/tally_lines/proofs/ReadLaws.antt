-- Bytes read as lines: a begun line of which the first bytes are kept, one run behind another, and the bytes up to the end of a line.
-- Assumes nothing.
use Rattle.std.specs.Prelude.{None, Ok, Err}
use Prim.Native.Nat.{ℕ, ◌+◌, ◌<◌}
use mathlib.Core.Bool.{Bool, true, false, cond, not}
use mathlib.Core.List.{List, [], ◌∷◌, ◌++◌, append_assoc, append-nil}
use mathlib.Core.Path.{◌≡◌, refl, sym, ap, ◌∙◌}
use borrow.Author.Tests.{not-true}
use lib.Dec.{eqb}
use lib.ListN.{length, take, drop}
use lib.Seq.{take-add}
use Rattle.measures.specs.Bar.{Bar}
use Rattle.text.specs.declared.line_text.LineError.TheVariants.{BadShape, BadPrice}
use Rattle.text.specs.LineText.{Line, line_of}
use Rattle.input_lines.specs.declared.lines.Partial.{Partial}
use Rattle.input_lines.specs.Lines.{line_feed, piece_end, kept_line, content, partial_of}
use Rattle.input_lines.proofs.LineLaws.{kept-kept, content-partial}
use Rattle.text.proofs.LineTextLaws.{line_kept}
use Rattle.input_lines.proofs.RunLaws.{all_pass, run-taken}
use Rattle.label_lines.proofs.SessionLaws.{with-feed}
use Rattle.output_lines.specs.Output.{goes_on}
use Rattle.tally_lines.specs.declared.reading.Gathered.{Gathered}
use Rattle.tally_lines.specs.Session.{Read, after_line, read_from, line_bars, line_stop}
use Rattle.tally_lines.specs.SessionSteps.{gathered_of}

-- ---- a line of which the first bytes are kept
kept_same : (bars : List Bar) (a b bytes : List ℕ) → kept_line a ≡ kept_line b → read_from bars a bytes ≡ read_from bars b bytes
unfolding read_from
kept_same bars a b [] e = rw e
kept_same bars a b (x ∷ bytes) e = go (eqb x line_feed) (kept_same bars (a ++ (x ∷ [])) (b ++ (x ∷ [])) bytes grown)
  where
    grown : kept_line (a ++ (x ∷ [])) ≡ kept_line (b ++ (x ∷ []))
    grown = sym (kept-kept a (x ∷ [])) ∙ ap (λ (l : List ℕ). kept_line (l ++ (x ∷ []))) e ∙ kept-kept b (x ∷ [])

    says : line_of a ≡ line_of b
    says = sym (line_kept a) ∙ ap line_of e ∙ line_kept b

    go : (t : Bool) → read_from bars (a ++ (x ∷ [])) bytes ≡ read_from bars (b ++ (x ∷ [])) bytes
        → cond t (after_line (line_of a) bars (λ more. read_from more [] bytes)) (read_from bars (a ++ (x ∷ [])) bytes)
        ≡ cond t (after_line (line_of b) bars (λ more. read_from more [] bytes)) (read_from bars (b ++ (x ∷ [])) bytes)
    go true rest = ap (λ l. after_line l bars (λ more. read_from more [] bytes)) says
    go false rest = rest

pub kept_again : (a : List ℕ) → kept_line (kept_line a) ≡ kept_line a
kept_again a = rw (append-nil, append-nil) at (kept-kept a [])

pub read_kept : (bars : List Bar) (cur bytes : List ℕ) → read_from bars (kept_line cur) bytes ≡ read_from bars cur bytes
read_kept bars cur bytes = kept_same bars (kept_line cur) cur bytes (kept_again cur)

-- ---- one run of bytes behind another

-- reading goes on from what was read
abbrev pub resumed : Read → List ℕ → Read
resumed r bytes = cond (goes_on r.stop) (read_from r.bars r.line bytes) r

pub read-append : (bars : List Bar) (cur xs ys : List ℕ) → read_from bars cur (xs ++ ys) ≡ resumed (read_from bars cur xs) ys
unfolding read_from
read-append bars cur [] ys = sym (read_kept bars cur ys)
read-append bars cur (x ∷ xs) ys = go (eqb x line_feed) (λ more. read-append more [] xs ys) (read-append bars (cur ++ (x ∷ [])) xs ys)
  where
    after : (l : Line) → ((more : List Bar) → read_from more [] (xs ++ ys) ≡ resumed (read_from more [] xs) ys)
        → after_line l bars (λ more. read_from more [] (xs ++ ys)) ≡ resumed (after_line l bars (λ more. read_from more [] xs)) ys
    after (Ok bar) on = on (bars ++ (bar ∷ []))
    after (Err BadShape) on = refl
    after (Err (BadPrice place)) on = refl

    go : (t : Bool) → ((more : List Bar) → read_from more [] (xs ++ ys) ≡ resumed (read_from more [] xs) ys)
        → read_from bars (cur ++ (x ∷ [])) (xs ++ ys) ≡ resumed (read_from bars (cur ++ (x ∷ [])) xs) ys
        → cond t (after_line (line_of cur) bars (λ more. read_from more [] (xs ++ ys))) (read_from bars (cur ++ (x ∷ [])) (xs ++ ys))
        ≡ resumed (cond t (after_line (line_of cur) bars (λ more. read_from more [] xs)) (read_from bars (cur ++ (x ∷ [])) xs)) ys
    go true on rest = after (line_of cur) on
    go false on rest = rest

-- ---- bars before those that were read
abbrev pub behind : List Bar → Read → Read
behind before r = record { bars = before ++ r.bars; line = r.line; stop = r.stop }

read_behind : (before bars : List Bar) (cur bytes : List ℕ) → read_from (before ++ bars) cur bytes ≡ behind before (read_from bars cur bytes)
unfolding read_from
read_behind before bars cur [] = refl
read_behind before bars cur (x ∷ bytes) = go (eqb x line_feed) (λ more. read_behind before more [] bytes) (read_behind before bars (cur ++ (x ∷ [])) bytes)
  where
    after : (l : Line) → ((more : List Bar) → read_from (before ++ more) [] bytes ≡ behind before (read_from more [] bytes))
        → after_line l (before ++ bars) (λ more. read_from more [] bytes) ≡ behind before (after_line l bars (λ more. read_from more [] bytes))
    after (Ok bar) on = rw append_assoc (on (bars ++ (bar ∷ [])))
    after (Err BadShape) on = refl
    after (Err (BadPrice place)) on = refl

    go : (t : Bool) → ((more : List Bar) → read_from (before ++ more) [] bytes ≡ behind before (read_from more [] bytes))
        → read_from (before ++ bars) (cur ++ (x ∷ [])) bytes ≡ behind before (read_from bars (cur ++ (x ∷ [])) bytes)
        → cond t (after_line (line_of cur) (before ++ bars) (λ more. read_from more [] bytes)) (read_from (before ++ bars) (cur ++ (x ∷ [])) bytes)
        ≡ behind before (cond t (after_line (line_of cur) bars (λ more. read_from more [] bytes)) (read_from bars (cur ++ (x ∷ [])) bytes))
    go true on rest = after (line_of cur) on
    go false on rest = rest

pub read-after : (bars : List Bar) (cur bytes : List ℕ) → read_from bars cur bytes ≡ behind bars (read_from [] cur bytes)
read-after bars cur bytes = rw append-nil at (read_behind bars [] cur bytes)

-- n bytes of a chunk more, after u of them
pub read-turn : (cur chunk : List ℕ) (u n : ℕ) (r : Read) → r ≡ read_from [] cur (take u chunk) → goes_on r.stop ≡ true
    → read_from [] cur (take (u + n) chunk) ≡ behind r.bars (read_from [] r.line (take n (drop u chunk)))
read-turn cur chunk u n r is going =
    let rest = take n (drop u chunk) in
    rw (take-add u n chunk, read-append [] cur (take u chunk) rest, ← is, going) (read-after r.bars r.line rest)

-- ---- bytes up to the end of a line

-- bytes without a line feed
quiet : (bars : List Bar) (cur xs : List ℕ) → piece_end line_feed xs ≡ length xs → read_from bars cur xs ≡ record { bars = bars; line = kept_line (cur ++ xs); stop = None }
unfolding read_from
quiet bars cur [] e = rw append-nil
quiet bars cur (x ∷ xs) e =
    let pass = all_pass (λ b. not (eqb b line_feed)) x xs e in
    rw (not-true (eqb x line_feed) pass.0) (quiet bars (cur ++ (x ∷ [])) xs pass.1 ∙ rw append_assoc)

-- and the line feed behind them
after-feed : (l : Line) → after_line l [] (λ more. read_from more [] []) ≡ record { bars = line_bars l; line = []; stop = line_stop l }
unfolding read_from
after-feed (Ok bar) = refl
after-feed (Err BadShape) = refl
after-feed (Err (BadPrice place)) = refl

pub read-feed : (cur : List ℕ) → read_from [] cur (line_feed ∷ []) ≡ record { bars = line_bars (line_of cur); line = []; stop = line_stop (line_of cur) }
unfolding read_from
read-feed cur = after-feed (line_of cur)

module _ (cur chunk : List ℕ) (k : ℕ) (is : k ≡ piece_end line_feed chunk) where
  alone : piece_end line_feed (take k chunk) ≡ length (take k chunk)
  alone = rw is (run-taken (λ b. not (eqb b line_feed)) chunk)

  pub read-rest : read_from [] cur (take k chunk) ≡ record { bars = []; line = kept_line (cur ++ take k chunk); stop = None }
  read-rest = quiet [] cur (take k chunk) alone

  pub read-line : k < length chunk
      → let l = line_of (kept_line (cur ++ take k chunk)) in
      read_from [] cur (take (k + 1) chunk) ≡ record { bars = line_bars l; line = []; stop = line_stop l }
  read-line inside =
      let with-line : take (k + 1) chunk ≡ take k chunk ++ (line_feed ∷ []) = rw is (with-feed chunk (rw is at inside)) in
      rw (with-line, read-append [] cur (take k chunk) (line_feed ∷ []), read-rest) (read-feed (kept_line (cur ++ take k chunk)))

-- ---- what was gathered

-- field by field
pub gathered-is : (g : Gathered) (used n : ℕ) (r : Read) → g.line ≡ partial_of r.line → g.used ≡ used → g.bars ≡ n + length r.bars → g.stop ≡ r.stop
    → g ≡ gathered_of used n r
gathered-is g used n r line bytes bars stop = rw (← line, ← bytes, ← bars, ← stop)

-- a line of kept bytes is that of its own
pub begun_kept : (p : Partial) (l : List ℕ) → p ≡ partial_of (kept_line l) → p ≡ partial_of (kept_line (content p))
begun_kept p l e = rw (e, content-partial (kept_line l), kept_again l)
