-- Runs of bytes: one behind the other, one without a line feed, one that ends with it, and one after a refusal; how many are taken in;
-- and a fed bar. Assumes nothing.
use Rattle.std.specs.Prelude.{Err, Ok}
use Prim.Native.Nat.{ℕ, suc, ◌+◌, ◌-◌, ◌≤◌, ◌<◌}
use mathlib.Core.Bool.{Bool, true, false, cond, not, ◌&&◌, ◌||◌, true≢false}
use mathlib.Core.List.{List, [], ◌∷◌, ◌++◌, append_assoc, append-nil}
use mathlib.Core.Path.{◌≡◌, refl, sym, ap, ◌∙◌}
use native.Mathlib.Nat.{not-suc-le-zero}
use native.Mathlib.Numerals.{add-one}
use native.Mathlib.Omega.{arith}
use borrow.Author.Tests.{ltb-true, ltb-false, leb-true, leb-false, eqb-true, lt-ltb, le-ltb, le-leb, not-true}
use lib.Dec.{ltb, leb, eqb}
use lib.ListN.{length, take, drop, replicate, length-append, length-take, take-append-drop, drop_of_length-le}
use lib.Seq.{take_all, take-add, length-take-le}
use Rattle.measures.specs.Bar.{Bar, prices_of}
use Rattle.answers.specs.declared.refusals.Refusal.{Refusal}
use Rattle.recognisers.specs.Number.{longest_line, row_bytes}
use Rattle.box_record.specs.declared.boxes.BarBox.{BarBox}
use Rattle.box_record.specs.declared.boxes.Outcome.{Outcome}
use Rattle.bar_box.specs.Box.{fed_of, sheet_of}
use Rattle.input_lines.specs.declared.lines.Partial.{Partial}
use Rattle.input_lines.specs.Lines.{run_of}
use Rattle.input_lines.specs.Lines.{line_feed, piece_end, kept_line, content, partial_of}
use Rattle.input_lines.proofs.LineLaws.{kept-kept, content-partial}
use Rattle.text.proofs.LineTextLaws.{line_kept}
use Rattle.input_lines.proofs.RunLaws.{both, all_pass, run-taken}
use Rattle.output_lines.specs.declared.output.Stop.TheVariants.{By}
use Rattle.label_lines.specs.declared.session.Session.{Session}
use Rattle.output_lines.specs.Output.{row_lines, line_room}
use Rattle.label_lines.specs.Output.{refused_step, fed_step, line_step}
use Rattle.label_lines.specs.Session.{State, state_of, session_of, ended, grown, byte_leaves, byte_prints, state_after, prints, used_of, end_prints}

-- ---- one behind the other
pub leaves-append : (s : State) (xs ys : List ℕ) → state_after s (xs ++ ys) ≡ state_after (state_after s xs) ys
unfolding state_after
leaves-append s [] ys = refl
leaves-append s (x ∷ xs) ys = leaves-append (byte_leaves s x) xs ys

pub prints-append : (s : State) (xs ys : List ℕ) → prints s (xs ++ ys) ≡ prints s xs ++ prints (state_after s xs) ys
unfolding state_after prints
prints-append s [] ys = refl
prints-append s (x ∷ xs) ys = rw (append_assoc, prints-append (byte_leaves s x) xs ys)

-- ---- after a refusal
stopped-byte : (s : State) (b : ℕ) → s.stopped ≡ true → (byte_leaves s b ≡ s) × (byte_prints s b ≡ [])
unfolding byte_leaves byte_prints
stopped-byte s b e =
    (ap (λ (t : Bool). cond t s (cond (eqb b line_feed) (ended s) (grown s (b ∷ [])))) e, ap (λ (t : Bool). cond t [] (cond (eqb b line_feed) (line_step s.box s.line).printed [])) e)

pub stopped-leaves : (s : State) (xs : List ℕ) → s.stopped ≡ true → state_after s xs ≡ s
unfolding state_after
stopped-leaves s [] e = refl
stopped-leaves s (x ∷ xs) e = rw (stopped-byte s x e).0 (stopped-leaves s xs e)

pub stopped-prints : (s : State) (xs : List ℕ) → s.stopped ≡ true → prints s xs ≡ []
unfolding prints
stopped-prints s [] e = refl
stopped-prints s (x ∷ xs) e = rw ((stopped-byte s x e).0, (stopped-byte s x e).1) (stopped-prints s xs e)

-- ---- bytes without a line feed
pub kept-short : (a : List ℕ) → length (kept_line a) ≤ suc longest_line
kept-short a = rw length-take (omega arith)

module _ (s : State) (going : s.stopped ≡ false) where
  pub byte-grows : (b : ℕ) → eqb b line_feed ≡ false → byte_leaves s b ≡ grown s (b ∷ [])
  unfolding byte_leaves
  byte-grows b e = rw (going, e)

  pub byte-ends : byte_leaves s line_feed ≡ ended s
  unfolding byte_leaves
  byte-ends = rw going

  pub byte-quiet : (b : ℕ) → eqb b line_feed ≡ false → byte_prints s b ≡ []
  unfolding byte_prints
  byte-quiet b e = rw (going, e)

  pub feed-prints : byte_prints s line_feed ≡ (line_step s.box s.line).printed
  unfolding byte_prints
  feed-prints = rw going

grown-none : (s : State) → length s.line ≤ suc longest_line → grown s [] ≡ s
grown-none s h = rw (append-nil, take_all (suc longest_line) s.line h)

pub grown-grown : (s : State) (xs ys : List ℕ) → grown (grown s xs) ys ≡ grown s (xs ++ ys)
grown-grown s xs ys = rw (kept-kept (s.line ++ xs) ys, append_assoc)

quiet-leaves : (s : State) (xs : List ℕ) → s.stopped ≡ false → length s.line ≤ suc longest_line → piece_end line_feed xs ≡ length xs → state_after s xs ≡ grown s xs
unfolding state_after
quiet-leaves s [] going h e = sym (grown-none s h)
quiet-leaves s (x ∷ xs) going h e =
    let pass = all_pass (λ b. not (eqb b line_feed)) x xs e in
    rw (byte-grows s going x (not-true (eqb x line_feed) pass.0)) (quiet-leaves (grown s (x ∷ [])) xs going (kept-short (s.line ++ (x ∷ []))) pass.1 ∙ grown-grown s (x ∷ []) xs)

-- after a first byte no more than what is kept is there
pub quiet-some : (s : State) (xs : List ℕ) → s.stopped ≡ false → 1 ≤ length xs → piece_end line_feed xs ≡ length xs → state_after s xs ≡ grown s xs
unfolding state_after
quiet-some s [] going some e = absurd (not-suc-le-zero some)
quiet-some s (x ∷ xs) going some e =
    let pass = all_pass (λ b. not (eqb b line_feed)) x xs e in
    rw (byte-grows s going x (not-true (eqb x line_feed) pass.0)) (quiet-leaves (grown s (x ∷ [])) xs going (kept-short (s.line ++ (x ∷ []))) pass.1 ∙ grown-grown s (x ∷ []) xs)

pub quiet-prints : (s : State) (xs : List ℕ) → s.stopped ≡ false → piece_end line_feed xs ≡ length xs → prints s xs ≡ []
unfolding prints
quiet-prints s [] going e = refl
quiet-prints s (x ∷ xs) going e =
    let pass = all_pass (λ b. not (eqb b line_feed)) x xs e in
    let plain = not-true (eqb x line_feed) pass.0 in
    rw (byte-quiet s going x plain, byte-grows s going x plain) (quiet-prints (grown s (x ∷ [])) xs going pass.1)

-- ---- bytes that end with the line's feed

-- the kept bytes of a line are enough
pub step_kept : (b : BarBox) (line : List ℕ) → line_step b (kept_line line) ≡ line_step b line
unfolding line_step
step_kept b line = rw (line_kept line)

module _ (s : State) (going : s.stopped ≡ false) where
  pub line-leaves : (xs : List ℕ) → piece_end line_feed xs ≡ length xs → state_after s (xs ++ (line_feed ∷ [])) ≡ ended (grown s xs)
  unfolding state_after
  line-leaves [] e = rw (byte-ends s going, append-nil, step_kept s.box s.line)
  line-leaves (x ∷ xs) e = rw (leaves-append s (x ∷ xs) (line_feed ∷ []), quiet-some s (x ∷ xs) going (omega arith) e, byte-ends (grown s (x ∷ xs)) going)

  pub line-prints : (xs : List ℕ) → piece_end line_feed xs ≡ length xs → prints s (xs ++ (line_feed ∷ [])) ≡ (line_step s.box (kept_line (s.line ++ xs))).printed
  unfolding prints state_after
  line-prints [] e = rw (feed-prints s going, append-nil, append-nil, step_kept s.box s.line)
  line-prints (x ∷ xs) e = rw (prints-append s (x ∷ xs) (line_feed ∷ []), quiet-prints s (x ∷ xs) going e, quiet-some s (x ∷ xs) going (omega arith) e, feed-prints (grown s (x ∷ xs)) going, append-nil)

-- the bytes up to the first line feed, and it
pub with-feed : (s : List ℕ) → piece_end line_feed s < length s → take (piece_end line_feed s + 1) s ≡ take (piece_end line_feed s) s ++ (line_feed ∷ [])
unfolding run_of
with-feed [] h = absurd (not-suc-le-zero h)
with-feed (b ∷ bs) h = go (eqb b line_feed) refl (λ g. with-feed bs g) h
  where
    go : (t : Bool) → eqb b line_feed ≡ t
        → (piece_end line_feed bs < length bs → take (piece_end line_feed bs + 1) bs ≡ take (piece_end line_feed bs) bs ++ (line_feed ∷ []))
        → cond (not t) (suc (piece_end line_feed bs)) 0 < suc (length bs)
        → take (cond (not t) (suc (piece_end line_feed bs)) 0 + 1) (b ∷ bs) ≡ take (cond (not t) (suc (piece_end line_feed bs)) 0) (b ∷ bs) ++ (line_feed ∷ [])
    go true e rest h = let same : b ≡ line_feed = eqb-true b line_feed e in rw same
    go false e rest h = rw (add-one (suc (piece_end line_feed bs))) (ap (λ (l : List ℕ). b ∷ l) (rw add-one at (rest (omega arith))))

-- ---- how many bytes are taken in

-- none once a line was refused or the room is too small, and else the first
module _ (room : ℕ) (s : State) where
  used-none : (bytes : List ℕ) → (s.stopped || ltb room line_room) ≡ true → used_of room s bytes ≡ 0
  unfolding used_of
  used-none [] e = refl
  used-none (b ∷ bytes) e = rw e

  used-first : (b : ℕ) (bytes : List ℕ) → s.stopped ≡ false → line_room ≤ room
      → used_of room s (b ∷ bytes) ≡ suc (used_of (room - length (byte_prints s b)) (byte_leaves s b) bytes)
  unfolding used_of
  used-first b bytes going full = rw (going, le-ltb room line_room full)

  -- so that a session that goes on takes some
  pub used-some : (bytes : List ℕ) → s.stopped ≡ false → 1 ≤ length bytes → line_room ≤ room → 1 ≤ used_of room s bytes
  used-some [] going some full = absurd (not-suc-le-zero some)
  used-some (b ∷ bytes) going some full = rw (used-first b bytes going full) (omega arith)

pub used-most : (room : ℕ) (s : State) (bytes : List ℕ) → used_of room s bytes ≤ length bytes
unfolding used_of
used-most room s [] = omega arith
used-most room s (b ∷ bytes) = go (s.stopped || ltb room line_room) (used-most (room - length (byte_prints s b)) (byte_leaves s b) bytes)
  where
    go : (t : Bool) {n : ℕ} → n ≤ length bytes → cond t 0 (suc n) ≤ suc (length bytes)
    go true h = omega arith
    go false h = omega arith

-- bytes that are all taken in, and others behind them
used-append : (room : ℕ) (s : State) (xs ys : List ℕ) → used_of room s xs ≡ length xs
    → used_of room s (xs ++ ys) ≡ length xs + used_of (room - length (prints s xs)) (state_after s xs) ys
unfolding used_of prints state_after
used-append room s [] ys e = let all : room - 0 ≡ room = omega arith in rw all (omega arith)
used-append room s (x ∷ xs) ys e = go (s.stopped || ltb room line_room) (used-append (room - length (byte_prints s x)) (byte_leaves s x) xs ys) e
  where
    left : ℕ
    left = room - length (byte_prints s x) - length (prints (byte_leaves s x) xs)

    less : room - length (byte_prints s x ++ prints (byte_leaves s x) xs) ≡ left
    less = rw length-append (omega arith)

    go : (t : Bool)
        → (used_of (room - length (byte_prints s x)) (byte_leaves s x) xs ≡ length xs
        → used_of (room - length (byte_prints s x)) (byte_leaves s x) (xs ++ ys) ≡ length xs + used_of left (state_after (byte_leaves s x) xs) ys)
        → cond t 0 (suc (used_of (room - length (byte_prints s x)) (byte_leaves s x) xs)) ≡ suc (length xs)
        → cond t 0 (suc (used_of (room - length (byte_prints s x)) (byte_leaves s x) (xs ++ ys)))
        ≡ suc (length xs) + used_of (room - length (byte_prints s x ++ prints (byte_leaves s x) xs)) (state_after (byte_leaves s x) xs) ys
    go true rest e = absurd (omega arith)
    go false rest e = rw less (omega (arith, rest (omega arith)))

-- bytes without a line feed neither stop nor print, so that n of those behind them are taken in too
used-quiet : (room : ℕ) (s : State) (xs ys : List ℕ) (n : ℕ) → s.stopped ≡ false → line_room ≤ room → piece_end line_feed xs ≡ length xs
    → ((s' : State) → s'.stopped ≡ false → used_of room s' ys ≡ n) → used_of room s (xs ++ ys) ≡ length xs + n
used-quiet room s [] ys n going full e on = omega (arith, on s going)
used-quiet room s (x ∷ xs) ys n going full e on =
    let pass = all_pass (λ b. not (eqb b line_feed)) x xs e in
    let plain = not-true (eqb x line_feed) pass.0 in
    let all : room - 0 ≡ room = omega arith in
    rw (used-first room s x (xs ++ ys) going full, byte-quiet s going x plain, byte-grows s going x plain, all) (omega (arith, used-quiet room (grown s (x ∷ [])) xs ys n going full pass.1 on))

-- ---- a fed bar, by the verdict of its feed
module _ (b : BarBox) (bar : Bar) (o : Outcome) (e : o ≡ fed_of b (prices_of (bar ∷ [])) row_bytes) where
  pub fed-refused : (r : Refusal) → o.verdict ≡ Err r → fed_step b bar ≡ refused_step b (By r)
  unfolding fed_step
  fed-refused r d = rw (← e, d)

  -- a refused feed leaves the box
  pub fed-left : (r : Refusal) → o.verdict ≡ Err r → o.after ≡ b
  unfolding fed_of
  fed-left r d =
      let denied : (fed_of b (prices_of (bar ∷ [])) row_bytes).verdict ≡ Err r = sym (ap (λ (x : Outcome). x.verdict) e) ∙ d in
      ap (λ (x : Outcome). x.after) e ∙ rw denied

  pub fed-accepted : o.verdict ≡ Ok tt
      → fed_step b bar ≡ record { printed = row_lines (b.count + 1) 0 (sheet_of b (prices_of (bar ∷ [])) (replicate row_bytes 0)); after = o.after; stops = false }
  unfolding fed_step
  fed-accepted a = rw (← e, a)

-- ---- bytes of a chunk: up to the end of a line, or all of them
module _ (s : State) (chunk : List ℕ) (k : ℕ) (going : s.stopped ≡ false) (is : k ≡ piece_end line_feed chunk) where
  alone : piece_end line_feed (take k chunk) ≡ length (take k chunk)
  alone = rw is (run-taken (λ b. not (eqb b line_feed)) chunk)

  with-line : k < length chunk → take (k + 1) chunk ≡ take k chunk ++ (line_feed ∷ [])
  with-line inside = rw is (with-feed chunk (rw is at inside))

  pub line-used : k < length chunk
      → (state_after s (take (k + 1) chunk) ≡ ended (grown s (take k chunk))) × (prints s (take (k + 1) chunk) ≡ (line_step s.box (kept_line (s.line ++ take k chunk))).printed)
  line-used inside = (rw (with-line inside) (line-leaves s going (take k chunk) alone), rw (with-line inside) (line-prints s going (take k chunk) alone))

  pub rest-used : 1 ≤ k → k ≤ length chunk → (state_after s (take k chunk) ≡ grown s (take k chunk)) × (prints s (take k chunk) ≡ [])
  rest-used some inside = (quiet-some s (take k chunk) going (rw (length-take-le k chunk inside) some) alone, quiet-prints s (take k chunk) going alone)

  -- all of them are taken in
  module _ (room : ℕ) (full : line_room ≤ room) where
    pub line_taken : k < length chunk → used_of room s (take (k + 1) chunk) ≡ k + 1
    unfolding used_of
    line_taken inside =
        let feed : (s' : State) → s'.stopped ≡ false → used_of room s' (line_feed ∷ []) ≡ 1 = λ s' g. used-first room s' line_feed [] g full in
        rw (with-line inside) (omega (arith, used-quiet room s (take k chunk) (line_feed ∷ []) 1 going full alone feed, length-take-le k chunk (omega arith)))

    pub rest-taken : k ≤ length chunk → used_of room s (take k chunk) ≡ k
    unfolding used_of
    rest-taken inside = omega (arith, rw append-nil at (used-quiet room s (take k chunk) [] 0 going full alone (λ s' g. refl)), length-take-le k chunk inside)

-- ---- the input's end
module _ (s : State) where
  pub end-prints : s.stopped ≡ false → eqb (length s.line) 0 ≡ false → end_prints s ≡ (line_step s.box s.line).printed
  unfolding end_prints
  end-prints going some = rw (going, some)

  pub end_quiet : (n : ℕ) → ((leb line_room n && not s.stopped) && not (eqb (length s.line) 0)) ≡ false → cond (leb line_room n) (end_prints s) [] ≡ []
  unfolding end_prints
  end_quiet n e = go (leb line_room n) s.stopped (eqb (length s.line) 0) e
    where
      go : (a b c : Bool) → ((a && not b) && not c) ≡ false → cond a (cond (b || c) [] (line_step s.box s.line).printed) [] ≡ []
      go false b c e = refl
      go true true c e = refl
      go true false true e = refl
      go true false false e = absurd (true≢false e)

-- ---- a loop's three tests
pub guards : (a b c : Bool) → ((a && b) && c) ≡ true → (a ≡ true) × (b ≡ true) × (c ≡ true)
guards a b c e =
    let ab = both (a && b) c e in
    let each = both a b ab.0 in
    (each.0, each.1, ab.1)

-- as the loop over a chunk has them, and back
module _ (used len left : ℕ) (stopped : Bool) where
  abbrev pub goes : Bool
  goes = (ltb used len && not stopped) && leb line_room left

  pub goes_on : goes ≡ true → (used < len) × (stopped ≡ false) × (line_room ≤ left)
  goes_on e =
      let each = guards (ltb used len) (not stopped) (leb line_room left) e in
      (ltb-true used len each.0, not-true stopped each.1, leb-true line_room left each.2)

  pub would-go : used < len → stopped ≡ false → line_room ≤ left → goes ≡ true
  would-go a b c = rw (lt-ltb used len a, b, le-leb line_room left c)

-- where the loop ends, no byte of the rest is taken in
module _ (s : State) (chunk : List ℕ) (used left : ℕ) where
  pub rest-stays : goes used (length chunk) left s.stopped ≡ false → used_of left s (drop used chunk) ≡ 0
  unfolding used_of
  rest-stays e = go (leb (length chunk) used) s.stopped (ltb left line_room) refl refl refl
    where
      go : (a b c : Bool) → leb (length chunk) used ≡ a → s.stopped ≡ b → ltb left line_room ≡ c → used_of left s (drop used chunk) ≡ 0
      go true b c x y z = rw (drop_of_length-le chunk (leb-true (length chunk) used x))
      go false true c x y z = used-none left s (drop used chunk) (rw y)
      go false false true x y z = used-none left s (drop used chunk) (rw (y, z))
      go false false false x y z =
          absurd (true≢false (sym (would-go used (length chunk) left s.stopped (leb-false (length chunk) used x) y (ltb-false left line_room z)) ∙ e))

-- ---- n bytes of a chunk more, after u of them
module _ (s s' : State) (chunk : List ℕ) (u n : ℕ) (here : s' ≡ state_after s (take u chunk)) where
  pub turn-leaves : state_after s (take (u + n) chunk) ≡ state_after s' (take n (drop u chunk))
  turn-leaves = rw (take-add u n chunk, leaves-append s (take u chunk) (take n (drop u chunk)), here)

  pub turn-prints : prints s (take (u + n) chunk) ≡ prints s (take u chunk) ++ prints s' (take n (drop u chunk))
  turn-prints = rw (take-add u n chunk, prints-append s (take u chunk) (take n (drop u chunk)), here)

  pub turn-used : (len : ℕ) → u ≤ length chunk → used_of len s (take u chunk) ≡ u → used_of (len - length (prints s (take u chunk))) s' (take n (drop u chunk)) ≡ n
      → used_of len s (take (u + n) chunk) ≡ u + n
  turn-used len inside e more =
      let size = length-take-le u chunk inside in
      rw (take-add u n chunk, used-append len s (take u chunk) (take n (drop u chunk)) (e ∙ sym size), ← here, more, size)

-- and none more
module _ (s : State) (chunk : List ℕ) (u len : ℕ) where
  pub used_all : u ≤ length chunk → used_of len s (take u chunk) ≡ u → used_of (len - length (prints s (take u chunk))) (state_after s (take u chunk)) (drop u chunk) ≡ 0
      → used_of len s chunk ≡ u
  used_all inside e none =
      let size = length-take-le u chunk inside in
      let both-parts = used-append len s (take u chunk) (drop u chunk) (e ∙ sym size) in
      omega (arith, rw take-append-drop at both-parts, none, size)

-- ---- a session is what its state says
pub state-session : (s : State) → state_of (session_of s) ≡ s
state-session s = rw (content-partial s.line)

pub session-state : (st : Session) (l : List ℕ) → st.line ≡ partial_of l → st ≡ session_of (state_of st)
session-state st l e =
    let own : st.line ≡ partial_of (content st.line) = rw (e, content-partial l) in
    ap (λ (p : Partial). record { line = p; held = st.held; stopped = st.stopped }) own
