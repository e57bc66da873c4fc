-- What bytes leave: fed bars one run behind another, and bytes one run behind another. Assumes nothing.
use Rattle.std.specs.Prelude.{Err, Ok, Option, Some, None}
use Rattle.answers.specs.Refusal.{Verdict}
use Prim.Native.Nat.{ℕ, ◌≤◌}
use mathlib.Core.Bool.{Bool, true, false, cond, ◌&&◌}
use mathlib.Core.List.{List, [], ◌∷◌, ◌++◌}
use mathlib.Core.Path.{◌≡◌, refl, sym, ◌∙◌}
use borrow.Author.Tests.{ltb-false}
use lib.Dec.{ltb}
use lib.ListN.{length, take, drop, take-append-drop}
use lib.Seq.{take_all}
use Rattle.measures.specs.Bar.{Bar}
use Rattle.box_record.specs.declared.boxes.BarBox.{BarBox}
use Rattle.recognisers.specs.Refusal.{leaves}
use Rattle.tallies.specs.declared.table.TallyRow.{TallyRow}
use Rattle.tallies.specs.Feed.{Tallied, tallied_of}
use Rattle.input_lines.specs.Lines.{kept_line, content, partial_of}
use Rattle.input_lines.proofs.LineLaws.{content-partial}
use Rattle.output_lines.specs.declared.output.Stop.{Stop, TheVariants.By, TheVariants.Price}
use Rattle.output_lines.specs.Output.{goes_on}
use Rattle.tally_lines.specs.declared.session.Session.{Session}
use Rattle.tally_lines.specs.Session.{Read, State, read_from, bar_feed, fed_all, settled_by, settled, state_after, state_of, session_of}
use Rattle.tally_lines.proofs.ReadLaws.{behind, read-append, read-after, kept_again}

-- ---- bars, one run behind another
abbrev gone_on : Tallied → List Bar → Tallied
gone_on o bars = leaves o.verdict o (fed_all o.after o.tally bars)

-- by the first one's verdict
first-fed : (o p q : Tallied) (ys : List Bar) (v : Verdict) → o.verdict ≡ v → q ≡ gone_on p ys → leaves v o q ≡ gone_on (leaves v o p) ys
first-fed o p q ys (Ok tt) e on = on
first-fed o p q ys (Err r) e on = rw e

pub fed-append : (b : BarBox) (tally : List TallyRow) (xs ys : List Bar) → fed_all b tally (xs ++ ys) ≡ gone_on (fed_all b tally xs) ys
unfolding fed_all
fed-append b tally [] ys = refl
fed-append b tally (x ∷ xs) ys =
    let o = tallied_of b tally (bar_feed x) in
    first-fed o (fed_all o.after o.tally xs) (fed_all o.after o.tally (xs ++ ys)) ys o.verdict refl (fed-append o.after o.tally xs ys)

-- ---- bytes, one run behind another

-- behind a refused line nothing changes
stopped : (o : Tallied) (r : Read) (ys : List ℕ) (v : Verdict) → o.verdict ≡ v → goes_on r.stop ≡ false → settled_by o r ≡ state_after (settled_by o r) ys
unfolding state_after
stopped o r ys (Ok tt) e no_more = rw (e, no_more)
stopped o r ys (Err why) e no_more = rw e

-- else reading goes on
gone-on : (o : Tallied) (r : Read) (ys : List ℕ) (v : Verdict) → o.verdict ≡ v → goes_on r.stop ≡ true
    → let more = read_from [] r.line ys in settled_by (gone_on o more.bars) (behind r.bars more) ≡ state_after (settled_by o r) ys
unfolding state_after
gone-on o r ys (Ok tt) e going = rw (e, going)
gone-on o r ys (Err why) e going = rw e

settled_on : (b : BarBox) (tally : List TallyRow) (r : Read) (ys : List ℕ) (t : Bool) → goes_on r.stop ≡ t
    → settled b tally (cond t (read_from r.bars r.line ys) r) ≡ state_after (settled b tally r) ys
settled_on b tally r ys true going =
    let o = fed_all b tally r.bars in
    let more = read_from [] r.line ys in
    rw (read-after r.bars r.line ys, fed-append b tally r.bars more.bars) (gone-on o r ys o.verdict refl going)
settled_on b tally r ys false no_more = let o = fed_all b tally r.bars in stopped o r ys o.verdict refl no_more

pub taken-append : (s : State) (xs ys : List ℕ) → state_after s (xs ++ ys) ≡ state_after (state_after s xs) ys
unfolding state_after
taken-append s xs ys = go (goes_on s.stop) refl
  where
    go : (t : Bool) → goes_on s.stop ≡ t
        → cond t (settled s.box s.tally (read_from [] s.line (xs ++ ys))) s ≡ state_after (cond t (settled s.box s.tally (read_from [] s.line xs)) s) ys
    go true e =
        let r = read_from [] s.line xs in
        rw (read-append [] s.line xs ys) (settled_on s.box s.tally r ys (goes_on r.stop) refl)
    go false e = rw e

-- ---- a session is what its state says
pub state-session : (s : State) → state_of (session_of s) ≡ s
state-session s = rw (content-partial s.line)

-- no bytes leave it, where its line is the kept bytes of one
pub none-taken : (l : List ℕ) (b : BarBox) (tally : List TallyRow) (stop : Option Stop) → kept_line l ≡ l
    → let s : State = record { line = l; box = b; tally = tally; stop = stop } in state_after s [] ≡ s
unfolding state_after read_from fed_all
none-taken l b tally None e = rw e
none-taken l b tally (Some (By r)) e = refl
none-taken l b tally (Some (Price place)) e = refl

pub session-stays : (st : Session) (l : List ℕ) → st.line ≡ partial_of (kept_line l) → st ≡ session_of (state_after (state_of st) [])
session-stays st l e =
    let line : content st.line ≡ kept_line l = rw e (content-partial (kept_line l)) in
    let kept : kept_line (content st.line) ≡ content st.line = rw line (kept_again l) in
    rw (none-taken (content st.line) st.held st.tally st.stop kept, line, ← e)

-- what was read and fed is what the bytes leave
pub taken-by : (s : State) (bytes : List ℕ) (o : Tallied) (l : List ℕ) (stop : Option Stop) → goes_on s.stop ≡ true
    → let r = read_from [] s.line bytes in
    o ≡ fed_all s.box s.tally r.bars → l ≡ r.line → stop ≡ r.stop → settled_by o (record { bars = []; line = l; stop = stop }) ≡ state_after s bytes
unfolding state_after
taken-by s bytes o l stop going fed line is = rw (going, fed, line, is)

-- once a line was refused bytes leave nothing else
pub stopped-taken : (s : State) (bytes : List ℕ) → goes_on s.stop ≡ false → state_after s bytes ≡ s
unfolding state_after
stopped-taken s bytes e = rw e

and-true : (t : Bool) → (t && true) ≡ t
and-true true = refl
and-true false = refl

-- where a loop over a chunk ends, the rest leaves nothing else
pub rest-left : (s : State) (chunk : List ℕ) (used : ℕ) (going : Bool) → used ≤ length chunk → going ≡ goes_on (state_after s (take used chunk)).stop
    → (ltb used (length chunk) && going) ≡ false → state_after s (take used chunk) ≡ state_after s chunk
rest-left s chunk used true within is ended = rw (take_all used chunk (ltb-false used (length chunk) (rw and-true at ended)))
rest-left s chunk used false within is ended =
    sym (stopped-taken (state_after s (take used chunk)) (drop used chunk) (sym is)) ∙ sym (taken-append s (take used chunk) (drop used chunk)) ∙ rw take-append-drop
