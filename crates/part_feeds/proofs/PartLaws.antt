-- A feed of a part of the bars, on its part of the sheet, after feeds of those before them; without and with a tally. Assumes nothing.
use Rattle.std.specs.Prelude.{Ok}
use Prim.Native.Nat.{ℕ, ◌+◌, ◌-◌, ◌*◌, ◌≤◌}
use mathlib.Core.Path.{◌≡◌, refl, ap, sym, ◌∙◌}
use mathlib.Core.Bool.{Bool, true, false, cond}
use mathlib.Core.List.{List}
use native.Mathlib.Omega.{arith}
use borrow.Rule.Slice.PartMut.{put_mid}
use lib.ListN.{length, take, drop, length-take, length-drop}
use lib.Seq.{take-add, length-take-le}
use lib.Ieee.{Float}
use Rattle.measures.specs.Bar.{Bar, bars_of, overlay}
use Rattle.measures.proofs.Overlay.{length-overlay}
use Rattle.measures.proofs.RunLaws.{length-bars, bars-drop, bars-take}
use Rattle.recognisers.specs.Number.{places, row_bytes}
use Rattle.box_record.specs.declared.boxes.BarBox.{BarBox}
use Rattle.recognisers.specs.Refusal.{feed_verdict}
use Rattle.bar_box.specs.Box.{kept, taken_in, fed_of, sheet_of}
use Rattle.bar_box.specs.History.{Feed}
use Rattle.bar_box.proofs.SheetLaws.{length-rows}
use Rattle.bar_box.proofs.BoxLaws.{taken-append}
use Rattle.bar_box.proofs.FeedSteps.{fits, accepts}
use Rattle.bar_box.proofs.PartLaws.{rows_from, rest_of, length_rest, overlay-rest, fed-box, fed-sheet, rows_both}
use Rattle.tallies.specs.declared.table.TallyRow.{TallyRow}
use Rattle.tallies.specs.Tally.{Shaped, counted}
use Rattle.tallies.specs.Feed.{Tallied, lent, verdict_with, tallied_of, tallied_sheet}
use Rattle.tallies.proofs.FeedLaws.{plain-verdict, accepted-adds, accepted-plain, tallied-accepted}
use Rattle.tallies.proofs.PartLaws.{parts_add, parts-counted}

-- the tally with rows counted, if that is asked for
abbrev pub brought : Bool → List ℕ → List TallyRow → List TallyRow
brought counts rows tally = cond counts (counted rows tally) tally

-- the prices of n bars from a bar on
abbrev pub part_of : List Float → ℕ → ℕ → List Float
part_of ps from n = take (4 * (from + n) - 4 * from) (drop (4 * from) ps)

-- their bars
part-bars : (ps : List Float) (from n : ℕ) → bars_of (part_of ps from n) ≡ take n (drop from (bars_of ps))
part-bars ps from n =
    let size : 4 * (from + n) - 4 * from ≡ n * 4 = omega arith in
    let at : 4 * from ≡ from * 4 = omega arith in
    rw (size, at, bars-take, bars-drop)

-- on a sheet for all bars the rows of the first leave its length
pub length-written : (b : BarBox) (bars : List Bar) (s : List ℕ) (n : ℕ) → row_bytes * length bars ≤ length s → length (overlay s 0 (rows_from b (take n bars))) ≡ length s
length-written b bars s n room = length-overlay s 0 (rows_from b (take n bars)) (omega (arith, length-rows b.thresholds b.count (kept b) (take n bars), length-take n bars))

-- a feed ps on s₀ to b is accepted; of its bars those before a bar are taken in, s is the sheet with their rows, and n more are to be fed
module _ (b : BarBox) (all : length b.bars ≡ places) (tally : List TallyRow) (ps : List Float) (s₀ s : List ℕ) (whole : verdict_with b tally (lent ps s₀) ≡ Ok tt) (passed n : ℕ) (enough : passed + n ≤ length (bars_of ps)) (size : length s ≡ length s₀) (is : s ≡ overlay s₀ 0 (rows_from b (take passed (bars_of ps)))) where
  abbrev before : List Bar
  before = take passed (bars_of ps)

  abbrev part : Feed
  part = lent (part_of ps passed n) (rest_of s (row_bytes * passed))

  abbrev later : List Bar
  later = take (passed + n) (bars_of ps)

  accepted : feed_verdict b.thresholds (taken_in b before).count (length part.prices) (length part.sheet) ≡ Ok tt
  accepted =
      let f = fits _ _ _ _ (accepted-plain b tally (lent ps s₀) whole) in
      let total = length-bars ps in
      let are : length before ≡ passed = length-take-le passed (bars_of ps) (omega arith) in
      let prices : length part.prices ≡ 4 * n = rw (length-take, length-drop) (omega arith) in
      let rest = length_rest s (row_bytes * passed) in
      accepts _ _ _ _ (record { valid = f.valid; whole = omega arith; few = omega (arith, f.few); room = omega (arith, f.room) })

  -- the box takes them in
  taken_more : taken_in (taken_in b before) (bars_of part.prices) ≡ taken_in b later
  taken_more = rw (part-bars ps passed n) (taken-append b all before (take n (drop passed (bars_of ps))) ∙ rw (take-add passed n (bars_of ps)))

  pub next-box : (fed_of (taken_in b before) part.prices (length part.sheet)).after ≡ taken_in b later
  next-box = fed-box (taken_in b before) part.prices part.sheet accepted ∙ taken_more

  -- their rows stand behind those before
  pub next-sheet : put_mid (row_bytes * passed) (length s - row_bytes * passed) s (sheet_of (taken_in b before) part.prices part.sheet) ≡ overlay s₀ 0 (rows_from b later)
  next-sheet =
      let room = (fits _ _ _ _ (accepted-plain b tally (lent ps s₀) whole)).room in
      let total = length-bars ps in
      let more = take n (drop passed (bars_of ps)) in
      let are : length before ≡ passed = length-take-le passed (bars_of ps) (omega arith) in
      let more-are : length more ≡ n = length-take-le n (drop passed (bars_of ps)) (rw length-drop (omega arith)) in
      rw (fed-sheet (taken_in b before) part.prices part.sheet accepted, part-bars ps passed n)
      (overlay-rest s (row_bytes * passed) (rows_from (taken_in b before) more)
      ∙ rw is (rows_both b all before more s₀ passed (sym are) (omega arith) ∙ rw (take-add passed n (bars_of ps))))

  module _ (shaped : Shaped tally) where
    abbrev counts : List TallyRow
    counts = counted (rows_from b before) tally

    accepted-with : verdict_with (taken_in b before) counts part ≡ Ok tt
    accepted-with =
        plain-verdict _ _ counts _ _ (parts_add b all tally shaped before (accepted-adds _ _ tally _ _ whole)) ∙ accepted

    -- and are counted
    pub next-tallied : tallied_of (taken_in b before) counts part ≡ record { verdict = Ok tt; after = taken_in b later; tally = counted (rows_from b later) tally }
    next-tallied =
        tallied-accepted (taken_in b before) counts part accepted-with
        ∙ rw (taken_more, part-bars ps passed n, parts-counted b all tally shaped before (take n (drop passed (bars_of ps))), take-add passed n (bars_of ps))

    pub next-tallied-sheet : put_mid (row_bytes * passed) (length s - row_bytes * passed) s (tallied_sheet (taken_in b before) counts part) ≡ overlay s₀ 0 (rows_from b later)
    unfolding tallied_sheet
    next-tallied-sheet = rw accepted-with next-sheet

    -- a feed that counts if it is told to: its verdict, the table and the box after it, and its part of the sheet
    next-verdict : (on : Bool) → cond on (tallied_of (taken_in b before) (brought on (rows_from b before) tally) part).verdict (fed_of (taken_in b before) part.prices (length part.sheet)).verdict ≡ Ok tt
    unfolding fed_of
    next-verdict true = ap (λ (o : Tallied). o.verdict) next-tallied
    next-verdict false = accepted

    next-table : (on : Bool) → cond on (tallied_of (taken_in b before) (brought on (rows_from b before) tally) part).tally (brought on (rows_from b before) tally) ≡ brought on (rows_from b later) tally
    next-table true = ap (λ (o : Tallied). o.tally) next-tallied
    next-table false = refl

    next-after : (on : Bool) → cond on (tallied_of (taken_in b before) (brought on (rows_from b before) tally) part).after (fed_of (taken_in b before) part.prices (length part.sheet)).after ≡ taken_in b later
    next-after true = ap (λ (o : Tallied). o.after) next-tallied
    next-after false = next-box

    next-rows : (on : Bool) → put_mid (row_bytes * passed) (length s - row_bytes * passed) s (cond on (tallied_sheet (taken_in b before) (brought on (rows_from b before) tally) part) (sheet_of (taken_in b before) part.prices part.sheet)) ≡ overlay s₀ 0 (rows_from b later)
    next-rows true = next-tallied-sheet
    next-rows false = next-sheet

    -- all four, of a box and a table that are those after the bars before, and with the place where the part ends
    pub next : (on : Bool) (x : BarBox) (t : List TallyRow) (past : ℕ) → x ≡ taken_in b before → t ≡ brought on (rows_from b before) tally → past ≡ passed + n
        → let f = lent (take (4 * past - 4 * passed) (drop (4 * passed) ps)) (rest_of s (row_bytes * passed)) in
        (cond on (tallied_of x t f).verdict (fed_of x f.prices (length f.sheet)).verdict ≡ Ok tt)
        × (cond on (tallied_of x t f).tally t ≡ brought on (rows_from b later) tally)
        × (cond on (tallied_of x t f).after (fed_of x f.prices (length f.sheet)).after ≡ taken_in b later)
        × (put_mid (row_bytes * passed) (length s - row_bytes * passed) s (cond on (tallied_sheet x t f) (sheet_of x f.prices f.sheet)) ≡ overlay s₀ 0 (rows_from b later))
    next on x t past same-box same-table e = rw (same-box, same-table, e) (next-verdict on, next-table on, next-after on, next-rows on)
