-- Demand 3: what every list of feeds leaves, over every box without bars and over the box that making gives. Assumes nothing.
use Rattle.std.specs.Prelude.{Err, Ok}
use Prim.Native.Nat.{ℕ, ◌+◌, ◌-◌, ◌*◌, ◌≤◌, ◌<◌, min}
use mathlib.Core.Path.{◌≡◌, refl, ap, sym, ◌∙◌}
use mathlib.Core.Bool.{Bool, true, false, cond, not}
use mathlib.Core.List.{List, [], ◌∷◌, ◌++◌}
use mathlib.Core.Logic.{inr}
use native.Mathlib.Omega.{arith}
use native.Mathlib.Nat.{zero-add}
use lib.ListN.{length, drop, replicate}
use lib.Ieee.{le, of_bits}
use Rattle.measures.specs.Bar.{Bar}
use Rattle.measures.specs.Window.{newest, back_of}
use Rattle.measures.proofs.WindowLaws.{up_to-in, up_to-out}
use Rattle.recognisers.specs.Threshold.{Thresholds, standard_set, valid_of}
use Rattle.answers.specs.declared.refusals.Refusal.TheVariants.{BadThreshold}
use Rattle.recognisers.specs.Number.{recognisers, row_bytes, gated, places, farthest_look}
use Rattle.recognisers.specs.Table.{table_row, pair_at, codes_of}
use Rattle.recognisers.specs.Refusal.{first_true}
use Rattle.recognisers.proofs.TableLaws.{no-bar}
use Rattle.box_record.specs.declared.boxes.BarBox.{BarBox}
use Rattle.bar_box.specs.Sheet.{rows_of}
use Rattle.bar_box.specs.Box.{kept_bar, numbered, taken_in, empty_place, empty_places, fresh_box, made_by, made_of, look_answer_of}
use Rattle.bar_box.specs.History.{Feed, history_after, box_after, joined_rows, printed, bar_with, in_place, InLimits, Within, Holds, NoBars, Fresh, Demand3}
use Rattle.bar_box.proofs.SheetLaws.{length-rows}
use Rattle.bar_box.proofs.OrdinalLaws.{length-numbered, place_at}
use Rattle.bar_box.proofs.BoxLaws.{drop-replicate}
use Rattle.bar_box.proofs.RowPairs.{pair-in}
use Rattle.bar_box.proofs.FeedLists.{Sound, sound_empty, sound-after, verdicts-after, box-after, rows-after, one-accepted, one-box, one-rows}
use Rattle.bar_box.proofs.LookBack.{look-ordinal, pair-up-to}

-- ---- every box without bars

-- what is left of n before the last m, and then m less d and one more, is n less d and one more
back_from : (n m d : ℕ) → d ≤ m → m ≤ n → n - m + (m - d + 1) ≡ n - d + 1
back_from n m d le few = omega arith

module _ (b : BarBox) (start : NoBars b) (fs : List Feed) where
  -- "The joined history is the history after the last feed."
  abbrev joined : List Bar
  joined = history_after b.thresholds [] fs

  -- it has no more than 1,000,000 bars, and none if the thresholds are outside their limits
  joined-sound : Sound b.thresholds joined
  joined-sound = sound-after b.thresholds [] fs (sound_empty b.thresholds)

  -- the box is the one that the joined history leaves
  joined-box : box_after b fs ≡ taken_in b joined
  joined-box = box-after b start fs

  -- the joined rows are those of the joined history
  joined-rows : joined_rows b fs ≡ rows_of b.thresholds 0 [] joined
  joined-rows = rows-after b start fs

  -- the box, place for place
  whole-box : box_after b fs ≡ record { thresholds = b.thresholds; count = length joined; bars = newest places (numbered 0 joined) ++ drop (length joined) b.bars }
  whole-box = joined-box ∙ rw (start.none, zero-add, length-numbered 0 joined)

  -- the i-th kept place
  kept-place : (i : ℕ) → 1 ≤ i → i ≤ min (length joined) places
      → let ordinal = length joined - min (length joined) places + i in in_place (box_after b fs) i ≡ kept_bar (bar_with joined ordinal) ordinal
  kept-place i one within = rw whole-box (place_at joined (drop (length joined) b.bars) i one within)

  -- a look gives the pair over the joined history, and the ordinal of the bar that it judges
  look-joined : (di k : ℕ) → Within joined di k → look_answer_of (box_after b fs) k di ≡ Ok (record { pair = (pair_at k b.thresholds (length joined) joined di); ordinal = (length joined - di + 1) })
  look-joined di k (limits, within) =
      rw joined-box (look-ordinal b start joined k di (joined-sound.valid (omega (arith, limits, within))) joined-sound.few limits ∙ rw (up_to-in (length joined) di limits.0 within))

  look-beyond : valid_of b.thresholds ≡ true → (di k : ℕ) → InLimits di k → length joined < di → look_answer_of (box_after b fs) k di ≡ Ok (record { pair = (table_row k).short; ordinal = 0 })
  look-beyond valid di k limits beyond =
      let none = up_to-out (length joined) di (inr beyond) in
      rw joined-box (look-ordinal b start joined k di valid joined-sound.few limits ∙ rw (none, no-bar k b.thresholds (length joined) joined di limits.2 none))

  -- that bar, and its place
  judged-bar : (di : ℕ) → 1 ≤ di → di ≤ length joined → bar_with joined (length joined - di + 1) ≡ back_of joined di
  unfolding back_of
  judged-bar di one within =
      let n = length joined in
      let at : n - di + 1 - 1 ≡ n - min di n = omega arith in
      rw at

  judged-place : (di : ℕ) → 1 ≤ di → di ≤ farthest_look → di ≤ length joined
      → in_place (box_after b fs) (min (length joined) places - di + 1) ≡ kept_bar (back_of joined di) (length joined - di + 1)
  judged-place di one near within =
      let n = length joined in
      let m = min n places in
      kept-place (m - di + 1) (omega arith) (omega arith) ∙ rw (back_from n m di (omega arith) (omega arith), judged-bar di one within)

  -- the pair at an offset is the printed one of the bar that it judges, of all but 12
  printed-pair : (di k : ℕ) → 1 ≤ di → di ≤ length joined → k < recognisers → (k ≡ gated → ⊥)
      → codes_of (pair_at k b.thresholds (length joined) joined di ∷ []) ≡ printed (joined_rows b fs) (length joined - di) k
  printed-pair di k one within known other =
      let t = b.thresholds in
      let n = length joined in
      let up-to-it = pair-up-to joined di (n - di + 1) (up_to-in n di one within) k t other in
      rw (joined-rows, pair-in t joined (n - di) k (omega arith) known, up-to-it)

  -- demand 3 for this box and these feeds
  holds_after : (sheet : List ℕ) → row_bytes * length joined ≤ length sheet → Holds b fs joined sheet
  unfolding codes_of
  holds_after sheet room =
      let t = b.thresholds in
      let h = joined in
      record {
        -- "A feed is refused exactly as the list of refusals says, with the history's count for N and the fresh box's thresholds."
        refusals = verdicts-after b start fs;
        -- "The joined sheet rows are all of them, in the order of the history." "Sheet rows are equal byte for byte."
        same_rows = joined-rows ∙ sym (one-rows b start h sheet joined-sound room);
        -- "boxes as whole records, with the bits of each price"
        same-box = joined-box ∙ sym (one-box b start h sheet joined-sound room);
        -- "A sheet is long enough if refusal 6 doesn't apply."
        accepted = one-accepted b start h sheet joined-sound room;
        -- "Any other feed appends its bars in their order and gives one sheet row for each."
        row_count = rw (joined-rows, length-rows);
        -- "The pairs over the history up to a bar are those of offset 1 and the fresh box's thresholds, with that bar as the newest; 12's len
        -- there is the number of bars up to it."
        pairs = λ i k lt known. rw joined-rows (pair-in t h i k lt known);
        -- "The final box has the fresh box's thresholds; its N is the history's count; its places hold the history's newest 64 bars as a feed
        -- lays them."
        final-box = whole-box;
        -- 02: "Each bar's ordinal is written in the record that the box keeps."
        ordinals = kept-place;
        -- "In a look, 12's pair over the whole history takes the history's count for len." 02: "A look also hands back the judged bar's ordinal,
        -- N − di + 1,"
        look-whole = look-joined;
        -- "a look at it judges the bar that many from the history's end"
        look-judges = λ di k w. rw (look-joined di k w) (judged-bar di w.0.0 w.1);
        look-kept = λ di k w. rw (look-joined di k w) (judged-place di w.0.0 w.0.1 w.1);
        look-printed = λ di k w other.
            let back : length h - di + 1 - 1 ≡ length h - di = omega arith in
            rw (look-joined di k w, back) (printed-pair di k w.0.0 w.1 w.0.2 other);
        -- "or 0 where there is none"
        look_none = look-beyond;
      }

-- the same joined history in other feeds
same-cuts : (b : BarBox) → NoBars b → (fs gs : List Feed) → history_after b.thresholds [] fs ≡ history_after b.thresholds [] gs
    → (box_after b fs ≡ box_after b gs) × (joined_rows b fs ≡ joined_rows b gs)
same-cuts b start fs gs same = (rw (joined-box b start fs, joined-box b start gs, same), rw (joined-rows b start fs, joined-rows b start gs, same))

-- ---- the box that making gives

-- the standard set is inside the limits
pub standard-valid : valid_of standard_set ≡ true
unfolding valid_of standard_set le of_bits
standard-valid = refl

-- "A fresh box has no bars and its thresholds"
pub fresh-none : (t : Thresholds) → NoBars (fresh_box t)
unfolding empty_places
fresh-none t = record { none = refl; all-places = refl }

-- by whether the thresholds are inside their limits: "a refused box-making returns a fresh box with the standard set"
by_limits : (t : Thresholds) (v : Bool) → valid_of t ≡ v → Fresh t (made_by (cond (not v) (Err BadThreshold) (Ok tt)) t)
unfolding empty_places
by_limits t true e = record { no-bars = fresh-none t; thresholds = rw e; valid = e; zeros = refl }
by_limits t false e = record { no-bars = fresh-none standard_set; thresholds = rw e; valid = standard-valid; zeros = refl }

-- for any thresholds
made : (t : Thresholds) → Fresh t (made_of t).after
unfolding made_of first_true
made t = by_limits t (valid_of t) refl

-- "and zeros where there are fewer"
zeros-after : (t : Thresholds) (fs : List Feed)
    → let b = (made_of t).after in
    let h = history_after b.thresholds [] fs in (box_after b fs).bars ≡ newest places (numbered 0 h) ++ replicate (places - length h) empty_place
zeros-after t fs =
    let m = made t in
    let b = (made_of t).after in
    let h = joined b m.no-bars fs in
    ap (λ x. x.bars) (whole-box b m.no-bars fs) ∙ rw m.zeros (ap (λ x. newest places (numbered 0 h) ++ x) (drop-replicate places (length h) empty_place))

-- ---- demand 3, "said of the whole list at once"

pub demand-3 : Demand3
demand-3 = record { holds = holds_after; cuts = same-cuts; fresh = made; zeros-left = zeros-after }
