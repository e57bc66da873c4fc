-- The box, for any 64 places and any count: which bars it keeps after it took bars in, and that bars may be taken in all at once or
-- one run after the other; and the prices of bars, as a feed is lent them. Assumes nothing.
use Prim.Native.Nat.{ℕ, zero, suc, ◌+◌, ◌-◌, ◌≤◌, min}
use mathlib.Core.Path.{◌≡◌, sym, ◌∙◌}
use mathlib.Core.List.{List, [], ◌++◌, append_assoc, append-nil, map-append}
use native.Mathlib.Omega.{arith}
use native.Mathlib.Decide.{dec_le}
use native.Mathlib.Nat.{add-zero, add_assoc}
use lib.ListN.{length, drop, replicate, length-append, length-take, length-drop, take-append-drop, drop_of_length-le}
use lib.Seq.{take-append_seam, drop-append-add, drop-drop}
use Rattle.measures.specs.Bar.{Bar}
use Rattle.measures.specs.Window.{newest}
use Rattle.recognisers.specs.Number.{places}
use Rattle.box_record.specs.declared.boxes.KeptBar.{KeptBar}
use Rattle.box_record.specs.declared.boxes.BarBox.{BarBox}
use Rattle.bar_box.specs.Box.{numbered, held, kept, laid, taken_in}
pub use Rattle.box_record.proofs.RecordLaws.{take_same}
use Rattle.bar_box.proofs.SheetLaws.{newest-append}
use Rattle.bar_box.proofs.OrdinalLaws.{map-newest, length-numbered, bars-numbered, numbered-append}

-- ---- lists

module _ {A : Type 0} where
  -- past a list's end nothing is left
  pub drop-same : (l : List A) (i j : ℕ) → min i (length l) ≡ min j (length l) → drop i l ≡ drop j l
  drop-same l i j e =
      elim (dec_le (length l) i) [
        | yes past ↦ drop_of_length-le l past ∙ sym (drop_of_length-le l {i = j} (omega arith))
        | no within ↦ (let same : i ≡ j = omega arith in rw same)
      ]

  -- what is left of m elements, all the same, after n of them
  pub drop-replicate : (m n : ℕ) (x : A) → drop n (replicate m x) ≡ replicate (m - n) x
  drop-replicate m zero x = let all : m - 0 ≡ m = omega arith in rw all
  drop-replicate zero (suc n) x = let none : 0 - suc n ≡ 0 = omega arith in rw none
  drop-replicate (suc m) (suc n) x = let less : suc m - suc n ≡ m - n = omega arith in rw less (drop-replicate m n x)

  -- ---- the newest bars

  -- the newest n, or all if there are fewer
  pub length-newest : (n : ℕ) (bars : List A) → length (newest n bars) ≡ min n (length bars)
  unfolding newest
  length-newest n bars = rw length-drop (omega arith)

  -- if there are no more than n, the newest n are all
  pub newest-few : (n : ℕ) (bars : List A) → length bars ≤ n → newest n bars ≡ bars
  unfolding newest
  newest-few n bars few = let none : length bars - n ≡ 0 = omega arith in rw none

-- ---- the places

-- there are as many places as before
pub length-laid : (old h : List KeptBar) → length old ≡ places → length (laid old h) ≡ places
length-laid old h all = rw (length-append, length-newest, length-drop, all) (omega arith)

-- laying a run over the places that a history left is laying the history and the run
pub laid-append : (old h bars : List KeptBar) → laid (laid old h) (newest places h ++ bars) ≡ laid old (h ++ bars)
laid-append old h bars =
    rw (
      newest-append places places h bars (omega arith),
      length-append (newest places h) bars,
      drop-append-add (newest places h) (drop (length h) old) (length bars),
      drop-drop (length bars) (length h) old,
      length-append h bars,
    )

-- ---- bars that the box keeps and takes in

module _ (b : BarBox) (all : length b.bars ≡ places) where
  -- the box keeps the records of the newest 64 of N bars
  pub length-held : length (held b) ≡ min b.count places
  length-held = rw (length-take, all)

  -- after bars were taken in, those of the newest 64 of the bars that it kept and of them
  pub held-taken : (bars : List Bar) → held (taken_in b bars) ≡ newest places (held b ++ numbered b.count bars)
  held-taken bars =
      let h = held b ++ numbered b.count bars in
      let had = length-held in
      let more = length-numbered b.count bars in
      let len : length h ≡ length (held b) + length (numbered b.count bars) = length-append (held b) (numbered b.count bars) in
      let size = length-newest places h in
      let now = length-laid b.bars h all in
      take_same (laid b.bars h) (b.count + length bars) (length (newest places h)) (omega arith) ∙ take-append_seam (newest places h) (drop (length h) b.bars)

  -- the bars of these are the newest 64 of the bars that it kept and of those taken in
  pub kept-taken : (bars : List Bar) → kept (taken_in b bars) ≡ newest places (kept b ++ bars)
  kept-taken bars =
      let f : KeptBar → Bar = λ r. r.bar in
      rw (held-taken bars, map-newest f places (held b ++ numbered b.count bars), map-append f (held b) (numbered b.count bars), bars-numbered b.count bars)

  -- two runs taken in, one after the other, are taken in as one
  pub taken-append : (xs ys : List Bar) → taken_in (taken_in b xs) ys ≡ taken_in b (xs ++ ys)
  taken-append xs ys =
      let n = b.count in
      let first = numbered n xs in
      let second = numbered (n + length xs) ys in
      rw (held-taken xs, laid-append b.bars (held b ++ first) second, append_assoc (held b) first second, ← numbered-append n xs ys, length-append xs ys) (rw (add_assoc n))

  -- taking no bar in leaves the box
  pub taken_none : taken_in b [] ≡ b
  unfolding numbered
  taken_none =
      let had = length-held in
      rw (add-zero, append-nil (held b), newest-few places (held b) (omega arith), drop-same b.bars (length (held b)) b.count (omega arith), take-append-drop b.count b.bars)
