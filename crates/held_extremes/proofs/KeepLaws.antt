-- One bar more, in the code: the places that are kept, and the new bar behind them. Once for both sides. Assumes nothing.
use Prim.Native.Nat.{ℕ, zero, suc, ◌+◌, ◌-◌, ◌<◌, ◌≤◌}
use mathlib.Core.Path.{◌≡◌, refl, sym, ap, ◌∙◌}
use mathlib.Core.Bool.{Bool, true, false, cond, not}
use mathlib.Core.List.{List, [], ◌∷◌, ◌++◌, append_assoc, append-nil}
use native.Mathlib.Omega.{arith}
use lib.Dec.{eqb}
use lib.ListN.{length, get_or, take, drop, set, replicate, length-take, length-append}
use lib.Seq.{drop-nil, drop-cons, drop-length, set_at, length-take-le}
use lib.Ieee.{Float, is_nan}
use Rattle.measures.specs.Bar.{Bar}
use Rattle.measures.specs.declared.folds.Column.{Column}
use Rattle.measures.specs.Fold.{price_of}
use Rattle.measures.specs.Window.{back_of}
use Rattle.held_extremes.specs.Candidate.{placed}
use Rattle.std.specs.List.{position_or_len}
use Rattle.held_extremes.specs.CandidateSteps.{bar_price, left_of, is_room, room_for, entered, next_ordinals}
use Rattle.rule_types.specs.Number.{quarter_bars}
use Rattle.rule_types.proofs.ListLaws.{place-next}
use native.Mathlib.Numerals.{add-one}

-- the places that make no room, up to the first that does, as the code counts them
module _ (beyond : Float → Float → Bool) (y : Float) (price : ℕ → Float) where
  abbrev kept : List ℕ → ℕ
  kept os = position_or_len (is_room beyond y price) os

  kept-few : (os : List ℕ) → kept os ≤ length os
  kept-few [] = omega arith
  kept-few (o ∷ os) = go (is_room beyond y price o) (kept-few os)
    where
      go : (t : Bool) → kept os ≤ length os → cond (not t) (1 + kept os) 0 ≤ suc (length os)
      go true h = omega arith
      go false h = omega arith

  room-taken : (os : List ℕ) → room_for beyond y price os ≡ take (kept os) os
  unfolding room_for
  room-taken [] = refl
  room-taken (o ∷ os) = go (is_room beyond y price o) (room-taken os)
    where
      go : (t : Bool) → room_for beyond y price os ≡ take (kept os) os → cond t [] (o ∷ room_for beyond y price os) ≡ take (cond (not t) (1 + kept os) 0) (o ∷ os)
      go true h = refl
      go false h = let e : 1 + kept os ≡ suc (kept os) = omega arith in rw e (ap (λ (l : List ℕ). o ∷ l) h)

  pub room-first : (os : List ℕ) (k : ℕ) → k ≡ kept os → (room_for beyond y price os ≡ take k os) × (k ≤ length os)
  room-first os k e = rw e (room-taken os, kept-few os)

  -- ---- the loop: the places passed make no room, and are put over others
  module _ (left was : List ℕ) where
    abbrev pub Passed : List ℕ → ℕ → Type 0
    Passed out i = (kept left ≡ i + kept (drop i left)) × (out ≡ take i left ++ drop i was)

    pub none-passed : Passed was 0
    none-passed = (omega arith, refl)

    pub room-here : (out : List ℕ) (i : ℕ) (t : Bool) → i < length left → t ≡ is_room beyond y price (get_or left i 0) → t ≡ true → Passed out i
        → (i ≡ kept left) × (out ≡ take i left ++ drop i was)
    room-here out i t h e is p =
        let none : kept (drop i left) ≡ 0 = rw (drop-cons left i 0 h, ← e, is) in
        (omega (arith, none, p.0), p.1)

    pub one-passed : (out : List ℕ) (i : ℕ) (t : Bool) → i < length left → length left ≤ length was → t ≡ is_room beyond y price (get_or left i 0) → t ≡ false → Passed out i
        → Passed (set out i (get_or left i 0)) (i + 1)
    one-passed out i t h g e is p =
        let one : kept (drop i left) ≡ 1 + kept (drop (suc i) left) = rw (drop-cons left i 0 h, ← e, is) in
        (p.0 ∙ rw (one, add-one) (omega arith), rw p.1 (place-next left was i 0 h (omega arith)))

    pub all-passed : (out : List ℕ) (i : ℕ) → i ≡ length left → Passed out i → (length left ≡ kept left) × (out ≡ take (length left) left ++ drop (length left) was)
    all-passed out i e p =
        let none : kept (drop i left) ≡ 0 = rw (e, drop-length left) in
        rw (← e) (omega (arith, none, p.0), p.1)

-- the places without the bar that falls out
left-drop : (oldest : ℕ) (places : List ℕ) → left_of oldest places ≡ drop (cond (eqb (get_or places 0 0) oldest) 1 0) places
left-drop oldest [] = sym (drop-nil (cond (eqb 0 oldest) 1 0))
left-drop oldest (o ∷ os) = go (eqb o oldest)
  where
    go : (t : Bool) → cond t os (o ∷ os) ≡ drop (cond t 1 0) (o ∷ os)
    go true = refl
    go false = refl

-- zeros behind what is kept
drop-zeros : (m n : ℕ) → drop {A = ℕ} n (replicate m 0) ≡ replicate (m - n) 0
drop-zeros m zero = let all : m - 0 ≡ m = omega arith in rw all
drop-zeros zero (suc n) = let none : 0 - suc n ≡ 0 = omega arith in rw none
drop-zeros (suc m) (suc n) = let less : suc m - suc n ≡ m - n = omega arith in rw less (drop-zeros m n)

-- the new bar behind what is kept
entered-placed : (room : List ℕ) (k last : ℕ) (y : Float) → length room ≡ k → k < quarter_bars
    → cond (is_nan y) (room ++ replicate (quarter_bars - k) 0) (set (room ++ replicate (quarter_bars - k) 0) k last) ≡ placed (room ++ entered y last)
entered-placed room k last y size less = go (is_nan y)
  where
    one : quarter_bars - k ≡ suc (quarter_bars - (k + 1))
    one = omega arith

    go : (t : Bool) → cond t (room ++ replicate (quarter_bars - k) 0) (set (room ++ replicate (quarter_bars - k) 0) k last) ≡ placed (room ++ cond t [] (last ∷ []))
    go true = rw (append-nil room, size)
    go false = rw (one, set_at room 0 (replicate (quarter_bars - (k + 1)) 0) last k size, length-append, size) (sym (append_assoc room (last ∷ []) (replicate (quarter_bars - (k + 1)) 0)))

module _ (beyond : Float → Float → Bool) (c : Column) (before last : ℕ) (bars : List Bar) (held : List ℕ) (full : length held ≡ quarter_bars) where
  pub next-places : (y : Float) (from k : ℕ) (copied out : List ℕ) → y ≡ price_of c (back_of bars 1) → from ≡ cond (eqb (get_or held 0 0) (last - quarter_bars)) 1 0
      → (let left = take (quarter_bars - 1) (drop from held) in
      k ≡ position_or_len (is_room beyond y (bar_price c before bars)) left → copied ≡ take k left ++ drop k (replicate quarter_bars 0)
      → out ≡ cond (is_nan y) copied (set copied k last) → out ≡ placed (next_ordinals beyond c before last bars held))
  next-places y from k copied out price start count copy put =
      let left = take (quarter_bars - 1) (drop from held) in
      let room = room-first beyond y (bar_price c before bars) left k count in
      let few : length left ≤ quarter_bars - 1 = rw length-take (omega arith) in
      let size : length (take k left) ≡ k = length-take-le k left room.1 in
      let rest : left_of (last - quarter_bars) held ≡ drop from held = left-drop (last - quarter_bars) held ∙ rw start in
      put ∙ rw (copy, drop-zeros quarter_bars k) (entered-placed (take k left) k last y size (omega (arith, room.1, few)) ∙ rw (rest, ← price, room.0))
