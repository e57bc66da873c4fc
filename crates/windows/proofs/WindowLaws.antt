-- Windows: their lengths and bars, the bars of a window of prices, and how far a window reaches back: one that lies within the newest
-- bars of a history is the same there, and a window is its own window. Assumes nothing.
use Prim.Native.Nat.{ℕ, zero, suc, ◌+◌, ◌-◌, ◌/◌, ◌%◌, ◌<◌, ◌≤◌, min}
use mathlib.Core.Path.{◌≡◌, refl, sym, ◌∙◌}
use mathlib.Core.Logic.{◌⊎◌, inl, inr, ⊎_elim}
use mathlib.Core.Bool.{Bool, true, false, cond}
use mathlib.Core.List.{List, [], ◌∷◌, ◌++◌}
use native.Mathlib.Omega.{arith}
use lib.Dec.{leb, ltb, eqb}
use lib.ListN.{length, take, drop, length-drop}
use lib.Seq.{take-length, take-add, drop_at, drop-drop, get_or-take, get_or-drop, length-take-le}
use lib.Ieee.{Float}
use borrow.Author.Tests.{eqb-false, ltb-true, ltb-false, leb-true, leb-false, eq-eqb, ne_eqb, lt-ltb, le-ltb}
use Rattle.prices.specs.declared.bars.Bar.{Bar}
use Rattle.prices.specs.Bar.{no_bar, bars_of}
use Rattle.windows.specs.Window.{up_to, newest, window_of, back_of, part_of}
use Rattle.windows.proofs.RunLaws.{length-bars, bars-part, from-bar, past-bars}

-- ---- p

-- the bars up to the judged one are among all of them
pub up_to-le : (len di : ℕ) → up_to len di ≤ len
unfolding up_to
up_to-le len di = go (eqb di 0) refl (ltb len di) refl
  where
    go : (t : Bool) → eqb di 0 ≡ t → (u : Bool) → ltb len di ≡ u → cond t 0 (cond u 0 (len - di + 1)) ≤ len
    go true e u f = omega arith
    go false e true f = omega arith
    go false e false f = let h : di ≡ 0 → ⊥ = eqb-false di 0 e in omega (arith, ltb-false len di f)

-- p, where there is a judged bar, and where there is none
pub up_to-in : (len di : ℕ) → 1 ≤ di → di ≤ len → up_to len di ≡ len - di + 1
unfolding up_to
up_to-in len di h g = simp (ne_eqb di 0 (λ e. omega arith), le-ltb len di g)

pub up_to-out : (len di : ℕ) → (di ≡ 0) ⊎ (len < di) → up_to len di ≡ 0
unfolding up_to
up_to-out len di = ⊎_elim (λ e. simp (eq-eqb di 0 e)) (λ g. simp (ne_eqb di 0 (λ e. omega arith), lt-ltb len di g))

pub up_to-one : (len : ℕ) → up_to len 1 ≡ len
up_to-one zero = up_to-out 0 1 (inr (omega arith))
up_to-one (suc len) = up_to-in (suc len) 1 (omega arith) (omega arith) ∙ omega arith

-- ---- the window as a part

-- what is left of the first p after the first k
pub drop-take : {A : Type 0} (k p : ℕ) (bars : List A) → k ≤ p → p ≤ length bars → drop k (take p bars) ≡ take (p - k) (drop k bars)
drop-take k p bars h g =
    let e : k + (p - k) ≡ p = omega arith in
    let s : take p bars ≡ take k bars ++ take (p - k) (drop k bars) = rw e at (take-add k (p - k) bars) in
    rw (s, drop_at (take k bars) _ k (length-take-le k bars (omega arith)))

-- the window's bars are those from p less n on
pub window-part : (bars : List Bar) (di n : ℕ) → let p = up_to (length bars) di in take (p - (p - min n p)) (drop (p - min n p) bars) ≡ window_of bars di n
unfolding window_of newest
window-part bars di n =
    let p = up_to (length bars) di in
    let h : p ≤ length bars = up_to-le (length bars) di in
    let f : p - n ≡ p - min n p = omega arith in
    simp (length-take-le p bars h, f) (sym (drop-take (p - min n p) p bars (omega arith) h))

-- the bars of a window of prices are the window of the bars
pub bars-window : (ps : List Float) (di n : ℕ) → length ps % 4 ≡ 0 → bars_of (part_of ps di n) ≡ window_of (bars_of ps) di n
unfolding part_of
bars-window ps di n whole =
    let p = up_to (length ps / 4) di in
    simp (eq-eqb (length ps % 4) 0 whole) (bars-part ps (p - min n p) p ∙ rw (length-bars ps) at (window-part (bars_of ps) di n))

-- a window of n bars has min(n, p)
pub length-window : (history : List Bar) (di n : ℕ) → length (window_of history di n) ≡ min n (up_to (length history) di)
unfolding window_of newest
length-window history di n =
    let p = up_to (length history) di in
    simp (length-drop, length-take-le p history (up_to-le (length history) di)) (omega arith)

-- the place of the i-th bar from the end of the last n of p bars
place_in : (p n i : ℕ) → i ≤ n → i ≤ p → p - n + (p - (p - n) - min i (p - (p - n))) ≡ p - i
place_in p n i h g = omega arith

-- the i-th bar from the end of a window is a bar of the history
pub back-window : (history : List Bar) (di n i : ℕ) → 1 ≤ di → 1 ≤ i → i ≤ n → i + di ≤ length history + 1
    → back_of (window_of history di n) i ≡ back_of history (i + di - 1)
unfolding window_of newest back_of
back-window history di n i one first h g =
    let p = up_to (length history) di in
    let e1 : p ≡ length history - di + 1 = up_to-in (length history) di one (omega arith) in
    let within : p - i < p = omega arith in
    let e2 : length history - min (i + di - 1) (length history) ≡ p - i = omega arith in
    let e3 : p - n + (p - (p - n) - min i (p - (p - n))) ≡ p - i = place_in p n i h (omega arith) in
    simp (get_or-drop, length-drop, length-take-le p history (up_to-le (length history) di), e2, e3) (get_or-take p history (p - i) no_bar within)

-- the newest bars, one more, none, and all
pub newest-more : (bars : List Bar) (i : ℕ) → i < length bars → newest (i + 1) bars ≡ back_of bars (i + 1) ∷ newest i bars
unfolding newest back_of
newest-more bars i h =
    let at = length bars - (i + 1) in
    let e : length bars - min (i + 1) (length bars) ≡ at = omega arith in
    let f : at + 1 ≡ length bars - i = omega arith in
    rw (from-bar bars at (omega arith), f, e)

pub newest-none : (bars : List Bar) → newest 0 bars ≡ []
unfolding newest
newest-none bars = past-bars bars (length bars - 0) (omega arith)

pub newest-all : (bars : List Bar) → newest (length bars) bars ≡ bars
unfolding newest
newest-all bars = let e : length bars - length bars ≡ 0 = omega arith in rw e

-- ---- reach

-- the newest n of the last bars of a run are the newest n of the run
newest-drop : (k n : ℕ) (run : List Bar) → k + (length run - k - n) ≡ length run - n → newest n (drop k run) ≡ newest n run
unfolding newest
newest-drop k n run e = simp (length-drop, drop-drop, e)

pub newest-again : (n m : ℕ) (bars : List Bar) → n ≤ m → newest n (newest m bars) ≡ newest n bars
unfolding newest
newest-again n m bars few = newest-drop (length bars - m) n bars (omega arith)

-- and so is the i-th from the end, if i is among them
pub back-newest : (m i : ℕ) (bars : List Bar) → i ≤ m → back_of (newest m bars) i ≡ back_of bars i
unfolding newest back_of
back-newest m i bars near =
    let d = length bars - m in
    let e : d + (length bars - d - min i (length bars - d)) ≡ length bars - min i (length bars) = omega arith in
    simp (get_or-drop, length-drop, e)

-- sums of the window's places: len bars of which the newest m are kept, and an offset
module _ (len m di n : ℕ) (h : di + n ≤ m + 1) (g : 1 ≤ n) (one : 1 ≤ di) (within : di ≤ len) where
  kept-up-to : len - (len - m) - di + 1 ≡ len - di + 1 - (len - m)
  kept-up-to = omega arith

  kept-start : len - m + (len - di + 1 - (len - m) - n) ≡ len - di + 1 - n
  kept-start = omega arith

module _ (m : ℕ) (history : List Bar) (di n : ℕ) (h : di + n ≤ m + 1) (g : 1 ≤ n) where
  no-bar-there : (di ≡ 0) ⊎ (length history < di) → window_of (newest m history) di n ≡ window_of history di n
  unfolding window_of newest
  no-bar-there none =
      let d = length history - m in
      let out : (di ≡ 0) ⊎ (length (drop d history) < di) = ⊎_elim (λ z. inl z) (λ (z : length history < di). inr (simp length-drop (omega arith))) none in
      simp (up_to-out (length (drop d history)) di out, up_to-out (length history) di none)

  bar-there : 1 ≤ di → di ≤ length history → window_of (newest m history) di n ≡ window_of history di n
  unfolding window_of newest
  bar-there one within =
      let d = length history - m in
      let p = up_to (length history) di in
      let e1 : p ≡ length history - di + 1 = up_to-in (length history) di one within in
      let f : length history - d - di + 1 ≡ p - d = rw e1 (kept-up-to (length history) m di n h g one within) in
      let e2 : up_to (length history - d) di ≡ p - d = up_to-in (length history - d) di one (omega arith) ∙ f in
      let e3 : take (p - d) (drop d history) ≡ drop d (take p history) = sym (drop-take d p history (omega arith) (omega arith)) in
      let e4 : length (take p history) ≡ p = length-take-le p history (omega arith) in
      let e5 : d + (p - d - n) ≡ p - n = rw e1 (kept-start (length history) m di n h g one within) in
      simp (length-drop, e2, e3) (simp length-drop at (newest-drop d n (take p history) (simp e4 e5)))

  -- an offset and a window that lie within the newest m bars of a history are the same there
  pub window-reach : window_of (newest m history) di n ≡ window_of history di n
  window-reach = go (ltb 0 di) refl (leb di (length history)) refl
    where
      go : (t : Bool) → ltb 0 di ≡ t → (u : Bool) → leb di (length history) ≡ u → window_of (newest m history) di n ≡ window_of history di n
      go false e u f = no-bar-there (inl (omega (arith, ltb-false 0 di e)))
      go true e false f = no-bar-there (inr (leb-false di (length history) f))
      go true e true f = bar-there (ltb-true 0 di e) (leb-true di (length history) f)

-- a window is its own window of its newest bar
pub all-of-it : (w : List Bar) (n : ℕ) → length w ≤ n → window_of w 1 n ≡ w
unfolding window_of newest
all-of-it w n h =
    let f : length w - n ≡ 0 = omega arith in
    simp (up_to-one (length w), take-length w, f)

pub window-again : (history : List Bar) (di n : ℕ) → window_of (window_of history di n) 1 n ≡ window_of history di n
window-again history di n = all-of-it (window_of history di n) n (omega (arith, length-window history di n))
