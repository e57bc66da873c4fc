-- A run of prices and its bars: how many, which prices each has, and the bars of a part. Assumes nothing.
use Prim.Native.Nat.{ℕ, zero, suc, ◌+◌, ◌-◌, ◌*◌, ◌/◌, ◌<◌, ◌≤◌, min}
use mathlib.Core.Path.{◌≡◌, refl, ap, sym, ◌∙◌}
use mathlib.Core.List.{List, [], ◌∷◌}
use native.Mathlib.Omega.{arith}
use native.Mathlib.Decide.{dec_le}
use native.Mathlib.Numerals.{add-one, unary_clauses}
use lib.ListN.{length, get_or, take, drop, drop_of_length-le}
use lib.Seq.{drop-cons, drop-nil, take-nil, take-length, take_all}
use lib.Ieee.{Float}
use Rattle.prices.specs.declared.bars.Bar.{Bar}
use Rattle.prices.specs.Bar.{bar_of, bar_from, no_bar, bars_of}
use Rattle.windows.specs.Window.{prices_from}

four-more : (n : ℕ) → suc n * 4 ≡ suc (suc (suc (suc (n * 4))))
four-more n = omega arith

-- a run has a bar for each four prices
pub length-bars : (ps : List Float) → length (bars_of ps) ≡ length ps / 4
unfolding bars_of
length-bars [] = refl
length-bars (o ∷ []) = refl
length-bars (o ∷ c ∷ []) = refl
length-bars (o ∷ c ∷ h ∷ []) = refl
length-bars (o ∷ c ∷ h ∷ l ∷ rest) = let e : length (bars_of rest) ≡ length rest / 4 = length-bars rest in omega arith

-- the i-th bar's prices
pub bar-prices : (ps : List Float) (i : ℕ) → i < length (bars_of ps) → get_or (bars_of ps) i no_bar ≡ bar_from ps (i * 4)
unfolding bars_of
bar-prices [] i k = absurd (let z : ⊥ = omega arith in z)
bar-prices (o ∷ []) i k = absurd (let z : ⊥ = omega arith in z)
bar-prices (o ∷ c ∷ []) i k = absurd (let z : ⊥ = omega arith in z)
bar-prices (o ∷ c ∷ h ∷ []) i k = absurd (let z : ⊥ = omega arith in z)
bar-prices (o ∷ c ∷ h ∷ l ∷ rest) zero k = refl
bar-prices (o ∷ c ∷ h ∷ l ∷ rest) (suc i) k =
    let k' : i < length (bars_of rest) = omega arith in
    simp (four-more i) (simp unary_clauses (simp unary_clauses at (bar-prices rest i k')))

-- the bars from i on: the i-th, and those behind it
pub from-bar : (bars : List Bar) (i : ℕ) → i < length bars → drop i bars ≡ get_or bars i no_bar ∷ drop (i + 1) bars
from-bar bars i h = rw (add-one, drop-cons bars i no_bar)

-- no bar is left from the count on
pub past-bars : (bars : List Bar) (i : ℕ) → length bars ≤ i → drop i bars ≡ []
past-bars bars i h = drop_of_length-le bars h

-- as many as there are at most
pub take-least : {A : Type 0} (n k : ℕ) (s : List A) → length s ≡ k → take (min n k) s ≡ take n s
take-least n k s len =
    elim (dec_le n k) [
      | yes h ↦ (let e : min n k ≡ n = omega arith in rw e)
      | no g ↦ (let e : min n k ≡ length s = omega arith in rw e (take-length s ∙ sym (take_all n s (omega arith))))
    ]

-- the bars of a part that begins and ends with a bar
pub bars-drop : (k : ℕ) (ps : List Float) → bars_of (drop (k * 4) ps) ≡ drop k (bars_of ps)
unfolding bars_of
bars-drop zero ps = refl
bars-drop (suc k) [] = rw four-more
bars-drop (suc k) (o ∷ []) = rw four-more (simp drop-nil)
bars-drop (suc k) (o ∷ c ∷ []) = rw four-more (simp drop-nil)
bars-drop (suc k) (o ∷ c ∷ h ∷ []) = rw four-more (simp drop-nil)
bars-drop (suc k) (o ∷ c ∷ h ∷ l ∷ rest) = rw four-more (bars-drop k rest)

pub bars-take : (k : ℕ) (ps : List Float) → bars_of (take (k * 4) ps) ≡ take k (bars_of ps)
unfolding bars_of
bars-take zero ps = refl
bars-take (suc k) [] = rw four-more
bars-take (suc k) (o ∷ []) = rw four-more (simp take-nil)
bars-take (suc k) (o ∷ c ∷ []) = rw four-more (simp take-nil)
bars-take (suc k) (o ∷ c ∷ h ∷ []) = rw four-more (simp take-nil)
bars-take (suc k) (o ∷ c ∷ h ∷ l ∷ rest) = rw four-more (ap (λ (bs : List Bar). bar_of o c h l ∷ bs) (bars-take k rest))

pub bars-part : (ps : List Float) (from to : ℕ) → bars_of (prices_from ps from to) ≡ take (to - from) (drop from (bars_of ps))
bars-part ps from to =
    let e : to * 4 - from * 4 ≡ (to - from) * 4 = omega arith in
    rw (e, bars-take, bars-drop)
