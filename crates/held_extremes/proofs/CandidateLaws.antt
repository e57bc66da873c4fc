-- The candidates' laws, once for the highest and the lowest: the first one's price is 01's fold; and what one bar more leaves. Assumes nothing.
use Prim.Native.Nat.{ℕ, suc, ◌+◌, ◌-◌, ◌<◌, ◌≤◌}
use mathlib.Core.Path.{◌≡◌, refl, sym, ap, subst, ◌∙◌}
use mathlib.Core.Bool.{Bool, true, false, cond, not, ◌&&◌, ◌||◌, and-true}
use mathlib.Core.List.{List, [], ◌∷◌, foldl}
use native.Mathlib.Omega.{arith}
use lib.ListN.{length, get_or}
use lib.Ieee.{Float, nan, inf, lt, is_nan}
use Rattle.measures.specs.Price.{max_of, min_of}
use Rattle.measures.specs.Fold.{highest_of, lowest_of, every_of}
use Rattle.measures.proofs.Order.{is-nan, both_ways}
use Rattle.measures.proofs.FoldLaws.{highest-grows, lowest-grows, known-highest, known-lowest}
use Rattle.held_extremes.specs.Candidate.{greater, smaller, stays, candidates}
pub use Rattle.held_extremes.specs.SideSteps.{Way, SideLaws, rising, falling}

-- ---- a value that tells of prices whether any is beyond a price: the foremost of them

abbrev pub Tells : (Float → Float → Bool) → Float → List Float → Type 0
Tells beyond r ys = (x : Float) → every_of (λ y. not (beyond x y)) ys ≡ not (beyond x r)

module _ (beyond : Float → Float → Bool) (o : Way beyond) where
  -- an older price that nothing told of is beyond takes its place
  pub tells-new : (y r : Float) (ys : List Float) → is_nan y ≡ false → beyond y r ≡ false → Tells beyond r ys → Tells beyond y (y ∷ ys)
  unfolding every_of
  tells-new y r ys known least told x = rw (told x) (go (beyond x y) refl (beyond x r) refl)
    where
      go : (t : Bool) → beyond x y ≡ t → (u : Bool) → beyond x r ≡ u → (not t && not u) ≡ not t
      go true e u f = refl
      go false e true f = both_ways (o.split x y r known f e) least
      go false e false f = refl

  -- one that is not beyond it, or NaN, leaves it
  pub tells-old : (y r : Float) (ys : List Float) → is_nan r ≡ false → beyond r y ≡ false → Tells beyond r ys → Tells beyond r (y ∷ ys)
  unfolding every_of
  tells-old y r ys known least told x = rw (told x) (go (beyond x y) refl (beyond x r) refl)
    where
      go : (t : Bool) → beyond x y ≡ t → (u : Bool) → beyond x r ≡ u → (not t && not u) ≡ not u
      go true e true f = refl
      go true e false f = both_ways (o.split x r y known e f) least
      go false e u f = refl

-- ---- 01's folds

pub record Extreme (beyond : Float → Float → Bool) (f : Float → Float → Float) (start : Float) : Type 0 where
  pub laws : SideLaws beyond start
  pub grows : (x : Float) (xs : List Float) → foldl f start (x ∷ xs) ≡ f x (foldl f start xs)
  pub chooses : (a b : Float) → is_nan b ≡ false → f a b ≡ cond (is_nan a || beyond a b) b a
  pub known : (xs : List Float) → is_nan (foldl f start xs) ≡ false

-- the price of the first candidate of prices that follow n others; without candidates the fold's infinity
abbrev pub first_price : Float → ℕ → List Float → List ℕ → Float
first_price start n xs [] = start
first_price start n xs (first ∷ others) = get_or xs (first - (n + 1)) nan

-- ordinals of bars that follow n others, up to a last one
abbrev pub Among : ℕ → ℕ → List ℕ → Type 0
Among n last [] = Unit {0}
Among n last (o ∷ os) = (n < o) × (o ≤ last) × Among n last os

wider : (n last : ℕ) (os : List ℕ) → Among (n + 1) last os → Among n last os
wider n last [] h = tt
wider n last (o ∷ os) h = (omega (arith, h.0), h.1, wider n last os h.2)

pub among : (beyond : Float → Float → Bool) (n last : ℕ) (xs : List Float) → n + length xs ≤ last → Among n last (candidates beyond n xs)
unfolding candidates
among beyond n last [] e = tt
among beyond n last (x ∷ later) e = go (stays beyond x later) (wider n last (candidates beyond (n + 1) later) (among beyond (n + 1) last later (omega arith)))
  where
    go : (t : Bool) → Among n last (candidates beyond (n + 1) later) → Among n last (cond t ((n + 1) ∷ candidates beyond (n + 1) later) (candidates beyond (n + 1) later))
    go true h = (omega arith, omega arith, h)
    go false h = h

pub among_later : (beyond : Float → Float → Bool) (n : ℕ) (xs : List Float) → Among n (n + length xs) (candidates beyond n xs)
among_later beyond n xs = among beyond n (n + length xs) xs (omega arith)

pub length-candidates : (beyond : Float → Float → Bool) (n : ℕ) (xs : List Float) → length (candidates beyond n xs) ≤ length xs
unfolding candidates
length-candidates beyond n [] = omega arith
length-candidates beyond n (x ∷ later) = go (stays beyond x later) (length-candidates beyond (n + 1) later)
  where
    go : (t : Bool) → length (candidates beyond (n + 1) later) ≤ length later → length (cond t ((n + 1) ∷ candidates beyond (n + 1) later) (candidates beyond (n + 1) later)) ≤ suc (length later)
    go true h = omega arith
    go false h = omega arith

-- one older price more
later-price : (start : Float) (n last : ℕ) (x : Float) (xs : List Float) (os : List ℕ) → Among (n + 1) last os → first_price start n (x ∷ xs) os ≡ first_price start (n + 1) xs os
later-price start n last x xs [] h = refl
later-price start n last x xs (first ∷ others) h =
    let e : first - (n + 1) ≡ suc (first - (n + 1 + 1)) = omega (arith, h.0) in
    rw e

module _ (beyond : Float → Float → Bool) (f : Float → Float → Float) (start : Float) (e : Extreme beyond f start) where
  -- an older price enters: the fold tells of it too
  tells_more : (y r : Float) (ys : List Float) → is_nan r ≡ false → Tells beyond r ys → Tells beyond (cond (is_nan y || beyond y r) r y) (y ∷ ys)
  tells_more y r ys known told = go (is_nan y) refl (beyond y r) refl
    where
      go : (t : Bool) → is_nan y ≡ t → (u : Bool) → beyond y r ≡ u → Tells beyond (cond (t || u) r y) (y ∷ ys)
      go true h u g = tells-old beyond e.laws.way y r ys known (rw (is-nan y h) (e.laws.way.nan_right r)) told
      go false h true g = tells-old beyond e.laws.way y r ys known (e.laws.way.asym y r g) told
      go false h false g = tells-new beyond e.laws.way y r ys h g told

  -- so the fold tells whether any price is beyond one
  tells-fold : (xs : List Float) → Tells beyond (foldl f start xs) xs
  unfolding every_of
  tells-fold [] = λ x. sym (ap not (e.laws.none x))
  tells-fold (y ∷ ys) =
      let r = foldl f start ys in
      subst (λ (z : Float). Tells beyond z (y ∷ ys)) (sym (e.grows y ys ∙ e.chooses y r (e.known ys))) (tells_more y r ys (e.known ys) (tells-fold ys))

  -- a price stays if it is no NaN and the fold over the later ones is not beyond it
  stays-under : (x : Float) (later : List Float) → stays beyond x later ≡ (not (is_nan x) && not (beyond x (foldl f start later)))
  stays-under x later = ap (λ (t : Bool). not (is_nan x) && t) (tells-fold later x)

  -- the first candidate's price, or the infinity, is the fold
  first-is-fold : (n : ℕ) (xs : List Float) → first_price start n xs (candidates beyond n xs) ≡ foldl f start xs
  unfolding candidates
  first-is-fold n [] = refl
  first-is-fold n (x ∷ later) =
      let r = foldl f start later in
      let rest = later-price start n (n + 1 + length later) x later (candidates beyond (n + 1) later) (among_later beyond (n + 1) later) ∙ first-is-fold (n + 1) later in
      rw (stays-under x later, e.grows x later, e.chooses x r (e.known later)) (go (is_nan x) (beyond x r) rest)
    where
      here : n + 1 - (n + 1) ≡ 0
      here = omega arith

      go : (t u : Bool) → first_price start n (x ∷ later) (candidates beyond (n + 1) later) ≡ foldl f start later
          → first_price start n (x ∷ later) (cond (not t && not u) ((n + 1) ∷ candidates beyond (n + 1) later) (candidates beyond (n + 1) later)) ≡ cond (t || u) (foldl f start later) x
      go true u rest = rest
      go false true rest = rest
      go false false rest = rw here

-- ---- max and min are such

max-chooses : (a b : Float) → is_nan b ≡ false → max_of a b ≡ cond (is_nan a || lt a b) b a
unfolding max_of
max-chooses a b h = simp (h, and-true)

min-chooses : (a b : Float) → is_nan b ≡ false → min_of a b ≡ cond (is_nan a || lt b a) b a
unfolding min_of
min-chooses a b h = simp (h, and-true)

pub highest : Extreme greater max_of (inf true)
unfolding highest_of
highest = record { laws = rising; grows = highest-grows; chooses = max-chooses; known = known-highest }

pub lowest : Extreme smaller min_of (inf false)
unfolding lowest_of
lowest = record { laws = falling; grows = lowest-grows; chooses = min-chooses; known = known-lowest }

pub first-is-highest : (n : ℕ) (xs : List Float) → first_price (inf true) n xs (candidates greater n xs) ≡ highest_of xs
unfolding highest_of
first-is-highest = first-is-fold greater max_of (inf true) highest

pub first-is-lowest : (n : ℕ) (xs : List Float) → first_price (inf false) n xs (candidates smaller n xs) ≡ lowest_of xs
unfolding lowest_of
first-is-lowest = first-is-fold smaller min_of (inf false) lowest
