-- One price more: the candidates that the definition gives, from those before. The oldest leaves if it was one, those at the end that the new
-- price is beyond make room, and the new bar comes last. Once for both orders. Assumes nothing.
use Prim.Native.Nat.{ℕ, zero, suc, ◌+◌, ◌-◌, ◌<◌, ◌≤◌}
use mathlib.Core.Path.{◌≡◌, refl, ap, ◌∙◌}
use mathlib.Core.Bool.{Bool, true, false, cond, not, ◌&&◌, and-true, and-eq-true_iff}
use mathlib.Core.List.{List, [], ◌∷◌, ◌++◌}
use native.Mathlib.Omega.{arith}
use borrow.Author.Tests.{ne_eqb, eq-eqb, not-true}
use lib.Dec.{eqb}
use lib.ListN.{length, get_or, take, replicate}
use lib.Ieee.{Float, nan, is_nan}
use Rattle.measures.specs.Fold.{every_of}
use Rattle.held_extremes.specs.Candidate.{stays, candidates}
use Rattle.held_extremes.specs.CandidateSteps.{left_of, is_room, room_for, entered}
use Rattle.held_extremes.proofs.CandidateLaws.{Way, Among, among_later}

-- the price of the bar with an ordinal, of bars with prices xs that follow n others
abbrev pub price_from : ℕ → List Float → ℕ → Float
price_from n xs ordinal = get_or xs (ordinal - (n + 1)) nan

-- no bar has the ordinal 0
some : (n : ℕ) → eqb (n + 1) 0 ≡ false
some n = ne_eqb (n + 1) 0 (λ e. omega arith)

module _ (beyond : Float → Float → Bool) where
  -- ---- the oldest leaves: what is left are the candidates of the others
  pub left-none : (oldest n last : ℕ) (os : List ℕ) → oldest ≤ n → Among n last os → left_of oldest os ≡ os
  left-none oldest n last [] k h = refl
  left-none oldest n last (o ∷ os) k h = simp (ne_eqb o oldest (λ e. omega (arith, h.0)))

  pub oldest-leaves : (n : ℕ) (x : Float) (xs : List Float) → left_of (n + 1) (candidates beyond n (x ∷ xs)) ≡ candidates beyond (n + 1) xs
  unfolding candidates
  oldest-leaves n x xs = go (stays beyond x xs)
    where
      go : (t : Bool) → left_of (n + 1) (cond t ((n + 1) ∷ candidates beyond (n + 1) xs) (candidates beyond (n + 1) xs)) ≡ candidates beyond (n + 1) xs
      go true = simp (eq-eqb (n + 1) (n + 1) refl)
      go false = left-none (n + 1) (n + 1) (n + 1 + length xs) (candidates beyond (n + 1) xs) (omega arith) (among_later beyond (n + 1) xs)

  -- ---- a price comes behind
  room-shift : (y : Float) (n last : ℕ) (x : Float) (xs : List Float) (os : List ℕ) → Among (n + 1) last os
      → room_for beyond y (price_from n (x ∷ xs)) os ≡ room_for beyond y (price_from (n + 1) xs) os
  unfolding room_for
  room-shift y n last x xs [] h = refl
  room-shift y n last x xs (o ∷ os) h =
      let e : o - (n + 1) ≡ suc (o - (n + 1 + 1)) = omega (arith, h.0) in
      rw (e, room-shift y n last x xs os h.2)

  -- what is behind the candidates is empty, and makes room
  room-zeros : (y : Float) (price : ℕ → Float) (i k : ℕ) (os : List ℕ) → length os ≤ i → room_for beyond y price (take i (os ++ replicate k 0)) ≡ room_for beyond y price os
  unfolding room_for
  room-zeros y price zero k [] h = refl
  room-zeros y price (suc i) zero [] h = refl
  room-zeros y price (suc i) (suc k) [] h = refl
  room-zeros y price zero k (o ∷ os) h = absurd (let z : ⊥ = omega arith in z)
  room-zeros y price (suc i) k (o ∷ os) h = ap (λ (l : List ℕ). cond (is_room beyond y price o) [] (o ∷ l)) (room-zeros y price i k os (omega arith))

  pub room-left : (y : Float) (price : ℕ → Float) (i k oldest : ℕ) (os : List ℕ) → length (left_of oldest os) ≤ i
      → room_for beyond y price (take i (left_of oldest (os ++ replicate k 0))) ≡ room_for beyond y price (left_of oldest os)
  room-left y price i zero oldest [] h = room-zeros y price i 0 [] h
  room-left y price i (suc k) oldest [] h = go (eqb 0 oldest)
    where
      go : (t : Bool) → room_for beyond y price (take i (cond t (replicate k 0) (0 ∷ replicate k 0))) ≡ room_for beyond y price []
      go true = room-zeros y price i k [] h
      go false = room-zeros y price i (suc k) [] h
  room-left y price i k oldest (o ∷ os) h = go (eqb o oldest) h
    where
      go : (t : Bool) → length (cond t os (o ∷ os)) ≤ i
          → room_for beyond y price (take i (cond t (os ++ replicate k 0) (o ∷ os ++ replicate k 0))) ≡ room_for beyond y price (cond t os (o ∷ os))
      go true g = room-zeros y price i k os g
      go false g = room-zeros y price i k (o ∷ os) g

  -- only the prices of the candidates count
  pub room-same : (y : Float) (p q : ℕ → Float) (n last : ℕ) (os : List ℕ) → Among n last os → ((o : ℕ) → n < o → o ≤ last → p o ≡ q o)
      → room_for beyond y p os ≡ room_for beyond y q os
  unfolding room_for
  room-same y p q n last [] h same = refl
  room-same y p q n last (o ∷ os) h same = rw (same o h.0 h.1, room-same y p q n last os h.2 same)

  every_more : (p : Float → Bool) (xs : List Float) (y : Float) → every_of p (xs ++ (y ∷ [])) ≡ (every_of p xs && p y)
  unfolding every_of
  every_more p [] y = and-true (p y)
  every_more p (x ∷ xs) y = rw (every_more p xs y) (regroup (p x) (every_of p xs) (p y))
    where
      regroup : (a b c : Bool) → (a && (b && c)) ≡ ((a && b) && c)
      regroup true b c = refl
      regroup false b c = refl

  stays-more : (x : Float) (xs : List Float) (y : Float) → stays beyond x (xs ++ (y ∷ [])) ≡ (stays beyond x xs && not (beyond x y))
  stays-more x xs y = rw (every_more (λ z. not (beyond x z)) xs y) (regroup (not (is_nan x)) (every_of (λ z. not (beyond x z)) xs) (not (beyond x y)))
    where
      regroup : (a b c : Bool) → (a && (b && c)) ≡ ((a && b) && c)
      regroup true b c = refl
      regroup false b c = refl

  module _ (o : Way beyond) where
    -- where a price that nothing in xs is beyond makes room for y, so do all candidates of xs
    none_left : (x y : Float) (n : ℕ) (xs : List Float) → every_of (λ z. not (beyond x z)) xs ≡ true → beyond x y ≡ true
        → room_for beyond y (price_from n xs) (candidates beyond n xs) ≡ []
    unfolding candidates every_of room_for
    none_left x y n [] least over = refl
    none_left x y n (z ∷ zs) least over =
        let both = (and-eq-true_iff (not (beyond x z)) (every_of (λ w. not (beyond x w)) zs)).0 least in
        let rest = room-shift y n (n + 1 + length zs) z zs (candidates beyond (n + 1) zs) (among_later beyond (n + 1) zs) ∙ none_left x y (n + 1) zs both.1 over in
        go (is_nan z) refl (every_of (λ w. not (beyond z w)) zs) (not-true (beyond x z) both.0) rest
      where
        here : n + 1 - (n + 1) ≡ 0
        here = omega arith

        go : (t : Bool) → is_nan z ≡ t → (u : Bool) → beyond x z ≡ false → room_for beyond y (price_from n (z ∷ zs)) (candidates beyond (n + 1) zs) ≡ []
            → room_for beyond y (price_from n (z ∷ zs)) (cond (not t && u) ((n + 1) ∷ candidates beyond (n + 1) zs) (candidates beyond (n + 1) zs)) ≡ []
        go true h u below rest = rest
        go false h false below rest = rest
        go false h true below rest = rw (some n, here, o.split x z y h over below)

    -- the candidates of one price more
    pub newest-enters : (n : ℕ) (xs : List Float) (y : Float)
        → candidates beyond n (xs ++ (y ∷ [])) ≡ room_for beyond y (price_from n xs) (candidates beyond n xs) ++ entered y (n + length xs + 1)
    unfolding candidates every_of room_for
    newest-enters n [] y =
        let e : n + 0 + 1 ≡ n + 1 = omega arith in
        rw e (go (is_nan y))
      where
        go : (t : Bool) → cond (not t && true) ((n + 1) ∷ []) [] ≡ cond t [] ((n + 1) ∷ [])
        go true = refl
        go false = refl
    newest-enters n (x ∷ xs) y =
        let size : n + suc (length xs) + 1 ≡ n + 1 + length xs + 1 = omega arith in
        rw (stays-more x xs y, newest-enters (n + 1) xs y, size)
        (go (is_nan x) refl (every_of (λ z. not (beyond x z)) xs) refl (beyond x y) refl)
      where
        here : n + 1 - (n + 1) ≡ 0
        here = omega arith

        shift : room_for beyond y (price_from n (x ∷ xs)) (candidates beyond (n + 1) xs) ≡ room_for beyond y (price_from (n + 1) xs) (candidates beyond (n + 1) xs)
        shift = room-shift y n (n + 1 + length xs) x xs (candidates beyond (n + 1) xs) (among_later beyond (n + 1) xs)

        go : (s : Bool) → is_nan x ≡ s → (t : Bool) → every_of (λ z. not (beyond x z)) xs ≡ t → (u : Bool) → beyond x y ≡ u
            → cond ((not s && t) && not u) ((n + 1) ∷ room_for beyond y (price_from (n + 1) xs) (candidates beyond (n + 1) xs) ++ entered y (n + 1 + length xs + 1)) (room_for beyond y (price_from (n + 1) xs) (candidates beyond (n + 1) xs) ++ entered y (n + 1 + length xs + 1))
            ≡ room_for beyond y (price_from n (x ∷ xs)) (cond (not s && t) ((n + 1) ∷ candidates beyond (n + 1) xs) (candidates beyond (n + 1) xs)) ++ entered y (n + 1 + length xs + 1)
        go true h t g u f = rw shift
        go false h false g u f = rw shift
        go false h true g true f = rw (some n, here, f, none_left x y (n + 1) xs g f)
        go false h true g false f = rw (some n, here, f, shift)
