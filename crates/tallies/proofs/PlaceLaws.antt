-- Lists whose elements are changed by their places. Assumes nothing.
use Prim.Native.Nat.{ℕ, zero, suc, ◌+◌, ◌≤◌, ◌<◌}
use mathlib.Core.List.{List, [], ◌∷◌, ◌++◌, append_assoc}
use mathlib.Core.Path.{◌≡◌, refl, ap, ◌∙◌}
use native.Mathlib.Nat.{add-zero, not-suc-le-zero}
use native.Mathlib.Numerals.{add-one}
use native.Mathlib.Omega.{arith}
use lib.ListN.{length, get_or, take, drop, set}
use lib.Seq.{take-suc, drop-cons, length-take-le, get_or_at, set_at}
use Rattle.tallies.specs.Tally.{by_place}

module _ {A : Type 0} where
  pub length-places : (f : ℕ → A → A) (i : ℕ) (xs : List A) → length (by_place f i xs) ≡ length xs
  unfolding by_place
  length-places f i [] = refl
  length-places f i (x ∷ xs) = ap suc (length-places f (i + 1) xs)

  pub at_place : (f : ℕ → A → A) (i : ℕ) (xs : List A) (j : ℕ) (d : A) → j < length xs → get_or (by_place f i xs) j d ≡ f (i + j) (get_or xs j d)
  unfolding by_place
  at_place f i [] j d h = absurd (not-suc-le-zero h)
  at_place f i (x ∷ xs) zero d h = rw (add-zero i)
  at_place f i (x ∷ xs) (suc j) d h =
      let at : i + 1 + j ≡ i + suc j = omega arith in
      at_place f (i + 1) xs j d (omega arith) ∙ rw at

  -- the same change at each place
  pub same-places : (f g : ℕ → A → A) (d : A) (i : ℕ) (xs : List A) → ((j : ℕ) → j < length xs → f (i + j) (get_or xs j d) ≡ g (i + j) (get_or xs j d))
      → by_place f i xs ≡ by_place g i xs
  unfolding by_place
  same-places f g d i [] same = refl
  same-places f g d i (x ∷ xs) same =
      let here : f i x ≡ g i x = rw (add-zero i) at (same 0 (omega arith)) in
      let rest = same-places f g d (i + 1) xs (λ j h. let at : i + suc j ≡ i + 1 + j = omega arith in rw at at (same (suc j) (omega arith))) in
      rw (here, rest)

  -- one change after the other
  pub place-place : (f g : ℕ → A → A) (i : ℕ) (xs : List A) → by_place g i (by_place f i xs) ≡ by_place (λ j x. g j (f j x)) i xs
  unfolding by_place
  place-place f g i [] = refl
  place-place f g i (x ∷ xs) = rw (place-place f g (i + 1) xs)

  -- no change
  pub places-past : (f : ℕ → A → A) (i : ℕ) (xs : List A) → ((j : ℕ) (x : A) → i ≤ j → f j x ≡ x) → by_place f i xs ≡ xs
  unfolding by_place
  places-past f i [] kept = refl
  places-past f i (x ∷ xs) kept = rw (kept i x (omega arith), places-past f (i + 1) xs (λ j y h. kept j y (omega arith)))

  pub places-kept : (f : ℕ → A → A) (i : ℕ) (xs : List A) → ((j : ℕ) (x : A) → f j x ≡ x) → by_place f i xs ≡ xs
  places-kept f i xs kept = places-past f i xs (λ j x h. kept j x)

  -- ---- one place after the other, from the first on

  places-snoc : (f : ℕ → A → A) (i : ℕ) (xs : List A) (x : A) → by_place f i (xs ++ (x ∷ [])) ≡ by_place f i xs ++ (f (i + length xs) x ∷ [])
  unfolding by_place
  places-snoc f i [] x = rw (add-zero i)
  places-snoc f i (y ∷ xs) x =
      let at : i + 1 + length xs ≡ i + suc (length xs) = omega arith in
      rw (places-snoc f (i + 1) xs x, at)

  -- the first n are changed
  abbrev pub changed : (ℕ → A → A) → ℕ → List A → List A
  changed f n xs = by_place f 0 (take n xs) ++ drop n xs

  module _ (f : ℕ → A → A) (xs : List A) (n : ℕ) (d : A) (h : n < length xs) where
    front : length (by_place f 0 (take n xs)) ≡ n
    front = length-places f 0 (take n xs) ∙ length-take-le n xs (omega arith)

    pub changed-at : get_or (changed f n xs) n d ≡ get_or xs n d
    changed-at = rw (drop-cons xs n d h) (get_or_at (by_place f 0 (take n xs)) (get_or xs n d) (drop (suc n) xs) d n front)

    pub changed-next : set (changed f n xs) n (f n (get_or xs n d)) ≡ changed f (n + 1) xs
    changed-next =
        let size : 0 + length (take n xs) ≡ n = rw (length-take-le n xs (omega arith)) (omega arith) in
        rw (drop-cons xs n d h, set_at (by_place f 0 (take n xs)) (get_or xs n d) (drop (suc n) xs) (f n (get_or xs n d)) n front, add-one n, take-suc xs n d h, places-snoc f 0 (take n xs) (get_or xs n d), size)
        (simp append_assoc)
