-- Parts of lists: from a place on, and of a given length. Assumes nothing.
use Prim.Native.Nat.{ℕ, suc, ◌+◌, ◌-◌, ◌≤◌, min}
use mathlib.Core.Path.{◌≡◌, sym, ◌∙◌}
use mathlib.Core.List.{List, [], ◌∷◌, ◌++◌, append-nil}
use native.Mathlib.Omega.{arith}
use native.Mathlib.Decide.{dec_lt}
use borrow.Rule.Slice.PartMut.{put_mid}
use lib.ListN.{length, take, drop, length-append, length-take, length-drop, drop_of_length-le}
use lib.Seq.{take_all, take-add, take_at, drop_at, drop-drop, length-take-le}
use Rattle.measures.specs.Bar.{overlay}
use Rattle.measures.proofs.Overlay.{overlay-none, overlay-more}
use Rattle.bar_box.proofs.BoxLaws.{drop-same}

module _ {A : Type 0} where
  -- what is left behind an end that is no later than the list's
  pub left_is : (xs : List A) (p k : ℕ) → drop k (drop p xs) ≡ drop (min (length xs) (p + k)) xs
  left_is xs p k = drop-drop k p xs ∙ drop-same xs (p + k) (min (length xs) (p + k)) (omega arith)

  -- another rest in the place of a list's
  pub put_rest : (xs : List A) (at : ℕ) (ys : List A) → put_mid at (length xs - at) xs ys ≡ take at xs ++ ys
  put_rest xs at ys = rw (drop_of_length-le (drop at xs) {i = length xs - at} (omega (arith, length-drop at xs)), append-nil ys)

  pub put_size : (xs : List A) (at : ℕ) (ys : List A) → at ≤ length xs → length ys ≡ length (take (length xs - at) (drop at xs)) → length (put_mid at (length xs - at) xs ys) ≡ length xs
  put_size xs at ys le size = rw (put_rest xs at ys, length-append) (omega (arith, length-take-le at xs le, size, length-take (length xs - at) (drop at xs), length-drop at xs))

  -- a front and what stands behind it, cut k elements further on
  pub front-more : (xs ys : List A) (at k : ℕ) → at ≤ length xs → take (at + k) (take at xs ++ ys) ≡ take at xs ++ take k ys
  front-more xs ys at k le =
      let size = length-take-le at xs le in
      rw (take-add at k (take at xs ++ ys), take_at (take at xs) ys at size, drop_at (take at xs) ys at size)

  pub behind_more : (xs ys : List A) (at k : ℕ) → at ≤ length xs → drop (at + k) (take at xs ++ ys) ≡ drop k ys
  behind_more xs ys at k le = rw (← drop-drop k at (take at xs ++ ys), drop_at (take at xs) ys at (length-take-le at xs le))

  -- one element and then others, as far as there are places
  overlay-step : (s : List A) (i : ℕ) (x : A) (xs : List A)
      → overlay s i (take (length s - i) (x ∷ xs)) ≡ overlay (overlay s i (take (length s - i) (x ∷ []))) (i + 1) (take (length s - (i + 1)) xs)
  overlay-step s i x xs =
      elim (dec_lt i (length s)) [
        | yes k ↦ (let size : length s - i ≡ suc (length s - (i + 1)) = omega arith in
            let later = length-take (length s - (i + 1)) xs in
            let one = take_all (length s - i) (x ∷ []) (omega arith) in
            let all : take (length s - i) (x ∷ xs) ≡ x ∷ take (length s - (i + 1)) xs = rw size in
            rw (one, all) (sym (overlay-more s i (x ∷ []) (take (length s - (i + 1)) xs) (i + 1) (omega arith) (omega arith))))
        | no k ↦ (let here : length s - i ≡ 0 = omega arith in
            let next : length s - (i + 1) ≡ 0 = omega arith in
            rw (here, next, overlay-none s i, overlay-none s (i + 1)))
      ]

  -- as the code has it
  pub overlay-then : (s then : List A) (i : ℕ) (x : A) (xs all : List A) → then ≡ overlay s i (take (length s - i) (x ∷ [])) → length then ≡ length s → all ≡ x ∷ xs
      → overlay s i (take (length s - i) all) ≡ overlay then (i + 1) (take (length then - (i + 1)) xs)
  overlay-then s then i x xs all is size more = rw (more, size, is) (overlay-step s i x xs)
