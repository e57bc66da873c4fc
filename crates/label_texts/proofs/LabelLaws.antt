-- Laws of the labels' bytes: their table, their texts, and the place of bytes in the table. Assumes nothing.
use Prim.Native.Nat.{ℕ, zero, suc, ◌+◌, ◌-◌, ◌<◌, ◌≤◌}
use mathlib.Core.Bool.{Bool, true, false, ◌&&◌}
use mathlib.Core.List.{List, [], ◌∷◌}
use mathlib.Core.Path.{◌≡◌, refl}
use native.Mathlib.Nat.{add-zero, le_of_suc-le-suc, not-suc-le-zero}
use native.Mathlib.Decide.{dec_le}
use native.Mathlib.Numerals.{add-one}
use native.Mathlib.Omega.{arith}
use borrow.Author.Tests.{leb-true, eqb-true}
use lib.Dec.{eqb, leb}
use lib.ListN.{length, get_or, take, drop, replicate, length-append, length-replicate, get_or-eq_default}
use lib.Seq.{drop-cons, take_at}
use Rattle.std.specs.Cmp.Lexicographic.{pointwise}
use Rattle.label_texts.specs.LabelText.{texts_of_labels, bytes_of, most_bytes, text_of, same, place_in}
use Rattle.rule_types.proofs.ListLaws.{both}

-- ---- the same bytes
pub pointwise-same : (a b : List ℕ) → pointwise eqb a b ≡ same a b
unfolding same
pointwise-same [] [] = refl
pointwise-same [] (y ∷ ys) = refl
pointwise-same (x ∷ xs) [] = refl
pointwise-same (x ∷ xs) (y ∷ ys) = rw (pointwise-same xs ys)

pub same-eq : (a b : List ℕ) → same a b ≡ true → a ≡ b
unfolding same
same-eq [] [] e = refl
same-eq [] (y ∷ ys) e = absurd (let z : ◌≡◌ {A = ℕ} 0 1 = cc in omega arith)
same-eq (x ∷ xs) [] e = absurd (let z : ◌≡◌ {A = ℕ} 0 1 = cc in omega arith)
same-eq (x ∷ xs) (y ∷ ys) e =
    let h = both (eqb x y) (same xs ys) e in
    let heads = eqb-true x y h.0 in
    let tails = same-eq xs ys h.1 in
    cc

-- ---- the place in a list of labels, one label at a time
module _ (ls : List (List ℕ)) (s : List ℕ) (i : ℕ) where
  pub place_here : i < length ls → same (get_or ls i []) s ≡ true → place_in (drop i ls) s ≡ 0
  unfolding place_in
  place_here h e = rw (drop-cons ls i [] h, e)

  pub place-on : i < length ls → same (get_or ls i []) s ≡ false → place_in (drop i ls) s ≡ suc (place_in (drop (i + 1) ls) s)
  unfolding place_in
  place-on h e = rw (drop-cons ls i [] h, e, add-one)

-- ---- the table

-- a test of each label and its place, counted from i: one computation over the table, and what it says of the label at a place
abbrev pub every : (ℕ → List ℕ → Bool) → ℕ → List (List ℕ) → Bool
every test i [] = true
every test i (l ∷ ls) = test i l && every test (suc i) ls

pub every-at : (test : ℕ → List ℕ → Bool) (i : ℕ) (ls : List (List ℕ)) (k : ℕ) → every test i ls ≡ true → k < length ls
    → test (i + k) (get_or ls k []) ≡ true
every-at test i [] k e h = absurd (not-suc-le-zero h)
every-at test i (l ∷ ls) zero e h = rw (add-zero i) (both (test i l) (every test (suc i) ls) e).0
every-at test i (l ∷ ls) (suc k) e h =
    let next : i + suc k ≡ suc i + k = omega arith in
    rw next (every-at test (suc i) ls k (both (test i l) (every test (suc i) ls) e).1 (le_of_suc-le-suc h))

pub no_bytes : (code : ℕ) → length texts_of_labels ≤ code → bytes_of code ≡ []
no_bytes code h = get_or-eq_default texts_of_labels [] h

-- no label has more than 15 bytes
abbrev is-short : ℕ → List ℕ → Bool
is-short i l = leb (length l) most_bytes

pub short : (code : ℕ) → length (bytes_of code) ≤ most_bytes
short code =
    elim (dec_le (length texts_of_labels) code) [
      | yes h ↦ rw (no_bytes code h) (omega arith)
      | no g ↦ leb-true (length (bytes_of code)) most_bytes (every-at is-short 0 texts_of_labels code refl (omega arith))
    ]

-- ---- what a code's text holds
pub text-len : (code : ℕ) → (text_of code).len ≡ length (bytes_of code)
unfolding text_of
text-len code = refl

pub text-length : (code : ℕ) → length (text_of code).bytes ≡ most_bytes
unfolding text_of
text-length code = simp (length-append, length-replicate) (omega (arith, short code))

pub text-bytes : (code : ℕ) → take (text_of code).len (text_of code).bytes ≡ bytes_of code
unfolding text_of
text-bytes code = take_at (bytes_of code) (replicate (most_bytes - length (bytes_of code)) 0) (length (bytes_of code)) refl
