-- A code's text has that code, and the text of a code that bytes have is those bytes. Assumes nothing.
use Prim.Native.Nat.{ℕ, suc, ◌+◌, ◌<◌, ◌≤◌}
use mathlib.Core.Bool.{Bool, true, false, cond}
use mathlib.Core.List.{List, [], ◌∷◌}
use mathlib.Core.Path.{◌≡◌, refl}
use native.Mathlib.Nat.{le_of_suc-le-suc, not-suc-le-zero}
use native.Mathlib.Omega.{arith}
use borrow.Author.Tests.{eqb-true, le-leb}
use lib.Dec.{eqb}
use lib.ListN.{length, get_or}
use Rattle.rule_types.specs.Number.{labels}
use Rattle.label_texts.specs.LabelText.{texts_of_labels, bytes_of, most_bytes, text_of, same, place_in, code_of_bytes, code_of_text}
use Rattle.label_texts.proofs.LabelLaws.{same-eq, every, every-at, no_bytes, short, text-len, text-bytes}

-- each label stands at its place, at no place before
abbrev in_place : ℕ → List ℕ → Bool
in_place i l = eqb (place_in texts_of_labels l) i

all-in-place : every in_place 0 texts_of_labels ≡ true
unfolding place_in same
all-in-place = refl

code-of-label : (code : ℕ) → code < length texts_of_labels → code_of_bytes (bytes_of code) ≡ code
code-of-label code h = omega (arith, eqb-true (code_of_bytes (bytes_of code)) (0 + code) (every-at in_place 0 texts_of_labels code all-in-place h))

-- a place in a list of labels is at most the list's length; below it, the bytes stand there
module _ (s : List ℕ) where
  place-most : (ls : List (List ℕ)) → place_in ls s ≤ length ls
  unfolding place_in
  place-most [] = omega arith
  place-most (l ∷ ls) = go (same l s) (place-most ls)
    where
      go : (t : Bool) → place_in ls s ≤ length ls → cond t 0 (suc (place_in ls s)) ≤ suc (length ls)
      go true h = omega arith
      go false h = omega arith

  found : (ls : List (List ℕ)) → place_in ls s < length ls → get_or ls (place_in ls s) [] ≡ s
  unfolding place_in
  found [] h = absurd (not-suc-le-zero h)
  found (l ∷ ls) h = go (same l s) refl (found ls) h
    where
      go : (t : Bool) → same l s ≡ t → (place_in ls s < length ls → get_or ls (place_in ls s) [] ≡ s)
          → let place = cond t 0 (suc (place_in ls s)) in
          place < suc (length ls)
          → get_or (l ∷ ls) place [] ≡ s
      go true e rest h = same-eq l s e
      go false e rest h = rest (le_of_suc-le-suc h)

pub record RoundTrip : Type 0 where
  -- from a code and back
  pub code-of-text : (code : ℕ) → code < labels → code_of_text (text_of code) ≡ code
  pub code-of-bytes : (code : ℕ) → code < labels → code_of_bytes (bytes_of code) ≡ code
  -- from bytes and back
  pub bytes-of-code : (s : List ℕ) → code_of_bytes s < labels → bytes_of (code_of_bytes s) ≡ s
  -- what texts and codes there are
  pub text-short : (code : ℕ) → (text_of code).len ≤ most_bytes
  pub text-none : (code : ℕ) → labels ≤ code → bytes_of code ≡ []
  pub code-most : (s : List ℕ) → code_of_bytes s ≤ labels

pub round_trip : RoundTrip
unfolding code_of_text
round_trip =
    record {
      code-of-text = λ code h.
          let fits : (text_of code).len ≤ most_bytes = rw text-len (short code) in
          rw (le-leb _ _ fits, text-bytes) (code-of-label code h);
      code-of-bytes = code-of-label;
      bytes-of-code = λ s h. found s texts_of_labels h;
      text-short = λ code. rw text-len (short code);
      text-none = no_bytes;
      code-most = λ s. place-most s texts_of_labels;
    }
