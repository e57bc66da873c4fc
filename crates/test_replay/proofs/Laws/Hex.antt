-- Laws of hexadecimal, by which the loop of `decode` goes. Assumes nothing.
use Rattle.std.proofs.Common.{◌≡◌, ◌≢◌, ℕ, suc, zero, ◌+◌, ◌-◌, ◌*◌, ◌/◌, ◌%◌, ◌<◌, ◌≤◌, Bool, true, false, ltb, Option, Some, None, List, [], ◌∷◌, ◌++◌, length, get_or, take, drop, replicate, set, refl, ap, append_assoc, append-nil, add-one, arith, length-set, length-take-le, take_all, ltb-false, ltb-true, le-leb, eq-eqb, ne_eqb}
use mathlib.Core.Bool.{and-false}
use borrow.Author.Tests.{lt-leb}
use Rattle.std.proofs.Math.Seq.{drop-cons, take-suc-set}
use Rattle.std.proofs.lemmas.List.{drop_all, length-replicate}
use Rattle.std.specs.Simd.{first_chunks}
use Rattle.io.specs.Digits.{hex_digit_ascii}
use Rattle.test_replay.specs.Hex.{value_of, before, bytes_of, decoded}

by_size : (d : ℕ) (t : Bool) → ltb d 10 ≡ t → d < 16 → value_of (hex_digit_ascii d) ≡ Some d
unfolding value_of
by_size d true h l =
    let small : d < 10 = ltb-true d 10 h in
    let same : 48 + d - 48 ≡ d = omega arith in
    rw (h, le-leb 48 (48 + d) (omega arith), le-leb (48 + d) 57 (omega arith), same)
by_size d false h l =
    let large : 10 ≤ d = ltb-false d 10 h in
    let same : 87 + d - 97 + 10 ≡ d = omega arith in
    rw (h, lt-leb (87 + d) 57 (omega arith), and-false, le-leb 97 (87 + d) (omega arith), le-leb (87 + d) 102 (omega arith), same)

-- the digits are those that `io` writes
pub value-glyph : (d : ℕ) → d < 16 → value_of (hex_digit_ascii d) ≡ Some d
value-glyph d l = by_size d (ltb d 10) refl l

-- `bytes_of` over the pairs themselves
pub of_pairs : List (List ℕ) → List ℕ
of_pairs [] = []
of_pairs (p ∷ pairs) = before (value_of (get_or p 0 0)) (value_of (get_or p 1 0)) (of_pairs pairs)

pub bytes-pairs : (k : ℕ) (s : List ℕ) → length s ≡ 2 * k → bytes_of s ≡ of_pairs (first_chunks 2 k s)
unfolding bytes_of of_pairs
bytes-pairs zero [] e = refl
bytes-pairs zero (a ∷ s) e = absurd (omega arith)
bytes-pairs (suc k) [] e = absurd (omega arith)
bytes-pairs (suc k) (a ∷ []) e = absurd (omega arith)
bytes-pairs (suc k) (a ∷ b ∷ s) e = ap (before (value_of a) (value_of b)) (bytes-pairs k s (omega arith))

-- the first i of n pairs of digits are decoded: their bytes, and those of the pairs from i on, are all that the digits stand for
pub record Decoding (n : ℕ) (digits : List ℕ) (pairs : List (List ℕ)) (bytes : List ℕ) (i : ℕ) : Type 0 where
  pub even : length digits ≡ 2 * n
  pub same : bytes_of digits ≡ of_pairs pairs
  pub size : length pairs ≡ n
  pub room : length bytes ≡ n
  pub found : of_pairs pairs ≡ take i bytes ++ of_pairs (drop i pairs)

pub decoding-none : (n : ℕ) (digits : List ℕ) (pairs : List (List ℕ)) → pairs ≡ first_chunks 2 (length digits / 2) digits
    → length pairs ≡ length digits / 2 → length digits % 2 ≡ 0 → length pairs ≡ n → Decoding n digits pairs (replicate n 0) 0
decoding-none n digits pairs front len no_rest size =
    let even : length digits ≡ 2 * (length digits / 2) = omega arith in
    record {
      even = omega arith;
      same = rw front (bytes-pairs (length digits / 2) digits even);
      size = size;
      room = length-replicate n 0;
      found = refl;
    }

-- the values of the pair at i
abbrev pub high_at : List (List ℕ) → ℕ → Option ℕ
high_at pairs i = value_of (get_or (get_or pairs i []) 0 0)

abbrev pub low_at : List (List ℕ) → ℕ → Option ℕ
low_at pairs i = value_of (get_or (get_or pairs i []) 1 0)

pair-is : (pairs : List (List ℕ)) (i : ℕ) → i < length pairs
    → of_pairs (drop i pairs) ≡ before (high_at pairs i) (low_at pairs i) (of_pairs (drop (i + 1) pairs))
unfolding of_pairs
pair-is pairs i h = rw (add-one i, drop-cons pairs i [])

module _ {n : ℕ} {digits : List ℕ} {pairs : List (List ℕ)} {bytes : List ℕ} {i : ℕ} (d : Decoding n digits pairs bytes i) where
  -- one byte more
  pub decoding-more : (high low : ℕ) → i < n → high_at pairs i ≡ Some high → low_at pairs i ≡ Some low
      → Decoding n digits pairs (set bytes i (16 * high + low)) (i + 1)
  decoding-more high low h eh el =
      let inside : i < length bytes = omega arith in
      let here : i < length pairs = omega arith in
      record {
        even = d.even;
        same = d.same;
        size = d.size;
        room = simp length-set d.room;
        found = rw (d.found, pair-is pairs i here, eh, el, add-one i, take-suc-set bytes i (16 * high + low) inside, append_assoc);
      }

  -- there are fewer bytes than pairs, where one of the digits at i is none
  few : i < n → of_pairs (drop i pairs) ≡ [] → None ≡ decoded n digits
  unfolding decoded
  few h e =
      let inside : i ≤ length bytes = omega arith in
      let all : length (of_pairs pairs) ≡ i = rw (d.found, e, append-nil, length-take-le i bytes inside) in
      let other : length (bytes_of digits) ≢ n = λ size. omega (arith, ap length d.same) in
      rw (ne_eqb _ _ other, and-false)

  pub no-high : i < n → high_at pairs i ≡ None → None ≡ decoded n digits
  no-high h eh = let here : i < length pairs = omega arith in few h (rw (pair-is pairs i here, eh))

  pub no-low : (high : ℕ) → i < n → high_at pairs i ≡ Some high → low_at pairs i ≡ None → None ≡ decoded n digits
  no-low high h eh el = let here : i < length pairs = omega arith in few h (rw (pair-is pairs i here, eh, el))

  pub whole : n ≤ i → Some bytes ≡ decoded n digits
  unfolding of_pairs decoded
  whole h =
      let full : length bytes ≤ i = omega arith in
      let none : length pairs ≤ i = omega arith in
      let all : bytes_of digits ≡ bytes = rw (d.same, d.found, drop_all i pairs none, append-nil, take_all i bytes full) in
      rw (all, eq-eqb _ _ d.even, eq-eqb _ _ d.room)
