-- Each case of a price, in the definition's order. Assumes nothing.
use Prim.Native.Nat.{ℕ, ◌≤◌}
use mathlib.Core.Bool.{Bool, true, false, ◌&&◌}
use mathlib.Core.List.{List, [], ◌∷◌}
use mathlib.Core.Logic.{◌≢◌}
use mathlib.Core.Path.{◌≡◌, refl, ◌∙◌}
use native.Mathlib.Omega.{arith}
use borrow.Author.Rules.{rules}
use borrow.Author.Tests.{eq-eqb, ne_eqb, ltb-true}
use lib.Dec.{eqb}
use lib.ListN.{length, drop, get_or, get_or-eq_default}
use Rattle.std.specs.Cmp.Lexicographic.{pointwise}
use Rattle.price_texts.specs.PriceText.{minus, unsigned_of, nan_text, price_of}
use Rattle.input_lines.proofs.PartLaws.{to_end}
use Rattle.price_texts.proofs.price_text.read_price.Goals as goal
use Rattle.price_texts.proofs.price_text.read_price.Goals.{in_default-via-then-s-lt1, in_default-via-else-s-lt1+in_default-1}

-- the test of the three bytes is that of the definition
and-false : (t : Bool) → (t && false) ≡ false
and-false true = refl
and-false false = refl

and-true : (t : Bool) → (t && true) ≡ t
and-true true = refl
and-true false = refl

regroup : (t u v : Bool) → (t && (u && v)) ≡ ((t && u) && v)
regroup true u v = refl
regroup false u v = refl

is_nan : (s : List ℕ) → pointwise eqb s (110 ∷ 97 ∷ 110 ∷ []) ≡ nan_text s
unfolding nan_text
is_nan [] = refl
is_nan (a ∷ []) = and-false (eqb a 110)
is_nan (a ∷ b ∷ []) = rw (and-false (eqb b 97), and-false (eqb a 110))
is_nan (a ∷ b ∷ c ∷ []) = rw (and-true (eqb c 110)) (regroup (eqb a 110) (eqb b 97) (eqb c 110))
is_nan (a ∷ b ∷ c ∷ d ∷ s) =
    let longer = ne_eqb (length (a ∷ b ∷ c ∷ d ∷ s)) 3 (λ e. omega arith) in
    rw (longer, and-false (eqb c 110), and-false (eqb b 97), and-false (eqb a 110))

pub returns-then-eq : goal.returns-then-eq
unfolding price_of
returns-then-eq c =
    let nan = rw c.as_slice.ensures at c.eq.ensures ∙ is_nan c.args.s.now in
    rw (← nan, c.if-eq.true, c.not_a_number.ensures)

pub returns-in-45 : goal.returns-in-45
unfolding price_of
returns-in-45 c =
    let s = c.args.s.now in
    let nan = rw c.as_slice.ensures at c.eq.ensures ∙ is_nan s in
    let sign : get_or s 0 0 ≡ minus = omega arith in
    let read : c.unsigned.result ≡ unsigned_of (drop 1 s) = cc (c.unsigned.ensures, to_end s 1) in
    rw (← nan, c.if-eq.false, eq-eqb _ _ sign, ← read) (search rules)

pub returns-in_default : goal.returns-in_default
unfolding price_of
returns-in_default c =
    let s = c.args.s.now in
    let nan = rw c.as_slice.ensures at c.eq.ensures ∙ is_nan s in
    let none : get_or s 0 0 ≢ minus =
    elim c.in_default.branch [
      | in_default-via-then-s-lt1 w ↦ (let empty : length s ≤ 0 = omega (arith, ltb-true) in λ h. omega (arith, get_or-eq_default {A = ℕ} s 0 empty))
      | in_default-via-else-s-lt1+in_default-1 w ↦ λ h. omega arith
    ] in
    rw (← nan, c.if-eq.false, ne_eqb _ _ none) (search (rules, to_end))
