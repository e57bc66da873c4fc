-- The test of what a box holds: what its bars give passes it, and nothing else does. Assumes nothing.
use Prim.Native.Nat.{ℕ, ◌*◌}
use mathlib.Core.Path.{◌≡◌, refl, sym, ap, subst, ◌∙◌}
use mathlib.Core.Bool.{Bool, true, false, ◌&&◌, and-eq-true_iff, true≢false}
use mathlib.Core.List.{List, [], ◌∷◌}
use borrow.Author.Tests.{eq-eqb, eqb-true}
use lib.Dec.{T, eqb}
use lib.Ieee.{Float, nan, inf, fin, binary64, up, down, level, eq, is_nan, fits, of_bits, to_bits}
use lib.Ieee.Bits.{of_bits-to_bits}
use Rattle.std.specs.Cmp.Lexicographic.{pointwise}
use Rattle.measures.specs.Bar.{Bar}
use Rattle.measures.specs.declared.folds.Column.TheVariants.{High, Low}
use Rattle.measures.specs.Fold.{column_of, highest_of, lowest_of}
use Rattle.measures.specs.Window.{newest}
use Rattle.measures.proofs.FoldLaws.{known-highest, known-lowest}
use Rattle.held_extremes.specs.Candidate.{same_price, same_ordinals, same_held, held_of}

-- ---- a known price equals itself

level-same : (s : Bool) (a : ℕ) → level s a s a ≡ true
level-same true a = simp (eq-eqb a a refl)
level-same false a = simp (eq-eqb a a refl)

eq-same : (x : Float) → is_nan x ≡ false → eq x x ≡ true
unfolding eq is_nan
eq-same nan h = absurd (true≢false h)
eq-same (inf true) h = refl
eq-same (inf false) h = refl
eq-same (fin s m e) h = level-same s (m * up e * down e)

same-price : (x : Float) → is_nan x ≡ false → same_price x x ≡ true
same-price x h = rw (eq-same x h, eq-eqb (to_bits binary64 x) (to_bits binary64 x) refl)

same-ordinals : (os : List ℕ) → same_ordinals os os ≡ true
unfolding same_ordinals
same-ordinals [] = refl
same-ordinals (o ∷ os) = rw (eq-eqb o o refl) (same-ordinals os)

-- as `==` of the code has it
pub same-by : (a b : List ℕ) → pointwise eqb a b ≡ same_ordinals a b
unfolding same_ordinals
same-by [] [] = refl
same-by [] (y ∷ ys) = refl
same-by (x ∷ xs) [] = refl
same-by (x ∷ xs) (y ∷ ys) = ap (λ (t : Bool). eqb x y && t) (same-by xs ys)

-- what the bars give passes
pub held-passes : (n : ℕ) (bars : List Bar) → same_held (held_of n bars) (held_of n bars) ≡ true
unfolding same_held held_of
held-passes n bars =
    let w = newest 20 bars in
    rw (same-price (highest_of (column_of High w)) (known-highest (column_of High w)), same-price (lowest_of (column_of Low w)) (known-lowest (column_of Low w)), same-ordinals (held_of n bars).highs) (same-ordinals (held_of n bars).lows)

-- ---- and nothing else does

pub price-is : (x y : Float) → fits binary64 x ≡ true → fits binary64 y ≡ true → same_price x y ≡ true → x ≡ y
price-is x y f g h =
    let bits = eqb-true (to_bits binary64 x) (to_bits binary64 y) ((and-eq-true_iff (eq x y) (eqb (to_bits binary64 x) (to_bits binary64 y))).0 h).1 in
    sym (of_bits-to_bits binary64 x (subst T (sym f) tt)) ∙ ap (of_bits binary64) bits ∙ of_bits-to_bits binary64 y (subst T (sym g) tt)
