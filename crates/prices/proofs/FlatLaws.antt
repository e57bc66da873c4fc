-- A flat bar has no quotient: where close = open and high = low, (high − low) ÷ body is NaN, which is above no threshold. Assumes nothing.
use mathlib.Core.Path.{◌≡◌, refl, sym, subst, ◌∙◌}
use Prim.Native.Nat.{ℕ, zero, suc, ◌+◌, ◌-◌, ◌*◌, ◌<◌}
use native.Mathlib.Nat.{lt_irrefl, zero-lt-suc, mul-pos, zero-mul}
use native.Mathlib.Omega.{arith}
use mathlib.Core.Bool.{Bool, true, false, cond, not, ◌&&◌, false≢true, and-eq-true_iff}
use borrow.Author.Tests.{eqb-true, eq-eqb, le-ltb}
use lib.Dec.{ltb, eqb}
use lib.Pow.{pow_pos}
use lib.Ieee.{Float, nan, inf, fin, binary64, prec, low, emax, up, down, level, of_bits, sub, add, sum, neg, div, eq, lt, round}
use lib.Ieee.Exact.{HasValue, round_exact}
use lib.Ieee.Fits.{up_pos, down_pos}
use Rattle.prices.specs.declared.bars.Bar.{Bar}
use Rattle.prices.specs.Price.{zero as zeroPrice, abs_of}
use Rattle.prices.specs.Bar.{body_of}
use Rattle.std.proofs.lemmas.Float.{eq_flip, T_from_true}
use Rattle.prices.proofs.Order.{lt-nan, holds}

-- zero of either sign, or NaN
abbrev Nil : Float → Type 0
Nil nan = Unit {0}
Nil (inf s) = ⊥
Nil (fin s m e) = m ≡ 0

no_size : (m a c : ℕ) → 0 < a → 0 < c → m * a * c ≡ 0 → m ≡ 0
no_size zero a c p q h = refl
no_size (suc m) a c p q h = absurd (lt_irrefl 0 (subst (λ (x : ℕ). 0 < x) h (mul-pos (mul-pos (zero-lt-suc m) p) q)))

value-nil : (x : Float) (s : Bool) (c : ℕ) → 0 < c → HasValue x s 0 c → Nil x
value-nil nan s c p v = tt
value-nil (inf t) s c p v = v
value-nil (fin t m e) s c p v = no_size m (up e) c (up_pos e) p (v.1 ∙ zero-mul (down e))

round-nil : (s : Bool) (c : ℕ) → 0 < c → Nil (round binary64 s 0 c)
round-nil s c p =
    value-nil (round binary64 s 0 c) s c p
    (round_exact binary64 s 0 c 0 0 p (pow_pos (prec binary64)) (pow_pos (low binary64 + suc (emax binary64))) (sym (zero-mul c)))

-- ---- the difference of equals

same-nil : (s t : Bool) (a b c : ℕ) → 0 < c → eqb a b ≡ true → Nil (cond (ltb a b) (round binary64 t (b - a) c) (round binary64 (s && ltb b a) (a - b) c))
same-nil s t a b c p h =
    let e : a ≡ b = eqb-true a b h in
    let none : a - b ≡ 0 = omega (arith, e) in
    rw (le-ltb a b (omega (arith, e)), none) (round-nil (s && ltb b a) c p)

none-nil : (s : Bool) (a b c : ℕ) → 0 < c → eqb a b ≡ true → eqb a 0 ≡ true → Nil (round binary64 s (a + b) c)
none-nil s a b c p h z =
    let none : a + b ≡ 0 = omega (arith, eqb-true a b h, eqb-true a 0 z) in
    rw none (round-nil s c p)

level-nil : (s : Bool) (a : ℕ) (t : Bool) (b c : ℕ) → 0 < c → level s a t b ≡ true → Nil (sum binary64 s a (not t) b c)
unfolding sum
level-nil true a true b c p h = same-nil true false a b c p ((and-eq-true_iff (eqb a b) true).0 h).0
level-nil true a false b c p h = let both = (and-eq-true_iff (eqb a b) (eqb a 0)).0 h in none-nil true a b c p both.0 both.1
level-nil false a true b c p h = let both = (and-eq-true_iff (eqb a b) (eqb a 0)).0 h in none-nil false a b c p both.0 both.1
level-nil false a false b c p h = same-nil false true a b c p ((and-eq-true_iff (eqb a b) true).0 h).0

sub-nil : (x y : Float) → eq x y ≡ true → Nil (sub binary64 x y)
unfolding eq sub add neg
sub-nil nan y h = absurd (false≢true h)
sub-nil (inf s) nan h = absurd (false≢true h)
sub-nil (inf true) (inf true) h = tt
sub-nil (inf true) (inf false) h = absurd (false≢true h)
sub-nil (inf false) (inf true) h = absurd (false≢true h)
sub-nil (inf false) (inf false) h = tt
sub-nil (inf s) (fin t n d) h = absurd (false≢true h)
sub-nil (fin s m e) nan h = absurd (false≢true h)
sub-nil (fin s m e) (inf t) h = absurd (false≢true h)
sub-nil (fin s m e) (fin t n d) h =
    level-nil s (m * up e * down d) t (n * up d * down e) (down e * down d) (mul-pos (down_pos e) (down_pos d)) h

-- ---- the magnitude of such a difference, and the quotient of two

neg-nil : (x : Float) → Nil x → Nil (neg x)
unfolding neg
neg-nil nan h = tt
neg-nil (inf s) h = h
neg-nil (fin s m e) h = h

either : (t : Bool) (x y : Float) → Nil x → Nil y → Nil (cond t x y)
either true x y h g = h
either false x y h g = g

abs-nil : (x : Float) → Nil x → Nil (abs_of x)
unfolding abs_of of_bits
abs-nil x h = either (lt x zeroPrice) (neg x) (cond (eq x zeroPrice) zeroPrice x) (neg-nil x h) (either (eq x zeroPrice) zeroPrice x refl h)

div-nil : (x y : Float) → Nil x → Nil y → div binary64 x y ≡ nan
unfolding div
div-nil nan y h g = refl
div-nil (inf s) y h g = absurd h
div-nil (fin s m e) nan h g = refl
div-nil (fin s m e) (inf t) h g = absurd g
div-nil (fin s m e) (fin t n d) h g = simp (eq-eqb n 0 g, eq-eqb m 0 h)

-- ---- equals, either way round

eq-swaps : (x y : Float) → eq x y ≡ true → eq y x ≡ true
eq-swaps x y h = holds (eq y x) (eq_flip x y (T_from_true (eq x y) h))

pub flat : (th : Float) (b : Bar) → eq b.close b.«open» ≡ true → eq b.high b.low ≡ true
    → lt th (div binary64 (sub binary64 b.high b.low) (body_of b)) ≡ false
unfolding body_of
flat th b level same =
    rw (div-nil (sub binary64 b.high b.low) (abs_of (sub binary64 b.«open» b.close)) (sub-nil b.high b.low same)
    (abs-nil (sub binary64 b.«open» b.close) (sub-nil b.«open» b.close (eq-swaps b.close b.«open» level))))
    (lt-nan th)
