-- Prices compared, and the zeros behind candidates. Assumes nothing.
use Prim.Native.Nat.{ℕ, zero, suc, ◌+◌, ◌-◌, ◌≤◌}
use mathlib.Core.Path.{◌≡◌, refl, ap, ◌∙◌}
use mathlib.Core.Bool.{true, not, false≢true}
use mathlib.Core.List.{List, ◌∷◌, ◌++◌}
use native.Mathlib.Omega.{arith}
use lib.Dec.{T}
use lib.ListN.{length, take, replicate}
use lib.Seq.{take-append-add}
use lib.Ieee.{Float, nan, inf, fin, eq, is_nan}
use Rattle.rule_types.specs.Number.{quarter_bars}
use Rattle.held_extremes.specs.Candidate.{placed}

-- equals are no NaN
pub second-known : (x y : Float) → eq x y ≡ true → T (not (is_nan y))
unfolding eq is_nan
second-known nan nan h = absurd (false≢true h)
second-known (inf s) nan h = absurd (false≢true h)
second-known (fin s m e) nan h = absurd (false≢true h)
second-known x (inf s) h = tt
second-known x (fin s m e) h = tt

-- zeros after the candidates
take-zeros : (n m : ℕ) → n ≤ m → take {A = ℕ} n (replicate m 0) ≡ replicate n 0
take-zeros zero m h = refl
take-zeros (suc n) zero h = absurd (let z : ⊥ = omega arith in z)
take-zeros (suc n) (suc m) h = ap (λ (l : List ℕ). 0 ∷ l) (take-zeros n m (omega arith))

pub placed-part : (os : List ℕ) → length os ≤ quarter_bars → take quarter_bars (os ++ replicate quarter_bars 0) ≡ placed os
placed-part os h =
    let n = quarter_bars - length os in
    let e : quarter_bars ≡ length os + n = omega arith in
    ap (λ (k : ℕ). take k (os ++ replicate quarter_bars 0)) e ∙ take-append-add os (replicate quarter_bars 0) n ∙ ap (λ (l : List ℕ). os ++ l) (take-zeros n quarter_bars (omega arith))
