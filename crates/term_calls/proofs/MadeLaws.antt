-- What an array made by `array::from_fn` holds, where no call changes the closure. Assumes nothing.
use Prim.Native.Nat.{ℕ, zero, suc, ◌+◌, ◌<◌}
use mathlib.Core.Path.{◌≡◌, refl, subst, ◌∙◌}
use mathlib.Core.List.{List, map}
use native.Mathlib.Omega.{arith}
use lib.ListN.{get_or}
use denote.Param.Members.{Mut, Called}
use Rattle.std.specs.List.{range_with_len}
use Rattle.std.specs.Array.{IsFromFnResult, IsFromFnResultFrom}
use Rattle.std.proofs.lemmas.List.FromFn.{fill_by_all}

module _ {F B : Type 0} (g : Mut F (ℕ × Unit {0}) B) (h : ℕ → B) (f : F) (same : (i : ℕ) (y : B) (q : F) → Called g f (i, tt) y q → (q ≡ f) × (y ≡ h i)) where
  element : (ys : List B) (d : B) (p : F) (i n k : ℕ) → p ≡ f → IsFromFnResultFrom g p ys i n → k < n → get_or ys (i + k) d ≡ h (i + k)
  element ys d p i zero k e t lt = absurd (omega arith)
  element ys d p i (suc n) zero e t lt =
      let at : i ≡ i + 0 = omega arith in
      subst (λ (j : ℕ). get_or ys j d ≡ h j) at (t.2.1 d ∙ (same i t.1 t.0 (subst (λ (r : F). Called g r (i, tt) t.1 t.0) e t.3)).1)
  element ys d p i (suc n) (suc k) e t lt =
      let at : i + 1 + k ≡ i + suc k = omega arith in
      let one = same i t.1 t.0 (subst (λ (r : F). Called g r (i, tt) t.1 t.0) e t.3) in
      subst (λ (j : ℕ). get_or ys j d ≡ h j) at (element ys d t.0 (i + 1) n k one.0 t.4 (omega arith))

  pub made-by : (ys : List B) (n : ℕ) → IsFromFnResult g f ys n → ys ≡ map h (range_with_len 0 n)
  made-by ys n made = fill_by_all h ys n (h 0) made.long (λ k lt. let at : 0 + k ≡ k = omega arith in subst (λ (j : ℕ). get_or ys j (h 0) ≡ h j) at (element ys (h 0) f 0 n k refl made.each lt))
