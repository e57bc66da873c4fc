-- Each power of the table is ten's. Assumes nothing.
use Prim.Native.Nat.{ℕ, zero, suc, ◌≤◌}
use mathlib.Core.Logic.{◌⊎◌, inl, inr}
use mathlib.Core.Path.{◌≡◌, refl}
use native.Mathlib.Omega.{arith}
use lib.Ieee.{of_bits, of_int}
use Rattle.price_texts.specs.PriceText.{scaled}
use Rattle.price_texts.proofs.price_text.quotient.Goals as goal

seven : (f : ℕ) → f ≤ 6 → (f ≡ 0) ⊎ ((f ≡ 1) ⊎ ((f ≡ 2) ⊎ ((f ≡ 3) ⊎ ((f ≡ 4) ⊎ ((f ≡ 5) ⊎ (f ≡ 6))))))
seven zero h = inl refl
seven (suc zero) h = inr (inl refl)
seven (suc (suc zero)) h = inr (inr (inl refl))
seven (suc (suc (suc zero))) h = inr (inr (inr (inl refl)))
seven (suc (suc (suc (suc zero)))) h = inr (inr (inr (inr (inl refl))))
seven (suc (suc (suc (suc (suc zero))))) h = inr (inr (inr (inr (inr (inl refl)))))
seven (suc (suc (suc (suc (suc (suc f)))))) h = inr (inr (inr (inr (inr (inr (omega arith))))))

pub returns : goal.returns
unfolding scaled of_bits of_int
returns c =
    elim (seven c.args.f c.requires.1) [
      | inl e ↦ rw e
      | inr h ↦
          elim h [
            | inl e ↦ rw e
            | inr h ↦
                elim h [
                  | inl e ↦ rw e
                  | inr h ↦
                      elim h [
                        | inl e ↦ rw e
                        | inr h ↦ elim h [ inl e ↦ rw e | inr h ↦ elim h [ inl e ↦ rw e | inr e ↦ rw e ] ]
                      ]
                ]
          ]
    ]
