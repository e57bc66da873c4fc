-- Lists, and records of bars. Assumes nothing.
use Prim.Native.Nat.{ℕ, zero, suc, min}
use mathlib.Core.Path.{◌≡◌, refl, sym, ◌∙◌}
use mathlib.Core.List.{List, [], ◌∷◌, map}
use native.Mathlib.Omega.{arith}
use native.Mathlib.Decide.{dec_le}
use lib.ListN.{length, take}
use lib.Seq.{take_all}
use Rattle.measures.specs.Bar.{no_bar}
use Rattle.box_record.specs.declared.boxes.KeptBar.{KeptBar}
use Rattle.box_record.specs.Box.{kept_bar}

module _ {A B : Type 0} (f : A → B) where
  pub map-take : (n : ℕ) (xs : List A) → map f (take n xs) ≡ take n (map f xs)
  map-take zero [] = refl
  map-take zero (x ∷ xs) = refl
  map-take (suc n) [] = refl
  map-take (suc n) (x ∷ xs) = rw (map-take n xs)

module _ {A : Type 0} where
  -- past a list's end nothing more is taken
  pub take_same : (l : List A) (i j : ℕ) → min i (length l) ≡ min j (length l) → take i l ≡ take j l
  take_same l i j e =
      elim (dec_le (length l) i) [
        | yes past ↦ take_all i l past ∙ sym (take_all j l (omega arith))
        | no within ↦ (let same : i ≡ j = omega arith in rw same)
      ]

-- no record
abbrev pub no_kept : KeptBar
no_kept = kept_bar no_bar 0
