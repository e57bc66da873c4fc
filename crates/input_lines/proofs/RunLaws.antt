-- A run of bytes that pass a test, one byte at a time, and all of it. Assumes nothing.
use Prim.Native.Nat.{ℕ, suc, ◌≤◌}
use mathlib.Core.Bool.{Bool, true, false, cond, not}
use mathlib.Core.List.{List, [], ◌∷◌}
use mathlib.Core.Path.{◌≡◌, refl, ap}
use native.Mathlib.Numerals.{one-add}
use native.Mathlib.Omega.{arith}
use lib.ListN.{length, take}
use Rattle.input_lines.specs.Lines.{run_of, piece_end}
use borrow.Author.Tests.{ltb-false}
use lib.Dec.{eqb, ltb}
use Rattle.std.specs.Option.{unwrap_or}
use Rattle.std.specs.List.{position, position_or_len, prefix_len}
use Rattle.std.specs.declared.option.Option.TheVariants.{Some, None}
pub use Rattle.rule_types.proofs.ListLaws.{both}

-- ---- all bytes
module _ (p : ℕ → Bool) where
  -- bytes that all pass, first and rest
  pub all_pass : (b : ℕ) (bs : List ℕ) → run_of p (b ∷ bs) ≡ length (b ∷ bs) → (p b ≡ true) × (run_of p bs ≡ length bs)
  unfolding run_of
  all_pass b bs e = go (p b) e
    where
      go : (t : Bool) → cond t (suc (run_of p bs)) 0 ≡ suc (length bs) → (t ≡ true) × (run_of p bs ≡ length bs)
      go true e = (refl, omega arith)
      go false e = absurd (omega arith)

  -- the bytes of the run
  pub run-taken : (s : List ℕ) → run_of p (take (run_of p s) s) ≡ length (take (run_of p s) s)
  unfolding run_of
  run-taken [] = refl
  run-taken (b ∷ bs) = go (p b) refl (run-taken bs)
    where
      go : (t : Bool) → p b ≡ t → run_of p (take (run_of p bs) bs) ≡ length (take (run_of p bs) bs)
          → run_of p (take (cond t (suc (run_of p bs)) 0) (b ∷ bs)) ≡ length (take (cond t (suc (run_of p bs)) 0) (b ∷ bs))
      go true e h = rw e (ap suc h)
      go false e h = refl

  -- the run by std's word for it, and its bound
  pub run-prefix : (s : List ℕ) → run_of p s ≡ prefix_len p s
  unfolding run_of
  run-prefix [] = refl
  run-prefix (b ∷ bs) = rw (run-prefix bs, one-add (prefix_len p bs))

  pub run-most : (s : List ℕ) → run_of p s ≤ length s
  unfolding run_of
  run-most [] = omega arith
  run-most (b ∷ bs) = go (p b) (run-most bs)
    where
      go : (t : Bool) → run_of p bs ≤ length bs → cond t (suc (run_of p bs)) 0 ≤ suc (length bs)
      go true h = omega arith
      go false h = omega arith

-- ---- the place of the first separator, or behind the last byte
module _ (sep : ℕ) (s : List ℕ) where
  abbrev place : ℕ
  place = position_or_len (λ b. eqb b sep) s

  place-is : place ≡ piece_end sep s
  place-is = rw (run-prefix (λ b. not (eqb b sep)) s)

  pub first-place : let k = unwrap_or (position (λ b. eqb b sep) s) (length s) in (k ≡ piece_end sep s) × (k ≤ length s)
  first-place = go (ltb place (length s)) refl
    where
      go : (t : Bool) → ltb place (length s) ≡ t → let k = unwrap_or (cond t (Some place) None) (length s) in (k ≡ piece_end sep s) × (k ≤ length s)
      go true e = (place-is, omega (arith, place-is, run-most (λ b. not (eqb b sep)) s))
      go false e = (omega (arith, place-is, ltb-false place (length s) e, run-most (λ b. not (eqb b sep)) s), omega arith)
