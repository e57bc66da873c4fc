-- Laws of lists and tests that the tables of several crates cite. Assumes nothing.
use Prim.Native.Nat.{ℕ, zero, suc, ◌+◌, ◌<◌}
use mathlib.Core.Path.{◌≡◌, refl, ap, ◌∙◌}
use mathlib.Core.Bool.{Bool, true, false, ◌&&◌}
use mathlib.Core.List.{List, ◌++◌, map, append_assoc}
use native.Mathlib.Nat.{add-zero, le_of_suc-le-suc, not-suc-le-zero}
use native.Mathlib.Numerals.{add-one}
use native.Mathlib.Omega.{arith}
use lib.ListN.{length, get_or, set, take, drop}
use lib.Seq.{drop-cons, set_at, take-suc, length-take-le}
use Rattle.std.proofs.lemmas.List.{get_or-map}
use Rattle.rule_types.specs.Number.{numbers}

-- an element of a mapped list
pub get_d_map : {A B : Type 0} (f : A → B) (xs : List A) (k : ℕ) (d : A) (e : B) → k < length xs → get_or (map f xs) k e ≡ f (get_or xs k d)
get_d_map = get_or-map

-- the k-th of the values of n numbers from j on, and how many there are
pub number_at : {A : Type 0} (f : ℕ → A) (n j k : ℕ) (d : A) → k < n → get_or (map f (numbers n j)) k d ≡ f (j + k)
unfolding numbers
number_at f zero j k d h = absurd (not-suc-le-zero h)
number_at f (suc n) j zero d h = rw add-zero
number_at f (suc n) j (suc k) d h = number_at f n (j + 1) k d (le_of_suc-le-suc h) ∙ ap f (omega arith)

pub length-numbers : {A : Type 0} (f : ℕ → A) (n j : ℕ) → length (map f (numbers n j)) ≡ n
unfolding numbers
length-numbers f zero j = refl
length-numbers f (suc n) j = ap suc (length-numbers f n (j + 1))

-- one element more of a list that takes another's place
pub place-next : {A : Type 0} (new old : List A) (i : ℕ) (d : A) → i < length new → i < length old
    → set (take i new ++ drop i old) i (get_or new i d) ≡ take (i + 1) new ++ drop (i + 1) old
place-next new old i d h g =
    rw (drop-cons old i d g, set_at (take i new) _ _ (get_or new i d) i (length-take-le i new (omega arith)), add-one i, take-suc new i d h) (simp append_assoc)

-- two tests that are both true
pub both : (a b : Bool) → (a && b) ≡ true → (a ≡ true) × (b ≡ true)
both true b e = (refl, e)
both false b e = absurd (let z : ◌≡◌ {A = ℕ} 0 1 = cc in omega arith)
