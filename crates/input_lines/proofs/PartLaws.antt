-- Parts of a list: up to its end, of two lists one behind the other, and copied element by element. Assumes nothing.
use Prim.Native.Nat.{ℕ, ◌+◌, ◌-◌, ◌≤◌}
use mathlib.Core.List.{List, ◌++◌}
use mathlib.Core.Path.{◌≡◌}
use native.Mathlib.Omega.{arith}
use lib.ListN.{length, take, drop, length-drop}
use lib.Seq.{take-length, take-append-add}

module _ {A : Type 0} where
  pub to_end : (s : List A) (a : ℕ) → take (length s - a) (drop a s) ≡ drop a s
  to_end s a = rw (← length-drop a s, take-length (drop a s))

  -- a part that reaches beyond the first of two lists
  pub take_beyond : (k : ℕ) (s t : List A) → length s ≤ k → take k (s ++ t) ≡ s ++ take (k - length s) t
  take_beyond k s t h = let e : length s + (k - length s) ≡ k = omega arith in rw e at (take-append-add s t (k - length s))
