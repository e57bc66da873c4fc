-- Laws of parts of lists. Assumes nothing.
use Rattle.std.proofs.Common.{◌≡◌, ℕ, ◌+◌, min, List, ◌++◌, length, take, sym, add_comm}
use native.Mathlib.Nat.{min_comm}
use Rattle.std.proofs.lemmas.List.{take_min}
use Rattle.std.proofs.Math.Seq.{take-append-add}

-- as much of a list as there is room for after another
pub append_room : {A : Type 0} (k room n : ℕ) (x s : List A) → room + length x ≡ k → n ≡ min (length s) room → x ++ take n s ≡ take k (x ++ s)
append_room k room n x s whole e =
    let part : take n s ≡ take room s = rw (e, min_comm (length s) room) (take_min room s) in
    rw (part, ← whole, add_comm room (length x)) (sym (take-append-add x s room))
