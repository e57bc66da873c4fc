-- What is held of the output.
use Rattle.std.specs.Prelude.{◌≡◌, ℕ, ◌+◌, cond, List, [], ◌∷◌, ◌++◌, length, take, nat_le}
use Rattle.io.specs.Digits.{last_digits, IsDigitCount}
use Rattle.test_replay.specs.Buffer.{capacity}

-- bytes more: after those that are held, or alone where there is no room for both
unfoldable pub with_bytes : List ℕ → List ℕ → List ℕ
with_bytes held s = cond (nat_le (length held + length s) capacity) (held ++ s) (take capacity s)

-- a number more: its decimal digits, the fewest that hold it, and a line feed
pub record WithNumber (held : List ℕ) (n : ℕ) (after : List ℕ) : Type 0 where
  pub places : ℕ
  pub fewest : IsDigitCount 10 1 n places
  pub added : after ≡ with_bytes (with_bytes held (last_digits 10 places n)) (10 ∷ [])
