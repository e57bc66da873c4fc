-- Where a line ends.
use Rattle.std.specs.Prelude.{◌≡◌, ℕ, ◌<◌, ◌≤◌, List, length, ◌≢◌, slice_index}

-- r is the place of the first line feed of s from a place on, or the length of s where there is none
pub record EndsAt (s : List ℕ) (from r : ℕ) : Type 0 where
  pub after : from ≤ r
  pub within : r ≤ length s
  pub before : (k : ℕ) → from ≤ k → k < r → slice_index s k ≢ 10
  pub found : r < length s → slice_index s r ≡ 10
