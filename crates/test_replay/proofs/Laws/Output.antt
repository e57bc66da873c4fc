-- Laws of the output that is held. Assumes nothing.
use Rattle.std.proofs.Common.{◌≡◌, ℕ, ◌+◌, ◌<◌, ◌≤◌, List, ◌++◌, length, take, arith, length-append, take_all, le-leb}
use borrow.Author.Tests.{lt-leb}
use Rattle.test_replay.specs.Buffer.{capacity}
use Rattle.test_replay.specs.Output.{with_bytes}

pub both_fit : (held s : List ℕ) → length held + length s ≤ capacity → take capacity (held ++ s) ≡ with_bytes held s
unfolding with_bytes
both_fit held s h =
    let all : length (held ++ s) ≤ capacity = simp length-append (omega arith) in rw (le-leb _ _ h, take_all capacity (held ++ s) all)

pub no_room : (held s : List ℕ) → capacity < length held + length s → take capacity s ≡ with_bytes held s
unfolding with_bytes
no_room held s h = rw (lt-leb _ _ h)
