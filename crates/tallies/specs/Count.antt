-- A table as one run of numbers, those of recogniser k from labels × k on.
use Rattle.std.specs.Prelude.{ℕ, ◌*◌}
use Rattle.recognisers.specs.Number.{recognisers, labels}

-- the numbers of all recognisers
abbrev pub cells : ℕ
cells = labels * recognisers
