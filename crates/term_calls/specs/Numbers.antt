-- Runs of numbers that an export is lent to write in.
use Rattle.std.specs.Prelude.{ℕ, List, length, take}
use Rattle.measures.specs.Bar.{overlay}

-- numbers written from the first place on, as far as there are places
abbrev pub written_to : List ℕ → List ℕ → List ℕ
written_to places numbers = overlay places 0 (take (length places) numbers)
