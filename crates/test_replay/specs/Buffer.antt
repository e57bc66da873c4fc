-- What a buffer has room for.
use Rattle.std.specs.Prelude.{ℕ}

abbrev pub capacity : ℕ
capacity = 4096
