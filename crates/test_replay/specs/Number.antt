-- Numbers out of bytes.
use Rattle.std.specs.Prelude.{ℕ, List, take, drop, from_bits, Float}
use Rattle.std.specs.Float.{binary64}
use Rattle.recognisers.specs.Export.{little_endian}

-- the u32, the u64 and the f64 of the bytes from a place on; every pattern of a NaN is the one `nan`
unfoldable pub u32_at : List ℕ → ℕ → ℕ
u32_at s at = little_endian (take 4 (drop at s))

unfoldable pub u64_at : List ℕ → ℕ → ℕ
u64_at s at = little_endian (take 8 (drop at s))

unfoldable pub f64_at : List ℕ → ℕ → Float
f64_at s at = from_bits binary64 (u64_at s at)
