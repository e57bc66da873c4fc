-- "The other ways in", export for a host program: numbers, thresholds and bars as bytes, 32 to a bar, each price's bits little-endian.
use Rattle.std.specs.Prelude.{ℕ, zero, suc, ◌+◌, ◌*◌, ◌/◌, ◌%◌, List, [], ◌∷◌, eqb, length, take, drop, Float}
use Rattle.std.specs.Float.{binary64}
use Rattle.std.specs.Float.Ieee.{of_bits}
use Rattle.measures.specs.Bar.{Bar, bar_of, bars_of}
use Rattle.thresholds.specs.declared.Thresholds.{Thresholds}
pub use Rattle.answers.specs.Answer.{pair_number, result_of}
use Rattle.recognisers.specs.Call.{plain_answer}

abbrev pub bar_bytes : ℕ
bar_bytes = 32

-- the number that bytes stand for, least significant first
unfoldable pub little_endian : List ℕ → ℕ
little_endian [] = 0
little_endian (b ∷ bytes) = b + 256 * little_endian bytes

-- the price whose bits stand in the eight bytes from a place on; a NaN pattern is NaN, whatever its payload
unfoldable pub price_at : List ℕ → ℕ → Float
price_at s at = of_bits binary64 (little_endian (take 8 (drop at s)))

-- n prices, from a place on
unfoldable pub prices_at : List ℕ → ℕ → ℕ → List Float
prices_at s at zero = []
prices_at s at (suc n) = price_at s at ∷ prices_at s (at + 8) n

-- the bar whose 32 bytes begin at a place
abbrev pub bar_at : List ℕ → ℕ → Bar
bar_at s at = bar_of (price_at s at) (price_at s (at + 8)) (price_at s (at + 16)) (price_at s (at + 24))

-- the prices that bytes stand for
unfoldable pub decoded_prices : List ℕ → List Float
decoded_prices bytes = prices_at bytes 0 (length bytes / 8)

-- a plain call over the bars of the bytes; the result is v1 × 256 + v2, or 65,536 plus the refusal
unfoldable pub export_of : ℕ → ℕ → Thresholds → List ℕ → ℕ
export_of k di t bytes = result_of (plain_answer k di t (eqb (length bytes % bar_bytes) 0) (bars_of (decoded_prices bytes)))
