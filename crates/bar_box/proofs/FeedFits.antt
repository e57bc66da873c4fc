-- A feed that is accepted has few bars, and a sheet with room for their rows. Assumes nothing.
use Rattle.std.specs.Prelude.{Ok}
use Prim.Native.Nat.{ℕ, ◌+◌, ◌*◌, ◌/◌, ◌≤◌}
use mathlib.Core.Path.{◌≡◌}
use mathlib.Core.List.{List}
use lib.ListN.{length, take}
use lib.Ieee.{Float}
use lib.Seq.{take-length}
use Rattle.recognisers.specs.Threshold.{Thresholds}
use Rattle.recognisers.specs.Number.{row_bytes, most_bars}
use Rattle.recognisers.specs.Refusal.{feed_verdict}
use Rattle.answers.proofs.VerdictLaws.{fits}
use Rattle.measures.specs.Bar.{bars_of}
use Rattle.measures.proofs.RunLaws.{length-bars}

pub few_bars : (t : Thresholds) (n prices sheet : ℕ) → feed_verdict t n prices sheet ≡ Ok tt → n + prices / 4 ≤ most_bars
few_bars t n prices sheet ok = (fits t n prices sheet ok).few

pub room_left : (t : Thresholds) (n prices sheet : ℕ) → feed_verdict t n prices sheet ≡ Ok tt → row_bytes * (prices / 4) ≤ sheet
room_left t n prices sheet ok = (fits t n prices sheet ok).room

pub bars_in : (prices : List Float) → length (bars_of prices) ≡ length prices / 4
bars_in prices = length-bars prices

-- the code needs no such law: with it the right program of the form of taken_of_accepted_is_none proves too
pub whole_run : (prices : List Float) → take (length prices) prices ≡ prices
whole_run prices = take-length prices
