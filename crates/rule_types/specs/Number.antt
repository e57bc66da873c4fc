-- The numbers of the rules, each named once: counts, and float constants by their bit patterns, as the code has them, with their
-- decimal values beside them.
use Rattle.std.specs.Prelude.{ℕ, zero, suc, ◌+◌, ◌*◌, List, [], ◌∷◌, pos, Float}
use Rattle.std.specs.Float.{binary64}
use Rattle.std.specs.Float.Ieee.{of_bits, of_int}

-- ---- counts

-- the recognisers, numbered from 0
abbrev pub recognisers : ℕ
recognisers = 18

-- the labels, with codes from 0
abbrev pub labels : ℕ
labels = 38

-- a sheet's row: two codes for each recogniser
abbrev pub row_bytes : ℕ
row_bytes = 2 * recognisers

-- the recogniser whose gate reads len
abbrev pub gated : ℕ
gated = 12

-- the newest bars up to the judged one that a rule can see; and the p from which the quarter holds
abbrev pub reach_bars : ℕ
reach_bars = 22

-- the quarter's window
abbrev pub quarter_bars : ℕ
quarter_bars = 20

-- the gate's bars end third from the newest, and it holds where len is above this
abbrev pub gate_end : ℕ
gate_end = 3

abbrev pub gate_above : ℕ
gate_above = 23

-- the most bars of a history, and the greatest threshold that is whole, in units and in tenths
abbrev pub most_bars : ℕ
most_bars = 1000000

abbrev pub most_whole : ℕ
most_whole = 1000000

abbrev pub most_tenths : ℕ
most_tenths = 10000000

-- the places of a box, the farthest offset of a look, the longest text line
abbrev pub places : ℕ
places = 64

abbrev pub farthest_look : ℕ
farthest_look = 43

abbrev pub longest_line : ℕ
longest_line = 80

-- n numbers from k on
unfoldable pub numbers : ℕ → ℕ → List ℕ
numbers zero k = []
numbers (suc n) k = k ∷ numbers n (k + 1)

-- ---- floats

-- 0.02
abbrev pub a_fiftieth : Float
a_fiftieth = of_bits binary64 0x3f94_7ae1_47ae_147b

-- 0.1
abbrev pub a_tenth : Float
a_tenth = of_bits binary64 0x3fb9_9999_9999_999a

-- 0.2
abbrev pub a_fifth : Float
a_fifth = of_bits binary64 0x3fc9_9999_9999_999a

-- 0.5
abbrev pub a_half : Float
a_half = of_bits binary64 0x3fe0_0000_0000_0000

-- 1.0
abbrev pub one : Float
one = of_bits binary64 0x3ff0_0000_0000_0000

-- 2.0
abbrev pub two : Float
two = of_bits binary64 0x4000_0000_0000_0000

-- 3.0
abbrev pub three : Float
three = of_bits binary64 0x4008_0000_0000_0000

-- 100.0
abbrev pub a_hundred : Float
a_hundred = of_bits binary64 0x4059_0000_0000_0000

-- 10000.0
abbrev pub ten_thousand : Float
ten_thousand = of_bits binary64 0x40c3_8800_0000_0000

-- 18446744073709551616.0, two to the power of 64
abbrev pub beyond_whole : Float
beyond_whole = of_bits binary64 0x43f0_0000_0000_0000

-- a threshold that is a whole number, as a float
abbrev pub whole_of : ℕ → Float
whole_of n = of_int binary64 (pos n)
