-- "A feed reaches the box": thirteen thresholds, the standard set and the limits. The digit at the end of a name is the recogniser.
use Rattle.std.specs.Prelude.{ℕ, Bool, ◌&&◌, leb, Float}
use Rattle.std.specs.Float.Ieee.{le}
use Rattle.prices.specs.Price.{zero}
use Rattle.thresholds.specs.declared.Thresholds.{Thresholds}
use Rattle.rule_types.specs.Number.{two, ten_thousand, most_whole, most_tenths}

abbrev pub thresholds_of : Float → ℕ → ℕ → ℕ → ℕ → ℕ → ℕ → ℕ → Float → ℕ → ℕ → ℕ → ℕ → Thresholds
thresholds_of th0 z2 th2 z3 th3 zdf5 th6 zdf7 th8 zf8 th10 th13 th14 =
    record {
      th0 = th0;
      z2 = z2;
      th2 = th2;
      z3 = z3;
      th3 = th3;
      zdf5 = zdf5;
      th6 = th6;
      zdf7 = zdf7;
      th8 = th8;
      zf8 = zf8;
      th10 = th10;
      th13 = th13;
      th14 = th14;
    }

-- th (0) 2.0; z and th (2) 500, 50; z and th (3) 100, 50; zdf (5) 500; th (6) 2; zdf (7) 300; th and zf (8) 2.0, 500; th (10) 100;
-- th (13) and th (14) in tenths, 100 (02, P4)
unfoldable pub standard_set : Thresholds
standard_set = thresholds_of two 500 50 100 50 500 2 300 two 500 100 100 100

-- the th of 0 and 8 are from 0.0 to 10,000.0, which no NaN is
abbrev pub float_within : Float → Bool
float_within x = le zero x && le x ten_thousand

-- all others are whole, 0 to 1,000,000
abbrev pub whole_within : ℕ → Bool
whole_within n = leb n most_whole

-- but for the th of 13 and 14, tenths, 0 to 10,000,000 (02, P4)
abbrev pub tenths_within : ℕ → Bool
tenths_within n = leb n most_tenths

unfoldable pub valid_of : Thresholds → Bool
valid_of t =
    float_within t.th0 && whole_within t.z2 && whole_within t.th2 && whole_within t.z3 && whole_within t.th3
    && whole_within t.zdf5 && whole_within t.th6 && whole_within t.zdf7 && float_within t.th8 && whole_within t.zf8
    && whole_within t.th10 && tenths_within t.th13 && tenths_within t.th14
