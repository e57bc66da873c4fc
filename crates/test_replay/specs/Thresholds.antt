-- The thresholds, in the order of `jcc_label`'s parameters and with nothing between them.
use Rattle.std.specs.Prelude.{ℕ, List}
use Rattle.test_replay.specs.Number.{u32_at, f64_at}
use Rattle.recognisers.specs.Threshold.{Thresholds}

unfoldable pub thresholds_of : List ℕ → Thresholds
thresholds_of s =
    record {
      th0 = f64_at s 0;
      z2 = u32_at s 8;
      th2 = u32_at s 12;
      z3 = u32_at s 16;
      th3 = u32_at s 20;
      zdf5 = u32_at s 24;
      th6 = u32_at s 28;
      zdf7 = u32_at s 32;
      th8 = f64_at s 36;
      zf8 = u32_at s 44;
      th10 = u32_at s 48;
      th13 = u32_at s 52;
      th14 = u32_at s 56;
    }
