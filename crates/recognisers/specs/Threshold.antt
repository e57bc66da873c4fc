-- The thresholds, passed on to those who see only the recognisers.
pub use Rattle.thresholds.specs.declared.Thresholds.{Thresholds}
pub use Rattle.thresholds.specs.Threshold.{thresholds_of, float_within, whole_within, tenths_within}
unfoldable pub use Rattle.thresholds.specs.Threshold.{standard_set, valid_of}
