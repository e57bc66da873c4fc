-- The thresholds of the recognisers.
pub mod Threshold
