-- The extremes of windows that slide along a run.
pub mod WindowExtreme
pub mod WindowExtremeSteps
