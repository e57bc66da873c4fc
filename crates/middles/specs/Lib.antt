-- A window's parts, and the extremes of its middle.
pub mod Part
pub mod MiddleSteps
