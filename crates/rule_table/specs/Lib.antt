-- The table of "The eighteen".
pub mod Table
pub mod TableSteps
