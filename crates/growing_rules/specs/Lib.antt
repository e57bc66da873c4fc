-- The rules that try growing windows, and what the code asks before it tries one.
pub mod GrowingRule
pub mod SearchSteps
