-- The rules of the two newest bars.
pub mod TwoBarRule
