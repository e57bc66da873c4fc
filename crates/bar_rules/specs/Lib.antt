-- The rules of three to six newest bars.
pub mod BarRule
