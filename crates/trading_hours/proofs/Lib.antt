-- The laws of the term rule, and those that the functions' proofs cite.
pub mod HourLaws
pub mod TermLaws
pub mod EndLaws
