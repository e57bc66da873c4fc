-- Laws that the proofs of several functions, and the crates above, cite.
pub mod NumeralLaws
pub mod OutputLaws
