-- Laws that the proofs of several functions, and the crates above, cite.
pub mod RunLaws
pub mod WindowLaws
