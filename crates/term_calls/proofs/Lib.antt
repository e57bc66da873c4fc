-- The laws that the functions' proofs cite.
pub mod CallLaws
pub mod ListLaws
pub mod MadeLaws
