-- The theorem about every list of events (TermBarLaws), and the laws that the functions' proofs and those of the calls cite.
pub mod EventLaws
pub mod TermBarLaws
pub mod StampLaws
pub mod VerdictLaws
pub mod StepLaws
