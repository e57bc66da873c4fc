-- The theorem about every list of calls (TermCalls), and the laws that it and the functions' proofs cite.
pub mod FeedLaws
pub mod LayerLaws
pub mod PartLaws
pub mod CallSteps
pub mod TakeLaws
pub mod TermCalls
