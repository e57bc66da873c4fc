pub mod Candidate
pub mod CandidateSteps
pub mod SideSteps
