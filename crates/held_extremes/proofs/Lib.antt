-- Laws that the proofs of several functions, and the crates above, cite.
pub mod CandidateLaws
pub mod NextLaws
pub mod HeldLaws
pub mod NextHeld
pub mod KeepLaws
pub mod ScanLaws
pub mod PartLaws
pub mod SameLaws
