-- What is printed, however the input is cut into reads, is what its lines print (Whole); and laws that the proofs of several functions cite.
pub mod BatchLaws
mod GuardLaws
pub mod HistoryLaws
pub mod OutputLaws
pub mod ReadLaws
pub mod SameRefusal
pub mod SessionLaws
pub mod Whole
