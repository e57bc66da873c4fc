-- What is printed, whatever the reads bring, is what the lines of the input print (Whole), that is the rows over the whole history
-- (HistoryRows); and laws that the proofs of several functions cite.
pub mod HistoryRows
pub mod SameRows
pub mod SessionLaws
pub mod Whole
