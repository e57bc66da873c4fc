-- That refusals 8 and 9 refuse the lines that 8 did (SameLines), and laws that the proofs of several functions cite.
pub mod LineTextLaws
pub mod SameLines
