-- A theorem about the labels' texts (RoundTrip), and laws that the proofs of several functions, and the crates above, cite.
pub mod RoundTrip
pub mod LabelLaws
