-- The theorem about every list of feeds with a tally (Tallies), and the laws that it and the functions' proofs cite.
pub mod PlaceLaws
pub mod TallyLaws
pub mod CountLaws
pub mod RowLaws
pub mod FeedLaws
pub mod PartLaws
pub mod Tallies
