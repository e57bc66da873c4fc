-- The proof about 17's bodies (BodyOrder), and laws that the proofs of several functions cite.
pub mod BodyOrder
pub mod GrowingLaws
pub mod GrowingNeeds
pub mod ShapeLaws
