-- Laws that the proofs of several functions, and the crates above, cite.
pub mod Order
pub mod RunLaws
pub mod Overlay
pub mod PriceLaws
pub mod WindowLaws
pub mod FoldLaws
