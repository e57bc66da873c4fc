-- Laws that proofs of functions, and the crates above, cite.
pub mod Order
pub mod FlatLaws
pub mod MagnitudeLaws
pub mod NanLaws
