pub mod LineText
pub mod SameLines
