pub mod Price
pub mod Bar
