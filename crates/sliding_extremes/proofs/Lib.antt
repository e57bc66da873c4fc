-- What the windows have of older and of newer bars, and what stands in each place.
pub mod SlideLaws
