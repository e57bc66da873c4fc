-- The tally as definitions, from request P3 of document 02.
pub mod Tally
pub mod Count
pub mod CountSteps
pub mod Feed
pub mod History
