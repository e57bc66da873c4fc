-- The tally program as definitions, from request P3 of document 02.
pub mod Output
pub mod Session
pub mod SessionSteps
pub mod History
pub mod SameRefusal
