pub mod History
pub mod Output
pub mod SameRows
pub mod Session
pub mod SessionSteps
