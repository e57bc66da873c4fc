pub mod Buffer
pub mod Command
pub mod Hex
pub mod Line
pub mod Number
pub mod Output
pub mod Session
pub mod Thresholds
