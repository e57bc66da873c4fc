-- Laws of the definitions in specs/, a module for each of its files, and of lists.
pub mod Command
pub mod Hex
pub mod Lists
pub mod Output
pub mod Session
