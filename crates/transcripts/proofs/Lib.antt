pub mod Starts
pub mod Calls
pub mod Turn
