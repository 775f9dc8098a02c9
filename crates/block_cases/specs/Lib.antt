pub mod Reached
pub mod Case
pub mod Table
