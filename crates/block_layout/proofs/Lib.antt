pub mod Finding
pub mod Ranges
