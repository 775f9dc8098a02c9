pub mod Append
pub mod Sizes
pub mod Readings
pub mod Writing
