pub mod Search
pub mod Run
pub mod Rows
pub mod Blocks
pub mod Bits
