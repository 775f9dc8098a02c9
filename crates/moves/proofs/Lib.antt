pub mod Walks
pub mod Groups
pub mod Whole
pub mod Parts
pub mod Child
pub mod OnePage
pub mod Caller
