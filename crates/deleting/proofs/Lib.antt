pub mod Delete
pub mod Few
