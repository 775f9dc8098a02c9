pub mod Resumption
pub mod Beside
