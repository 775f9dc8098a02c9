pub mod Hash
pub mod Lines
pub mod Words
