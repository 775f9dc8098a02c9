pub mod Words
pub mod Row
pub mod Expected
pub mod Packed
pub mod Sequence
pub mod Room
