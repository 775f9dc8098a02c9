pub mod Said
pub mod Packed
