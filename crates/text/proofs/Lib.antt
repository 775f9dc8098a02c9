pub mod Cuts
pub mod Splits
pub mod Values
pub mod Called
