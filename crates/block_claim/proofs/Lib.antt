pub mod Kept
pub mod Barred
pub mod Demand3
