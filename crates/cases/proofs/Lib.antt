pub mod Reached
pub mod Computing
pub mod Cases
pub mod Morning
pub mod Contexts
pub mod Pair
