pub mod Lists
pub mod Reflect
pub mod Finite
pub mod Tree
pub mod Marks
pub mod Walk
pub mod Bound
