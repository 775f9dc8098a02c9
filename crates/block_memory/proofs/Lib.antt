pub mod Lists
pub mod Lookups
pub mod Lowest
pub mod Loops
