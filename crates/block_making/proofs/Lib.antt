pub mod Turns
pub mod Listing
pub mod Marking
pub mod Places
pub mod Gone
pub mod Making
