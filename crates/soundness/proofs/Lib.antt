pub mod Places
pub mod Agree
pub mod Trees
pub mod Used
pub mod Root
pub mod Whole
pub mod Counts
