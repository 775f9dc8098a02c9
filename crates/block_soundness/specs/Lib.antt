pub mod Test
pub mod Counts
