pub mod Met
pub mod Whole
