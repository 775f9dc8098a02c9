pub mod Telling
pub mod Judged
