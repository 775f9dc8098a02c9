pub mod Called
pub mod Verdict
