pub mod Sequence
pub mod Called
pub mod Room
pub mod Ran
pub mod Verdict
