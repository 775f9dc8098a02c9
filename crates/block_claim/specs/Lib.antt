pub mod Kept
pub mod Claim
