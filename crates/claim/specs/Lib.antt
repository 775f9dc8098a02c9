pub mod Kept
pub mod FromSound
pub mod Claim
