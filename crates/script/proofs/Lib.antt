pub mod Walks
pub mod Heads
pub mod Decimals
pub mod Puts
pub mod Lengths
pub mod Replays
