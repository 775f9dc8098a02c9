pub mod Places
pub mod Ending
pub mod Replied
pub mod Running
