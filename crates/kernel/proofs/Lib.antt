pub mod Words
pub mod Numbered
pub mod Places
pub mod Replied
pub mod Running
pub mod Judged
