pub mod Reasons
pub mod Records
pub mod Runs
pub mod Pages
pub mod Answers
pub mod Words
pub mod Recorded
pub mod ReadBack
