pub mod Tests
pub mod Places
pub mod Loops
pub mod Indices
pub mod Runs
pub mod Asked
