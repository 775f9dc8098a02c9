pub mod Later
pub mod Computing
pub mod Case
pub mod Table
