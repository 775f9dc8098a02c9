pub mod Order
pub mod Numbers
pub mod Tree
pub mod Judged
pub mod Lent
pub mod Outside
pub mod Joined
pub mod Flat
