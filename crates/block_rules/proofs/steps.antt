-- Each call keeps memory sound. Assumes nothing.
pub mod Access
pub mod Cut
pub mod Merge
pub mod Add
pub mod Remove
pub mod Create
pub mod Prepare
pub mod Collect
pub mod Delete
