pub mod Geometry
pub mod Words
pub mod Partition
pub mod Tree
pub mod Format
pub mod Bytes
pub mod Sound
