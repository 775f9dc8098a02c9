pub mod Geometry
pub mod Entry
pub mod Pages
pub mod Format
pub mod Tables
pub mod Widths
pub mod Editions
