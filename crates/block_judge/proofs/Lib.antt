pub mod Sentences
pub mod Zeros
pub mod Eights
