-- Lines, words, numbers, names and calls of a text, by the rules that stand in crates/assembly/specs/Lib.antt.
pub mod Text
pub mod Numbers
pub mod Names
pub mod Lines
pub mod Steps
