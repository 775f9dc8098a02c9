pub mod SlotPages
pub mod SavedWords
