pub mod SizeLaws
pub mod WordLaws
pub mod FillLaws
pub mod Choices
