pub mod ListLaws
pub mod DropLaws
pub mod EffectLaws
pub mod StandLaws
