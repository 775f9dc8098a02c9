-- An answer as one number, as the crate common has it for any kernel. Assumes nothing.
pub use Rattle.common.specs.Packed.{packed}
