-- A row of this kernel's refusals, and answers: as the crate common has them for any kernel. Assumes nothing.
use Rattle.std.specs.Prelude.{List, ℕ}
use Rattle.common.specs.Row
pub use Rattle.common.specs.Row.{◌when◌, Answer, ok, no}
unfoldable pub use Rattle.common.specs.Row.{reply, pass}
use Rattle.rules.specs.Refusal.{Refusal, number}

abbrev pub Check : Type 0
Check = Row.Check Refusal

-- the number of the first refusal whose test passes, or 0
abbrev pub first : List Check → ℕ
first cs = Row.first number cs
