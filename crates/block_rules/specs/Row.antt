-- A row of the block kernel's refusals: as the crate common has it for any kernel. Assumes nothing.
use Rattle.std.specs.Prelude.{List, ℕ}
use Rattle.common.specs.Row
use Rattle.block_rules.specs.Refusal.{Refusal, number}

abbrev pub Check : Type 0
Check = Row.Check Refusal

-- the number of the first refusal whose test passes, or 0
abbrev pub first : List Check → ℕ
first cs = Row.first number cs
