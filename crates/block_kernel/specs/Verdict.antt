-- The verdict of a memory: "1 DAMAGED: memory not sound". Assumes nothing.
use Rattle.std.specs.Prelude.{List, [], ◌∷◌, ℕ}
use Rattle.common.specs.Row.{◌when◌}
use Rattle.block_rules.specs.Refusal.{DAMAGED}
use Rattle.block_rules.specs.Row.{first}
use Rattle.block_rules.specs.Conditions.{damaged}

-- 1, or 0 where nothing is refused
abbrev pub verdict : List ℕ → ℕ
verdict m = first (DAMAGED when damaged m ∷ [])
