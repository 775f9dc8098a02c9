-- The verdict of a memory: "1 DAMAGED: memory not sound". Assumes nothing.
use Rattle.std.specs.Prelude.{List, [], ◌∷◌, ℕ}
use Rattle.memory.specs.Edition.{width}
use Rattle.rules.specs.Refusal.{DAMAGED}
use Rattle.rules.specs.Row.{◌when◌, first}
use Rattle.rules.specs.Conditions.{damaged}

-- 1, or 0 where nothing is refused
abbrev pub verdict : List ℕ → ℕ
verdict m = first (DAMAGED when damaged (width m) m ∷ [])
