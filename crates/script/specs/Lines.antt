-- The bytes of a transcript, written one behind the other. Assumes nothing.
use Rattle.std.specs.Prelude.{◌≡◌, List, [], ◌∷◌, ◌++◌, ℕ, ◌+◌, length}
use Rattle.memory.specs.Geometry.{flat_pages}
use Rattle.memory.specs.Words.{overwrite}
use Rattle.rules.specs.Replay.{decimal}

-- the bytes ws stand from byte i on, all else is as it was, and j is the byte behind them
pub record Put (before after : List ℕ) (i j : ℕ) (ws : List ℕ) : Type 0 where
  pub next : j ≡ i + length ws
  pub bytes : after ≡ overwrite before i ws

-- "a line `N F`"
abbrev pub first_line : ℕ → ℕ → List ℕ
first_line b n = decimal n ++ (32 ∷ []) ++ decimal (flat_pages b n) ++ (10 ∷ [])
