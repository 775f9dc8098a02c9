-- The first of some numbers at which a test holds. Assumes nothing.
use Rattle.std.specs.Prelude.{Bool, cond, ℕ, zero, suc}

-- the first of n numbers from i on at which p holds, or i + n
unfoldable pub seek : (ℕ → Bool) → ℕ → ℕ → ℕ
seek p zero i = i
seek p (suc n) i = let r = seek p n (suc i) in cond (p i) i r
