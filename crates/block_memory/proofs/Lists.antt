-- Words that are listed and zeros behind them. Assumes nothing.
use mathlib.Core.Path.{◌≡◌}
use mathlib.Core.List.{◌∷◌}
use Prim.Native.Nat.{ℕ, zero, suc, ◌≤◌}
use native.Mathlib.Omega.{arith}
use lib.ListN.{get_or, replicate}
use Rattle.walk.specs.Walk.{zeros-at}

pub after_two : (x y n i : ℕ) → 2 ≤ i → get_or (x ∷ y ∷ replicate n 0) i 0 ≡ 0
after_two x y n zero h = absurd (omega arith)
after_two x y n (suc zero) h = absurd (omega arith)
after_two x y n (suc (suc i)) h = zeros-at n i

pub after-three : (x y z n i : ℕ) → 3 ≤ i → get_or (x ∷ y ∷ z ∷ replicate n 0) i 0 ≡ 0
after-three x y z n zero h = absurd (omega arith)
after-three x y z n (suc i) h = after_two y z n i (omega arith)
