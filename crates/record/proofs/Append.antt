-- Bytes written by way of a part, and behind bytes that were written. Assumes nothing.
use mathlib.Core.Path.{◌≡◌, refl, ap}
use mathlib.Core.List.{List, [], ◌∷◌, ◌++◌}
use Prim.Native.Nat.{ℕ, zero, suc, ◌+◌, ◌≤◌}
use native.Mathlib.Omega.{arith}
use lib.ListN.{length, take, drop}
use Rattle.memory.specs.Words.{overwrite}

-- the bytes ws, with those before and behind them as they were
pub written : (m : List ℕ) (i n : ℕ) (ws : List ℕ) → n ≡ length ws → i + n ≤ length m → take i m ++ (ws ++ drop n (drop i m)) ≡ overwrite m i ws
written [] zero zero [] e h = refl
written [] zero zero (w ∷ ws) e h = absurd (omega arith)
written [] zero (suc n) ws e h = absurd (omega arith)
written [] (suc i) n ws e h = absurd (omega arith)
written (x ∷ m) zero zero [] e h = refl
written (x ∷ m) zero (suc n) [] e h = absurd (omega arith)
written (x ∷ m) zero zero (w ∷ ws) e h = absurd (omega arith)
written (x ∷ m) zero (suc n) (w ∷ ws) e h = ap (λ (l : List ℕ). w ∷ l) (written m zero n ws (omega arith) (omega arith))
written (x ∷ m) (suc i) n ws e h = ap (λ (l : List ℕ). x ∷ l) (written m i n ws e (omega arith))

pub overwrite_append : (m : List ℕ) (i : ℕ) (xs ys : List ℕ) (j : ℕ) → j ≡ i + length xs → overwrite (overwrite m i xs) j ys ≡ overwrite m i (xs ++ ys)
overwrite_append [] i xs ys j e = refl
overwrite_append (x ∷ m) zero [] ys zero e = refl
overwrite_append (x ∷ m) zero [] ys (suc j) e = absurd (omega arith)
overwrite_append (x ∷ m) zero (w ∷ ws) ys zero e = absurd (omega arith)
overwrite_append (x ∷ m) zero (w ∷ ws) ys (suc j) e = ap (λ (l : List ℕ). w ∷ l) (overwrite_append m zero ws ys j (omega arith))
overwrite_append (x ∷ m) (suc i) ws ys zero e = absurd (omega arith)
overwrite_append (x ∷ m) (suc i) ws ys (suc j) e = ap (λ (l : List ℕ). x ∷ l) (overwrite_append m i ws ys j (omega arith))
