-- What the upper half of a packed answer stands for. Assumes nothing.
use mathlib.Core.Path.{◌≡◌, ap, ◌∙◌}
use Prim.Native.Nat.{ℕ, ◌/◌, ◌^◌}
use native.Mathlib.Omega.{arith}
use Rattle.rules.specs.Row.{Answer, reply}
use Rattle.answers.specs.Packed.{packed}
use Rattle.common.proofs.Packing.{upper_reply}

-- the refusal's number of an answer whose word is 0
pub refusal_of : {r x n : ℕ} {a : Answer} → r ≡ x / 2 ^ 32 → x ≡ packed a → a ≡ reply n 0 → r ≡ n
refusal_of {n = n} r x p = r ∙ ap (λ (y : ℕ). y / 2 ^ 32) (x ∙ ap packed p) ∙ upper_reply n 0 (omega arith)

pub refuses : {r x n : ℕ} {a : Answer} {P : Type 0} → r ≡ x / 2 ^ 32 → x ≡ packed a → (a ≡ reply n 0) × P → (r ≡ n) × P
refuses r x p = (refusal_of r x p.0, p.1)
