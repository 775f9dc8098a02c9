-- A packed answer: what it and its two halves stand for. Assumes nothing.
use mathlib.Core.Path.{◌≡◌, ap, ◌∙◌}
use mathlib.Core.Bool.{Bool, true, false, cond}
use Prim.Native.Nat.{ℕ, zero, suc, ◌/◌, ◌%◌, ◌^◌, ◌<◌}
use native.Mathlib.Nat.{mul-div_left, div-eq_of_lt, mul-mod_left, mod-eq_of_lt}
use native.Mathlib.Omega.{arith}
use lib.Dec.{eqb}
use borrow.Author.Tests.{ne_eqb}
use Rattle.common.specs.Row.{Answer, reply}
use Rattle.common.specs.Packed.{packed}

-- the upper half is the refusal's number, or 0
pub upper_reply : (n x : ℕ) → x < 2 ^ 32 → packed (reply n x) / 2 ^ 32 ≡ n
unfolding reply
upper_reply zero x h = div-eq_of_lt h
upper_reply (suc n) x h = mul-div_left (suc n) (omega arith)

-- the lower half is the word of a call that is done, else 0
pub lower-reply : (n x : ℕ) → x < 2 ^ 32 → packed (reply n x) % 2 ^ 32 ≡ cond (eqb n 0) x 0
unfolding reply
lower-reply zero x h = mod-eq_of_lt h
lower-reply (suc n) x h = rw (ne_eqb (suc n) 0 (λ e. omega arith)) (mul-mod_left (suc n) (2 ^ 32))

-- what a call answered, packed; P is what it left
pub packs : {r : ℕ} {a e : Answer} {P : Type 0} → r ≡ packed a → (a ≡ e) × P → (r ≡ packed e) × P
packs r p = (r ∙ ap packed p.0, p.1)

-- of two words that fit either fits
pub cond_below : (t : Bool) {x y k : ℕ} → x < k → y < k → cond t x y < k
cond_below true p q = p
cond_below false p q = q
