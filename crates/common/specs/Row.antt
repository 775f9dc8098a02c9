-- A row of ordered refusals, and what it comes to: "exactly the first refusal in its order". R are a kernel's refusals and number gives each its number.
-- Assumes nothing.
use Rattle.std.specs.Prelude.{List, [], ◌∷◌, Bool, cond, ℕ, zero, suc}

infix 68 ◌when◌
pub data Check (R : Type 0) : Type 0 where
  ◌when◌ : R → Bool → Check R

-- the number of the first refusal whose test passes, or 0
unfoldable pub first : {R : Type 0} → (R → ℕ) → List (Check R) → ℕ
first number [] = 0
first number (r when t ∷ cs) = let later = first number cs in cond t (number r) later

-- "ok" with a word, or "no" with a refusal's number
pub data Answer : Type 0 where
  ok : ℕ → Answer
  no : ℕ → Answer

-- "A refusal's answer is its number alone"
unfoldable pub reply : ℕ → ℕ → Answer
reply zero x = ok x
reply (suc n) x = no (suc n)

-- ".. no lent buffer changes a word or byte": what is changed where nothing is refused, else what was there
unfoldable pub pass : ℕ → List ℕ → List ℕ → List ℕ
pass zero changed same = changed
pass (suc n) changed same = same
