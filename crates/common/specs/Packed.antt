-- What an answer of the code stands for, and an answer as one number. R are a kernel's refusals and number gives each its number. Assumes nothing.
use Rattle.std.specs.Prelude.{Result, Ok, Err, ℕ, ⊤, ◌*◌, ◌^◌}
use Rattle.common.specs.Row.{Answer, ok, no}

module _ {R : Type 0} (number : R → ℕ) where
  -- "ok" with a word, or "no" with a refusal's number
  abbrev pub said : Result ℕ R → Answer
  said (Ok x) = ok x
  said (Err r) = no (number r)

  -- the number of the refusal that a test of a call gave, or 0 where it passed
  abbrev pub refusal_in : Result ⊤ R → ℕ
  refusal_in (Ok x) = 0
  refusal_in (Err r) = number r

-- the word of a call that is done, or a refusal's number above 32 zeros
abbrev pub packed : Answer → ℕ
packed (ok x) = x
packed (no n) = n * 2 ^ 32
