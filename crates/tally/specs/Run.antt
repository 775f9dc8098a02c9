-- What a sweep over a list comes to: a state, and a step at each element. Assumes nothing.
use Rattle.std.specs.Prelude.{List, [], ◌∷◌, Bool, cond, ◌&&◌, ℕ, ◌+◌}
use Rattle.std.proofs.Math.Option.{Option}
use Rattle.walk.specs.Marks.{Seen, and_then}

unfoldable pub run : {S : Type 0} → (S → ℕ → S) → S → List ℕ → S
run f s [] = s
run f s (x ∷ xs) = run f (f s x) xs

-- the steps of a sum, of a test at each, and of a walk with marks over those that p picks
abbrev pub adding : (ℕ → ℕ) → ℕ → ℕ → ℕ
adding g c x = c + g x

abbrev pub asking : (ℕ → Bool) → Bool → ℕ → Bool
asking f t x = t && f x

abbrev pub marking : (ℕ → Bool) → (Seen → ℕ → Option Seen) → Option Seen → ℕ → Option Seen
marking p f o x = cond (p x) (and_then o (λ s. f s x)) o

abbrev pub bit : Bool → ℕ
bit t = cond t 1 0
