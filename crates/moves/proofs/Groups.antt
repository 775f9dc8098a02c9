-- A test over a group of addresses, as the code makes it and as the specifications write it. Assumes nothing.
use mathlib.Core.Path.{◌≡◌, refl, ap}
use mathlib.Core.Bool.{Bool, ◌||◌}
use mathlib.Core.List.{List, [], ◌∷◌}
use Prim.Native.Nat.{ℕ}
use Rattle.std.specs.List.{list_any}
use Rattle.walk.specs.Finite.{any}

-- what the iterator's `any` answers
pub any_is : (f : ℕ → Bool) (xs : List ℕ) → any f xs ≡ list_any f xs
any_is f [] = refl
any_is f (x ∷ xs) = ap (λ (t : Bool). f x || t) (any_is f xs)
