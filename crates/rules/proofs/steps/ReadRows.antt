-- A row of refusals in two memories, test by test: where each test is the same in both, so is what the row comes to. Assumes nothing.
use mathlib.Core.Path.{◌≡◌, refl, ap, ◌∙◌}
use mathlib.Core.List.{List, [], ◌∷◌}
use mathlib.Core.Bool.{Bool, true, false, cond}
use Prim.Native.Nat.{ℕ, ◌<◌}
use borrow.Author.Tests.{leb-false}
use Rattle.memory.specs.Geometry.{address_end}
use Rattle.common.specs.Row
use Rattle.rules.specs.Refusal.{Refusal, number}
use Rattle.rules.specs.Row.{Check, ◌when◌, first}
use Rattle.rules.specs.Conditions.{bad_address}
use Rattle.rules.proofs.steps.Checks.{false_or}

-- a test that is the same in both, and what follows it
pub row : (r : Refusal) (s t : Bool) (cs ds : List Check) → s ≡ t → (s ≡ false → first cs ≡ first ds) → first (r when s ∷ cs) ≡ first (r when t ∷ ds)
unfolding Row.first
row r s t cs ds e h = go s h ∙ ap (λ (x : Bool). cond x (number r) (first ds)) e
  where
    go : (s : Bool) → (s ≡ false → first cs ≡ first ds) → cond s (number r) (first cs) ≡ cond s (number r) (first ds)
    go true h = refl
    go false h = h refl

-- the last test of a row
pub last_row : (r : Refusal) (s t : Bool) → s ≡ t → first (r when s ∷ []) ≡ first (r when t ∷ [])
last_row r s t e = row r s t [] [] e (λ x. refl)

-- an address that has passed the test of addresses
pub below_end : (b unit v : ℕ) → bad_address b unit v ≡ false → v < address_end b
below_end b unit v e = leb-false (address_end b) v (false_or _ _ (false_or _ _ e).0).0
