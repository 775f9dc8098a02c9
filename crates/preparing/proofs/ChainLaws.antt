-- The chain, page by page. Assumes nothing.
use mathlib.Core.Path.{◌≡◌, refl, ap, ◌∙◌}
use mathlib.Core.Bool.{not}
use mathlib.Core.List.{List, [], ◌∷◌, ◌++◌}
use Prim.Native.Nat.{ℕ}
use lib.Dec.{eqb}
use Rattle.rules.specs.Refusal.{CHAIN}
use Rattle.rules.specs.Row.{Check, ◌when◌, first}
use Rattle.rules.specs.Conditions.{link, in_chain, chain}
use Rattle.rules.proofs.Rows.{goes_on}

-- q and s are the second page and the third, as they are read
module _ (b : ℕ) (m : List ℕ) (p : ℕ) {q s : ℕ} (hq : q ≡ link b m p) (hs : s ≡ link b m q) where
  abbrev last : List Check
  last = CHAIN when not (eqb (link b m s) 0) ∷ []

  chain-is : in_chain b m [] p ++ in_chain b m (p ∷ []) q ++ in_chain b m (p ∷ q ∷ []) s ++ last ≡ chain b m p
  chain-is = rw (hs, hq)

  module _ (h₁ : 0 ≡ first (in_chain b m [] p)) where
    pub behind-first : first (in_chain b m (p ∷ []) q ++ in_chain b m (p ∷ q ∷ []) s ++ last) ≡ first (chain b m p)
    behind-first = goes_on (in_chain b m [] p) _ 0 h₁ refl ∙ ap first chain-is

    module _ (h₂ : 0 ≡ first (in_chain b m (p ∷ []) q)) where
      pub behind-second : first (in_chain b m (p ∷ q ∷ []) s ++ last) ≡ first (chain b m p)
      behind-second = goes_on (in_chain b m (p ∷ []) q) _ 0 h₂ refl ∙ behind-first

      pub behind-third : 0 ≡ first (in_chain b m (p ∷ q ∷ []) s) → first last ≡ first (chain b m p)
      behind-third h₃ = goes_on (in_chain b m (p ∷ q ∷ []) s) _ 0 h₃ refl ∙ behind-second
