-- A row that begins with the checks of one page address, as the rules write it. Assumes nothing.
use mathlib.Core.Path.{◌≡◌, ap, ◌∙◌}
use mathlib.Core.Bool.{Bool, or-false}
use mathlib.Core.List.{List, [], ◌∷◌, ◌++◌}
use Prim.Native.Nat.{ℕ}
use Rattle.rules.specs.Refusal.{DAMAGED, ADDRESS}
use Rattle.rules.specs.Row.{Check, ◌when◌, first}
use Rattle.rules.specs.Conditions.{damaged, bad_page}
use Rattle.moves.specs.Rows.{page_checks}

pub one-page : (b : ℕ) (m : List ℕ) (v : ℕ) (cs : List Check) {n : ℕ} → n ≡ first (page_checks b m (v ∷ []) ++ cs)
    → n ≡ first (DAMAGED when damaged b m ∷ ADDRESS when bad_page b v ∷ cs)
one-page b m v cs e = e ∙ ap (λ (u : Bool). first (DAMAGED when damaged b m ∷ ADDRESS when u ∷ cs)) (or-false (bad_page b v))
