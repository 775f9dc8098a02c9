-- The checks with which several calls' rows begin, of page addresses vs and the child at c. Assumes nothing.
use Rattle.std.specs.Prelude.{List, [], ◌∷◌, ◌++◌, ℕ}
use Rattle.walk.specs.Finite.{any}
use Rattle.rules.specs.Refusal.{DAMAGED, ADDRESS, CHILD}
use Rattle.rules.specs.Row.{Check, ◌when◌}
use Rattle.rules.specs.Conditions.{damaged, bad_page, no_child}

-- 1 3
abbrev pub page_checks : ℕ → List ℕ → List ℕ → List Check
page_checks b m vs = DAMAGED when damaged b m ∷ ADDRESS when any (bad_page b) vs ∷ []

-- 1 3 5
abbrev pub child_checks : ℕ → List ℕ → List ℕ → ℕ → List Check
child_checks b m vs c = page_checks b m vs ++ (CHILD when no_child b m c ∷ [])
