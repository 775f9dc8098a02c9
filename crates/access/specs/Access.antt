-- The refusals that load and store share. Assumes nothing.
use Rattle.std.specs.Prelude.{List, [], ◌∷◌, ℕ}
use Rattle.memory.specs.Partition.{current}
use Rattle.rules.specs.Refusal.{DAMAGED, ADDRESS, UNMAPPED, KERNEL, RIGHTS}
use Rattle.rules.specs.Row.{Check, ◌when◌}
use Rattle.rules.specs.Conditions.{damaged, bad_address, unmapped, inaccessible, lacks}

-- 1 3 15 16 6, for an access at a that wants the right r
abbrev pub checks : ℕ → List ℕ → ℕ → ℕ → List Check
checks b m r a =
    DAMAGED when damaged b m ∷ ADDRESS when bad_address b 4 a ∷ UNMAPPED when unmapped b m (current b m) a ∷ KERNEL when inaccessible b m a
    ∷ RIGHTS when lacks b r m a ∷ []
