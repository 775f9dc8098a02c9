-- What demand 3 asks of a memory, from any sound memory on and not only from format (document 02, L11). Assumes nothing.
use Rattle.std.specs.Prelude.{◌≡◌, List, ℕ}
use Rattle.memory.specs.Edition
use Rattle.memory.specs.Edition.{width}
use Rattle.memory.specs.Geometry.{width_of}
use Rattle.memory.specs.Sound.{Sound}
use Rattle.rules.specs.Call.{Call}
use Rattle.rules.specs.Conditions.{pages_in}
use Rattle.rules.specs.Editions.{run, last_edition}
use Rattle.claim.specs.Kept.{Kept}

-- after the calls cs, format among them; e is the edition of the last format that passed, or m's own
module _ (m : List ℕ) (cs : List Call) where
  abbrev e : ℕ
  e = last_edition m (Edition.edition m) cs

  pub record KeptFrom : Type 0 where
    pub edition : Edition.edition (run m cs) ≡ e
    pub kept : Kept (width_of e) (run m cs) (pages_in (width_of e) m)

-- of every sound memory, of either edition, and every list of calls: so it holds after each call
abbrev pub FromSound : Type 0
FromSound = (m : List ℕ) → Sound (width m) m → (cs : List Call) → KeptFrom m cs
