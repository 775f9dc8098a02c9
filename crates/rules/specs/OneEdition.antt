-- Document 02, L8: "256-byte edition only: on the other these calls answer 24, right after 1, and word 12 stays 0", of every sound memory of that edition.
-- Proved in proofs/state/Promises. Assumes nothing.
use Rattle.std.specs.Prelude.{◌≡◌, ◌≢◌, List, ℕ}
use Rattle.memory.specs.Edition.{edition, width}
use Rattle.memory.specs.Partition.{flag}
use Rattle.memory.specs.Tree.{InTree}
use Rattle.memory.specs.Sound.{Sound}
use Rattle.rules.specs.Refusal.{number, EDITION}
use Rattle.rules.specs.Row.{no}
use Rattle.rules.specs.Call.{Call, Registers, notify, dispatch, resume}
use Rattle.rules.specs.Editions.{answer, after}

module _ (m : List ℕ) where
  -- the call answers 24, and no word changes
  pub record NotHere (c : Call) : Type 0 where
    pub answered : answer m c ≡ no (number EDITION)
    pub words : after m c ≡ m

  pub record OneEdition : Type 0 where
    pub notified : (t e f : ℕ) (r : Registers) → NotHere (notify t e f r)
    pub dispatched : (t : ℕ) → NotHere (dispatch t)
    pub resumed : (t s : ℕ) → NotHere (resume t s)
    pub flags : (k d : ℕ) → InTree (width m) m k d → flag (width m) m d ≡ 0

abbrev pub EveryOneEdition : Type 0
EveryOneEdition = (m : List ℕ) → Sound (width m) m → edition m ≢ 0 → OneEdition m
