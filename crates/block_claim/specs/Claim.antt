-- Demand 3 over bytes, a single claim about every sequence of calls. Assumes nothing.
use Rattle.std.specs.Prelude.{◌≡◌, List, [], ◌∷◌, true, false, ℕ, length}
use Rattle.std.proofs.Math.Option.{Option, none, some}
use Rattle.common.specs.Row.{Answer, ok, no}
use Rattle.block_memory.specs.Geometry.{permitted}
use Rattle.block_memory.specs.Partition.{current}
use Rattle.block_memory.specs.Format.{format}
use Rattle.block_memory.specs.Sound.{Sound}
use Rattle.block_rules.specs.Refusal.{number, DAMAGED, LENGTH}
use Rattle.block_rules.specs.Call.{Call, format_all, serve}
use Rattle.block_rules.specs.Calls.{no_block, tells, run, answers, all_told}
use Rattle.block_claim.specs.Kept.{Kept}

-- "On a length that isn't permitted format answers 13, every other call 1"
abbrev pub refused_by : Call → ℕ
refused_by format_all = number LENGTH
refused_by (serve s) = number DAMAGED

unfoldable pub all_refused : List Call → List Answer
all_refused [] = []
all_refused (c ∷ cs) = no (refused_by c) ∷ all_refused cs

-- and beside: six zeros where a block would be told
abbrev pub refused_beside : Option (ℕ × ℕ) → List ℕ
refused_beside none = []
refused_beside (some x) = no_block

unfoldable pub none_told : List ℕ → List Call → List (List ℕ)
none_told m [] = []
none_told m (format_all ∷ cs) = [] ∷ none_told m cs
none_told m (serve s ∷ cs) = refused_beside (tells m (current m) s) ∷ none_told m cs

-- format and then the calls cs, on memory of a permitted length whatever it held: "words and answers are what these rules give from the length and the
-- arguments alone", and what demand 3 asks holds afterwards
module _ (m : List ℕ) (cs : List Call) where
  pub record Claim : Type 0 where
    pub words : run m (format_all ∷ cs) ≡ run (format (length m)) cs
    pub answered : answers m (format_all ∷ cs) ≡ ok 0 ∷ answers (format (length m)) cs
    -- the six words of a block that is told
    pub told : all_told m (format_all ∷ cs) ≡ [] ∷ all_told (format (length m)) cs
    pub kept : Kept (run m (format_all ∷ cs)) (length m)

  -- ".., and no word changes"
  pub record Barred : Type 0 where
    pub words : run m cs ≡ m
    pub answered : answers m cs ≡ all_refused cs
    pub told : all_told m cs ≡ none_told m cs

-- of every memory and every list of calls, format among them: the part before any call of a list is a list itself, so this holds at the start and after
-- each call
pub record Demand3 : Type 0 where
  pub permits : (m : List ℕ) (cs : List Call) → permitted (length m) ≡ true → Claim m cs
  pub barred : (m : List ℕ) (cs : List Call) → permitted (length m) ≡ false → Barred m cs

-- the same facts from any sound memory on, and not only from format
abbrev pub FromSound : Type 0
FromSound = (m : List ℕ) → Sound m → (cs : List Call) → Kept (run m cs) (length m)
