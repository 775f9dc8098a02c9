-- What find promises, of every sound memory: "tells the block that has that byte"; "Where nothing is there, none". Assumes nothing.
use Rattle.std.specs.Prelude.{◌≡◌, List, ℕ}
use Rattle.common.specs.Row.{ok}
use Rattle.block_memory.specs.Partition.{current, named}
use Rattle.block_memory.specs.Bytes.{HasByte}
use Rattle.block_memory.specs.Sound.{Sound}
use Rattle.block_rules.specs.Call.{serve, find}
use Rattle.block_rules.specs.Refusals.{refusal}
use Rattle.block_rules.specs.Calls.{no_block, six_words, told, answer}

-- p names the partition, x is the byte
module _ (m : List ℕ) (p x : ℕ) where
  abbrev t : ℕ
  t = named m (current m) p

  pub record Found : Type 0 where
    -- whichever block of the partition has the byte is the one that is told; so no two have it
    pub one : (n : ℕ) → HasByte m t n x → (answer m (serve (find p x)) ≡ ok 1) × (told m (serve (find p x)) ≡ six_words m t n)
    -- where no block has it, none is told
    pub none : ((n : ℕ) → ¬ (HasByte m t n x)) → (answer m (serve (find p x)) ≡ ok 0) × (told m (serve (find p x)) ≡ no_block)

-- every find that isn't refused
abbrev pub EveryFound : Type 0
EveryFound = (m : List ℕ) → Sound m → (p x : ℕ) → refusal m (serve (find p x)) ≡ 0 → Found m p x
