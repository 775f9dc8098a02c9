-- What delete does, said of the partitions and of the blocks: which go, which are given back, and that all others stay. Assumes nothing.
use Rattle.std.specs.Prelude.{◌≡◌, List, ◌≢◌, ◌↔◌, ◌⊎◌, ℕ, ◌+◌, ◌≤◌, ◌<◌}
use Rattle.block_memory.specs.Geometry.{table_index, descriptor_words, structure_words, slot_words}
use Rattle.block_memory.specs.Words.{word}
use Rattle.block_memory.specs.Partition.{current, Partition, structure, field, used, child, link, place}
use Rattle.block_memory.specs.Tree.{Below}
use Rattle.block_memory.specs.Sound.{Sound}
use Rattle.block_rules.specs.Call.{serve, delete}
use Rattle.block_rules.specs.Refusals.{refusal}
use Rattle.block_rules.specs.Calls.{after}

-- block n of d is "the block that the child stood in" or one of the blocks "with child in word 4"; c is the child's number
abbrev pub OfChild : List ℕ → ℕ → ℕ → ℕ → Type 0
OfChild m d c n = (used m d n ≢ 0) × ((n ≡ c) ⊎ (child m d n ≡ c))

-- m is the memory before and `now` after
module _ (m now : List ℕ) where
  -- "Give back b: its words 3, 4, 5 become 1, 0, 0"; the six others stay
  pub record GivenBack (d n : ℕ) : Type 0 where
    pub in_hand : used now d n ≡ 1
    pub no_child : child now d n ≡ 0
    pub no_link : link now d n ≡ 0
    pub others : (f : ℕ) → f < slot_words → ¬ ((3 ≤ f) × (f < 6)) → field now d n f ≡ field m d n f

  -- descriptor, structures and table word of u are wiped
  pub record Wiped (u : ℕ) : Type 0 where
    pub of_table : word now (table_index u) ≡ 0
    pub of_descriptor : (i : ℕ) → i < descriptor_words → word now (u + i) ≡ 0
    pub of_structures : (k i : ℕ) → structure m u k ≢ 0 → i < structure_words → word now (structure m u k + i) ≡ 0

  -- d is the caller and c the child's number
  pub record Deleted (d c : ℕ) : Type 0 where
    -- the child and "each partition below it" go: "these are its descendants and no others"
    pub partitions : (u : ℕ) → Partition now u ↔ (Partition m u × ¬ (Below m (place m d c) u))
    -- "wipes the structures and the descriptor of the child and of each partition below it, and their table words"
    pub wiped : (u : ℕ) → Partition m u → Below m (place m d c) u → Wiped u
    -- "gives back the block that the child stood in and each block of the caller with child in word 4"
    pub given_back : (n : ℕ) → OfChild m d c n → GivenBack d n
    -- every other slot of a partition that stays has its nine words as before
    pub others : (u n f : ℕ) → Partition m u → ¬ (Below m (place m d c) u) → ¬ ((u ≡ d) × OfChild m d c n) → f < slot_words → field now u n f ≡ field m u n f

-- every delete that isn't refused
abbrev pub EveryDelete : Type 0
EveryDelete = (m : List ℕ) → Sound m → (c : ℕ) → refusal m (serve (delete c)) ≡ 0 → Deleted m (after m (serve (delete c))) (current m) c
