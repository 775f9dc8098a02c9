-- What demand 3 asks of a memory, part by part, in the rules' words. Assumes nothing.
use Rattle.std.specs.Prelude.{◌≡◌, List, ◌≢◌, ◌⊎◌, ℕ, ◌+◌, ◌*◌, ◌≤◌, ◌<◌, length}
use Rattle.std.specs.Int.Bits.{bit_and}
use Rattle.block_memory.specs.Geometry.{most_enabled, first_byte, flat_bytes}
use Rattle.block_memory.specs.Partition.{root, Partition, parent, number, entry, start, end, rights, used, child, source}
use Rattle.block_memory.specs.Bytes.{Live, HasByte, Keeps}
use Rattle.block_memory.specs.Sound.{Sound}
use Rattle.block_soundness.specs.Counts.{in_hand_count, kernel_count}

module _ (m : List ℕ) where
  -- "Kernel bytes are those of the kernel's own part and those of all blocks with use 3 or 4."
  abbrev pub KernelByte : ℕ → Type 0
  KernelByte x = (x < first_byte (length m)) ⊎ ((d : ℕ) × (n : ℕ) × HasByte m d n x × ((used m d n ≡ 3) ⊎ (used m d n ≡ 4)))

  -- block n of d lies in a block that d's parent lends to d, and has no right that the lent block has not
  pub record InParent (d n : ℕ) : Type 0 where
    pub lent : used m (parent m d) (source m d n) ≡ 2
    pub to_this : child m (parent m d) (source m d n) ≡ number m d
    pub low : start m (parent m d) (source m d n) ≤ start m d n
    pub high : end m d n ≤ end m (parent m d) (source m d n)
    pub no_more : bit_and (rights m d n) (rights m (parent m d) (source m d n)) ≡ rights m d n

  -- w is the number of words
  pub record Kept (w : ℕ) : Type 0 where
    pub size : length m ≡ w
    pub sound : Sound m
    -- "each byte of the starting block is in exactly one block with use 1, 3 or 4, over the pools of all partitions"
    pub one_block : (x : ℕ) → first_byte w ≤ x → x < 4 * w → (d : ℕ) × (n : ℕ) × Keeps m d n x × ((e o : ℕ) → Keeps m e o x → (e ≡ d) × (o ≡ n))
    -- "each block of a partition but the root lies in a block that its parent lends to it and has no right that the lent block has not": "rights never grow"
    -- (document 02, L10)
    pub vertical : (d n : ℕ) → Partition m d → d ≢ root m → used m d n ≢ 0 → InParent d n
    -- "a block goes to one child at most" (L10): two children of one parent have nothing from the same block of it
    pub one_child : (d e n o : ℕ) → Live m d n → Live m e o → d ≢ root m → e ≢ root m → parent m d ≡ parent m e → source m d n ≡ source m e o → d ≡ e
    -- "two children of one parent share no byte"
    pub siblings : (d e n o x : ℕ) → d ≢ root m → e ≢ root m → parent m d ≡ parent m e → d ≢ e → HasByte m d n x → HasByte m e o x → ⊥
    -- "no kernel byte is in a block in hand"
    pub closed : (d n x : ℕ) → HasByte m d n x → used m d n ≡ 1 → KernelByte x → ⊥
    -- "what is enabled is in hand, and at most eight blocks for a partition": so "a block that serves as a kernel structure is never enabled" (L10)
    pub enabled : (d e : ℕ) → Partition m d → entry m d e ≢ 0 → (used m d (entry m d e) ≡ 1) × (1 ≤ e) × (e ≤ most_enabled)
    -- so no kernel byte is in an enabled block
    pub shut : (d e x : ℕ) → Partition m d → entry m d e ≢ 0 → start m d (entry m d e) ≤ x → x < end m d (entry m d e) → KernelByte x → ⊥
    -- "in hand + kernel = F"
    pub counted : in_hand_count m + kernel_count m ≡ flat_bytes w
