-- The two counts, each by its own rule. Assumes nothing.
use Rattle.std.specs.Prelude.{List, cond, not, ◌&&◌, ℕ, ◌+◌, ◌-◌, eqb}
use Rattle.walk.specs.Lists.{sum_of}
use Rattle.walk.specs.Finite.{keep}
use Rattle.block_memory.specs.Words.{word}
use Rattle.block_memory.specs.Partition.{numbers, structure_numbers, root, partitions, parent, number, structure, start, end, used, holder}

module _ (m : List ℕ) where
  abbrev pub size : ℕ → ℕ → ℕ
  size d n = end m d n - start m d n

  -- "The count in hand is the sum of end − start over the blocks in hand of all partitions."
  unfoldable pub in_hand_count : ℕ
  in_hand_count = sum_of (λ d. sum_of (size d) (keep (λ n. eqb (used m d n) 1) numbers)) (partitions m)

  -- "The kernel count is end − start of the block in the parent's pool that each partition but the root stands in"
  unfoldable pub descriptor_bytes : ℕ → ℕ
  descriptor_bytes d = cond (eqb d (root m)) 0 (size (parent m d) (number m d))

  -- ".., and of the block that each structure but the root's first stands in."
  unfoldable pub structure_bytes : ℕ → ℕ
  structure_bytes d =
      sum_of (λ k. size (holder m d (structure m d k)) (word m (structure m d k)))
      (keep (λ k. not (eqb (structure m d k) 0) && not (eqb d (root m) && eqb k 1)) structure_numbers)

  unfoldable pub kernel_count : ℕ
  kernel_count = sum_of (λ d. descriptor_bytes d + structure_bytes d) (partitions m)
