-- Sound memory: in hand + kernel = F. Each byte of the starting block is counted once, in one of the two counts. Assumes nothing.
use mathlib.Core.Path.{◌≡◌, ◌∙◌}
use mathlib.Core.List.{List}
use Prim.Native.Nat.{ℕ, ◌+◌}
use native.Mathlib.Omega.{arith}
use lib.ListN.{length}
use Rattle.walk.specs.Lists.{sum_of, sum-add}
use Rattle.walk.specs.Finite.{from_in}
use Rattle.block_memory.specs.Geometry.{first_byte, flat_bytes}
use Rattle.block_memory.specs.Partition.{partitions}
use Rattle.block_memory.specs.Sound.{Sound}
use Rattle.block_soundness.specs.Counts.{size, in_hand_count, descriptor_bytes, structure_bytes, kernel_count}
use Rattle.block_soundness.proofs.Listing.{listed}
use Rattle.block_soundness.proofs.Sums.{sum_in, sum_swap, sum_ones}
use Rattle.block_soundness.proofs.Tally.{bytes, hands, each, large, each-bytes}
use Rattle.block_soundness.proofs.EachByte.{once-each}

module _ (m : List ℕ) (s : Sound m) where
  -- summed over the bytes first: each is 1
  by_bytes : sum_of (λ x. sum_of (λ d. each m d x) (partitions m)) (bytes m) ≡ flat_bytes (length m)
  by_bytes =
      sum_in (λ x. sum_of (λ d. each m d x) (partitions m)) (λ x. 1) (bytes m)
      (λ x h. let r = from_in (flat_bytes (length m)) (first_byte (length m)) x h in once-each m s x r.0 (omega (arith, r.1, large m s)))
      ∙ sum_ones (flat_bytes (length m)) (first_byte (length m))

  -- over the partitions first: each is what the two counts have of it
  abbrev in_hand : ℕ → ℕ
  in_hand d = sum_of (size m d) (hands m d)

  abbrev of_kernel : ℕ → ℕ
  of_kernel d = descriptor_bytes m d + structure_bytes m d

  by_partitions : sum_of (λ d. sum_of (each m d) (bytes m)) (partitions m) ≡ sum_of (λ d. in_hand d + of_kernel d) (partitions m)
  by_partitions = sum_in (λ d. sum_of (each m d) (bytes m)) (λ d. in_hand d + of_kernel d) (partitions m) (λ d c. each-bytes m s d (listed m s d c))

  pub counted : in_hand_count m + kernel_count m ≡ flat_bytes (length m)
  unfolding in_hand_count kernel_count
  counted = omega (arith, by_bytes, sum_swap (λ x d. each m d x) (bytes m) (partitions m), by_partitions, sum-add in_hand of_kernel (partitions m))
