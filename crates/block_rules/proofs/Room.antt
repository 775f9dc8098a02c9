-- Room for n words in a block in hand, from its first whole word on: what lies there is no word of the kernel's. Assumes nothing.
use mathlib.Core.Path.{◌≡◌}
use mathlib.Core.List.{List}
use Prim.Native.Nat.{ℕ, ◌+◌, ◌*◌, ◌≤◌, ◌<◌}
use native.Mathlib.Omega.{arith}
use lib.ListN.{length}
use Rattle.block_memory.specs.Partition.{root, Partition, end, used, place}
use Rattle.block_memory.specs.Bytes.{Live}
use Rattle.block_memory.specs.Sound.{Sound}
use Rattle.block_soundness.proofs.Blocks.{used_as, block}
use Rattle.block_soundness.proofs.Records.{Record, words, base, Valid}
use Rattle.block_soundness.proofs.Disjoint.{not-in-hand}
use Rattle.block_soundness.proofs.Up.{above-first}

module _ (m : List ℕ) (s : Sound m) (d b n : ℕ) (p : Partition m d) (hand : used m d b ≡ 1) (room : 4 * (place m d b + n) ≤ end m d b) where
  live-b : Live m d b
  live-b = used_as p hand

  pub above-own : root m + 106 ≤ place m d b
  above-own = omega (arith, above-first m s live-b)

  pub in_memory : place m d b + n ≤ length m
  in_memory = omega (arith, room, (block m s live-b).form.inside)

  -- no word of a record is there
  pub clear_of : (r : Record) → Valid m r → (i : ℕ) → i < words r → place m d b ≤ base m r + i → base m r + i < place m d b + n → ⊥
  clear_of r v i h a c = not-in-hand m s r v i h d b (record { live = live-b; from = omega arith; up_to = omega (arith, room) }) hand
