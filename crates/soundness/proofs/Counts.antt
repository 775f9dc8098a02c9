-- The counting theorem: "In hand + kernel = F", of any sound memory. Assumes that a page has room for a list of ten threes.
use mathlib.Core.Path.{◌≡◌, refl}
use mathlib.Core.List.{List, ◌++◌}
use Prim.Native.Nat.{ℕ, ◌+◌, ◌≤◌}
use native.Mathlib.Omega.{arith}
use lib.ListN.{length}
use Rattle.walk.specs.Lists.{sum_of, sum_ext}
use Rattle.walk.specs.Finite.{length-image}
use Rattle.walk.specs.Walk as W
use Rattle.memory.specs.Geometry.{page_words, flat_pages, most_depth}
use Rattle.memory.specs.Partition.{pages}
use Rattle.memory.specs.Tree.{root}
use Rattle.memory.specs.Uses.{five_pages}
use Rattle.memory.specs.Counts.{children, partitions, below_root, hand_addresses, in_hand_count, kernel_count}
use Rattle.memory.specs.Sound.{Sound}
use Rattle.soundness.specs.Test.{own, ok, hand_pages, listed_pages}
use Rattle.soundness.proofs.Used.{front}
use Rattle.soundness.proofs.Root.{root-threes}
use Rattle.soundness.proofs.Whole.{sound-good}

module _ (b : ℕ) (m : List ℕ) (s : Sound b m) (big : 61 ≤ page_words b) where
  hands : sum_of (λ d. length (hand_pages b m d)) (partitions b m) ≡ in_hand_count b m
  unfolding in_hand_count hand_pages
  hands = sum_ext _ _ (partitions b m) (λ d. length-image _ (hand_addresses b m d))

  kernel : sum_of (λ d. length (five_pages b m d ++ listed_pages b m d)) (below_root b m) ≡ kernel_count b m
  unfolding kernel_count
  kernel = sum_ext _ _ (below_root b m) (λ d. front b m d)

  pub counts : in_hand_count b m + kernel_count b m ≡ flat_pages b (pages b m)
  unfolding own
  counts =
      let e = W.split_root (children b m) (own b m) (ok b m) most_depth (pages b m) 1 (sound-good b m s big) (omega (arith, s.header.least)) (λ d. five_pages b m d ++ listed_pages b m d) (hand_pages b m) (λ d. refl) in
      omega (arith, e, front b m 1, root-threes b m s.root_as_formatted big (s.forms 0 1 root).list, hands, kernel)
