-- The tests of the table, the descriptors and the structures, over what the code read. Assumes nothing.
use mathlib.Core.Path.{◌≡◌}
use mathlib.Core.List.{List}
use mathlib.Core.Bool.{Bool, true, not, ◌&&◌, ◌||◌}
use Prim.Native.Nat.{ℕ, ◌+◌, ◌*◌, ◌/◌, ◌≤◌}
use native.Mathlib.Omega.{arith}
use lib.Dec.{eqb}
use lib.ListN.{length}
use Rattle.walk.specs.Finite.{all}
use Rattle.walk.specs.Reflect
use Rattle.walk.specs.Reflect.{eq?, le?}
use Rattle.common.proofs.Chains.{both}
use Rattle.block_memory.specs.Geometry.{permitted, header_words}
use Rattle.block_memory.specs.Words.{word}
use Rattle.block_memory.specs.Partition.{entry_numbers, root, entry, structure, used}
use Rattle.block_soundness.specs.Test.{header_test, structure_test, partition_test}

-- ---- the header

permitted-short : (w : ℕ) → permitted w ≡ true → w ≤ 16384
unfolding permitted
permitted-short w h =
    let p = (Reflect.both {P = (w / 256 * 256 ≡ w) × (16 ≤ w / 256)} {Q = w / 256 ≤ 64} (Reflect.both eq? le?) le?).0 h in
    omega (arith, p.0.0, p.1)

module _ (m : List ℕ) where
  pub header-short : header_test m ≡ true → length m ≤ 16384
  unfolding header_test
  header-short h = permitted-short (length m) (both _ _ (both _ _ (both _ _ (both _ _ (both _ _ h).0).0).0).0).0

  -- word i of what stands at d is 0
  abbrev pub zero_at : ℕ → ℕ → Bool
  zero_at d i = eqb (word m (d + i)) 0

  -- ---- its entries; entry e is n

  abbrev pub differs : ℕ → ℕ → ℕ → ℕ → Bool
  differs d e n f = not (eqb n (entry m d f)) || eqb e f

  abbrev pub entry_at : ℕ → ℕ → ℕ → Bool
  entry_at d e n = eqb n 0 || (eqb (used m d n) 1 && all (differs d e n) entry_numbers)

  abbrev pub good_entry : ℕ → ℕ → Bool
  good_entry d e = entry_at d e (entry m d e)

  -- ---- its structures; structure k stands at s

  abbrev pub structure_at : ℕ → ℕ → ℕ → Bool
  structure_at d k s = eqb s 0 || ((eqb d (root m) && eqb k 1) || structure_test m d k s)

  abbrev pub good_structure : ℕ → ℕ → Bool
  good_structure d k = structure_at d k (structure m d k)

  -- ---- table word j is d

  abbrev pub word_at : ℕ → ℕ → Bool
  word_at j d = eqb d 0 || (eqb (d / 32) j && partition_test m d)

  abbrev pub good_word : ℕ → Bool
  good_word j = word_at j (word m (header_words + j))
