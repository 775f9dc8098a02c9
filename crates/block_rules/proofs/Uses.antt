-- A block whose use is known: of sentence 7 it owes only what that use asks. Assumes nothing.
use mathlib.Core.Path.{◌≡◌}
use mathlib.Core.List.{List}
use Prim.Native.Nat.{ℕ}
use native.Mathlib.Omega.{arith}
use Rattle.block_memory.specs.Partition.{used}
use Rattle.block_memory.specs.Sound.{InHand, Lent, HoldsDescriptor, HoldsStructure, Use}

module _ {m : List ℕ} {d n : ℕ} where
  pub in-hand : used m d n ≡ 1 → InHand m d n → Use m d n
  in-hand e h = record { use1 = λ z. h; use2 = λ z. absurd (omega arith); use3 = λ z. absurd (omega arith); use4 = λ z. absurd (omega arith) }

  pub is-lent : used m d n ≡ 2 → Lent m d n → Use m d n
  is-lent e h = record { use1 = λ z. absurd (omega arith); use2 = λ z. h; use3 = λ z. absurd (omega arith); use4 = λ z. absurd (omega arith) }

  pub holds-descriptor : used m d n ≡ 3 → HoldsDescriptor m d n → Use m d n
  holds-descriptor e h = record { use1 = λ z. absurd (omega arith); use2 = λ z. absurd (omega arith); use3 = λ z. h; use4 = λ z. absurd (omega arith) }

  pub holds-structure : used m d n ≡ 4 → HoldsStructure m d n → Use m d n
  holds-structure e h = record { use1 = λ z. absurd (omega arith); use2 = λ z. absurd (omega arith); use3 = λ z. absurd (omega arith); use4 = λ z. h }
