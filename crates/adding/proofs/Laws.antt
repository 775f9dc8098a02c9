-- What add_vaddr leaves, in the terms of the functions that it is made of. Assumes nothing.
use mathlib.Core.Path.{◌≡◌}
use mathlib.Core.List.{List}
use Prim.Native.Nat.{ℕ, ◌<◌}
use native.Mathlib.Omega.{arith}
use borrow.Author.Tests.{leb-false}
use Rattle.memory.specs.Geometry.{page_of}
use Rattle.memory.specs.Entry.{entry}
use Rattle.memory.specs.Partition.{current, mapping, set_mapping, set_above, set_lent}
use Rattle.rules.specs.Call.{add_vaddr}
use Rattle.rules.specs.Conditions.{child}
use Rattle.rules.specs.Refusals.{refusals, refusal}
use Rattle.rules.specs.Effects.{add, effect}
use Rattle.rules.proofs.Rows.{passed}

module _ (b : ℕ) (m : List ℕ) (p c t r : ℕ) where
  -- no number above 7 was given
  pub add-rights : refusal b m (add_vaddr p c t r) ≡ 0 → r < 8
  unfolding refusals
  add-rights e = omega (arith, leb-false 6 r (passed (refusals b m (add_vaddr p c t r)) e).1.1.0)

  pub add_is : {d k w x : ℕ} {m₁ m₂ m₃ : List ℕ} → d ≡ current b m → k ≡ child b m c → w ≡ mapping b m d p → x ≡ entry b (page_of b w) 1 r
      → m₁ ≡ set_mapping b m k t x → m₂ ≡ set_above b m₁ k t p → m₃ ≡ set_lent b m₂ d p c → m₃ ≡ effect b m (add_vaddr p c t r)
  unfolding effect add
  add_is hd hk hw hx h₁ h₂ h₃ = rw (h₃, h₂, h₁, hx, hw, hk, hd)
