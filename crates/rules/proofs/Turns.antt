-- The walk up the ancestors, turn by turn, as a loop takes it. Assumes nothing.
use mathlib.Core.Path.{◌≡◌, refl, ap}
use mathlib.Core.Logic.{◌≢◌}
use mathlib.Core.List.{List}
use Prim.Native.Nat.{ℕ, zero, suc, ◌-◌, ◌<◌}
use native.Mathlib.Nat.{not-suc-le-zero}
use native.Mathlib.Omega.{arith}
use borrow.Author.Tests.{eq-eqb, ne_eqb}
use Rattle.memory.specs.Geometry.{page_of}
use Rattle.memory.specs.Entry.{entry, rights}
use Rattle.memory.specs.Partition.{parent, above, mapping, set_mapping}
use Rattle.rules.specs.Moves.{mark}

pub mark-none : (b a : ℕ) (m : List ℕ) (d v : ℕ) → mark b 0 a m d v ≡ m
unfolding mark
mark-none b a m d v = refl

module _ (b a : ℕ) (m : List ℕ) (d v : ℕ) where
  -- the caller's word marked, one turn
  abbrev pub marking : List ℕ
  marking = set_mapping b m d v (entry b (page_of b (mapping b m d v)) a (rights (mapping b m d v)))

  pub mark-root : (n : ℕ) → 0 < n → parent b m d ≡ 0 → mark b n a m d v ≡ marking
  unfolding mark
  mark-root zero h e = absurd (not-suc-le-zero h)
  mark-root (suc n) h e = simp (eq-eqb _ _ e)

  pub mark-up : (n : ℕ) → 0 < n → parent b m d ≢ 0 → mark b n a m d v ≡ mark b (n - 1) a marking (parent b m d) (above b m d v)
  unfolding mark
  mark-up zero h ne = absurd (not-suc-le-zero h)
  mark-up (suc n) h ne =
      let e : n ≡ suc n - 1 = omega arith in
      simp (ne_eqb _ _ ne) (ap (λ (k : ℕ). mark b k a marking (parent b m d) (above b m d v)) e)
