-- Which numbers entries, structures and slots have, which lengths are permitted, and that the table has a word for each partition. Assumes nothing.
use mathlib.Core.Path.{◌≡◌, refl}
use mathlib.Core.List.{List}
use mathlib.Core.Logic.{◌≢◌, ◌↔◌}
use mathlib.Core.Bool.{Bool, true, false, cond, ◌&&◌}
use Prim.Native.Nat.{ℕ, ◌+◌, ◌*◌, ◌/◌, ◌≤◌, ◌<◌}
use native.Mathlib.Omega.{arith}
use lib.Dec.{leb}
use lib.ListN.{length}
use Rattle.walk.specs.Lists.{count}
use Rattle.walk.specs.Reflect.{Tells, via, both, eq?, le?}
use Rattle.walk.specs.Finite.{from, from_in, in_from}
use Rattle.block_memory.specs.Geometry.{kib, least_kib, most_kib, permitted, table_words}
use Rattle.block_memory.specs.Partition.{Partition, entry, structure, Has}
use Rattle.block_memory.specs.Sound.{Sound}

pub range : (n i x : ℕ) → (0 < count x (from n i)) ↔ ((i ≤ x) × (x < i + n))
range n i x = (from_in n i x, λ (a, b). in_from n i x a b)

-- what stands under a test is read only where the test holds
guarded : (t : Bool) (x : ℕ) → cond t x 0 ≢ 0 → t ≡ true
guarded true x h = refl
guarded false x h = absurd (h refl)

module _ (m : List ℕ) (d : ℕ) where
  pub entry-range : (e : ℕ) → entry m d e ≢ 0 → (1 ≤ e) × (e < 1 + 8)
  unfolding entry
  entry-range e h = let t = (both {P = 1 ≤ e} {Q = e ≤ 8} le? le?).0 (guarded (leb 1 e && leb e 8) _ h) in (t.0, omega (arith, t.1))

  pub structure-range : (k : ℕ) → structure m d k ≢ 0 → (1 ≤ k) × (k < 1 + 16)
  unfolding structure
  structure-range k h = let t = (both {P = 1 ≤ k} {Q = k ≤ 16} le? le?).0 (guarded (leb 1 k && leb k 16) _ h) in (t.0, omega (arith, t.1))

  pub has-range : (n : ℕ) → Has m d n → (8 ≤ n) × (n < 8 + 128)
  has-range n h = let t = structure-range (n / 8) h in (omega (arith, t.0), omega (arith, t.1))

-- "W = 256K with K from 16 to 64"
pub record Permitted (w : ℕ) : Type 0 where
  pub whole : w / kib * kib ≡ w
  pub least : least_kib ≤ w / kib
  pub most : w / kib ≤ most_kib

pub permitted? : (w : ℕ) → Tells (permitted w) (Permitted w)
unfolding permitted
permitted? w = via (both (both eq? le?) le?) (λ ((a, b), c). record { whole = a; least = b; most = c }) (λ p. ((p.whole, p.least), p.most))

pub permitted-now : (m : List ℕ) → Sound m → Permitted (length m)
permitted-now m s = (permitted? (length m)).0 s.header.permits

-- the table has a word for each partition
pub table-has : (m : List ℕ) → Permitted (length m) → (d : ℕ) → Partition m d → d / 32 < table_words (length m)
table-has m p d h = omega (arith, p.whole, h.inside)
