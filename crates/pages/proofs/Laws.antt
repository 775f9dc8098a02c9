-- What a field of bits is, and what tests that are made one after the other come to. Assumes nothing.
use mathlib.Core.Path.{◌≡◌, ap, ◌∙◌}
use mathlib.Core.Logic.{◌≢◌}
use mathlib.Core.Bool.{true, false, not}
use mathlib.Core.List.{List}
use Prim.Native.Nat.{ℕ, ◌+◌, ◌-◌, ◌*◌, ◌/◌, ◌%◌, ◌^◌, ◌≤◌, ◌<◌}
use native.Mathlib.Nat.{div-add-mod'}
use native.Mathlib.Omega.{arith}
use borrow.Author.Tests.{eq-eqb, ne_eqb, le-leb, lt-leb, lt-ltb, le-ltb}
use lib.Dec.{eqb}
use lib.Bits.{bit_and, and_mask}
use lib.Pow.{shl_exact, shr-shr}
use Rattle.memory.specs.Geometry.{page_of, page_bytes, address_end}
use Rattle.memory.specs.Words.{start}
use Rattle.memory.specs.Entry.{accessible}
use Rattle.memory.specs.Partition.{mapping, lent, in_hand}
use Rattle.memory.proofs.Widths.{page_by_shift}
use Rattle.rules.specs.Conditions.{bad_address}

-- ---- a field of bits

pub one_bit : (n : ℕ) → n < 32 → 1 * 2 ^ n % 4294967296 ≡ 2 ^ n
one_bit n h = shl_exact 1 n 32 (omega arith) (omega arith) ∙ omega arith

pub low_field : (x n : ℕ) → n < 32 → bit_and x (1 * 2 ^ n % 4294967296 - 1) ≡ x % 2 ^ n
low_field x n h = ap (λ (y : ℕ). bit_and x (y - 1)) (one_bit n h) ∙ and_mask x n

-- the bits below a page are cut off
pub start_by_mask : (b w : ℕ) → w / 4 - w / 4 % 2 ^ b ≡ start b (page_of b w)
start_by_mask b w =
    let n : 2 + b ≡ b + 2 = omega arith in
    let e : w / 4 / 2 ^ b ≡ page_of b w = shr-shr w 2 b ∙ ap (λ (x : ℕ). w / 2 ^ x) n ∙ page_by_shift b w in
    let s : w / 4 / 2 ^ b * 2 ^ b ≡ start b (page_of b w) = ap (λ (x : ℕ). x * 2 ^ b) e in
    omega (arith, s, div-add-mod' (w / 4) (2 ^ b))

-- ---- a bad address

module _ (b unit a : ℕ) where
  pub bad-high : address_end b ≤ a → bad_address b unit a ≡ true
  bad-high h = simp (le-leb _ _ h)

  pub bad-low : a < address_end b → a < page_bytes b → bad_address b unit a ≡ true
  bad-low h k = simp (lt-leb _ _ h, lt-ltb _ _ k)

  pub bad-rest : a < address_end b → page_bytes b ≤ a → bad_address b unit a ≡ not (eqb (a % unit) 0)
  bad-rest h k = simp (lt-leb _ _ h, le-ltb _ _ k)

-- ---- a page in hand

module _ (b : ℕ) (m : List ℕ) (d v : ℕ) where
  pub hand-absent : mapping b m d v ≡ 0 → in_hand b m d v ≡ false
  hand-absent h = simp (eq-eqb _ _ h)

  pub hand-shut : mapping b m d v ≢ 0 → accessible (mapping b m d v) ≢ 1 → in_hand b m d v ≡ false
  hand-shut h k = simp (ne_eqb _ _ h, ne_eqb _ _ k)

  pub hand-rest : mapping b m d v ≢ 0 → accessible (mapping b m d v) ≡ 1 → in_hand b m d v ≡ eqb (lent b m d v) 0
  hand-rest h k = simp (ne_eqb _ _ h, eq-eqb _ _ k)
