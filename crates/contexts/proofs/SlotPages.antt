-- Where a slot page stands, in the code's terms. Assumes nothing.
use mathlib.Core.Path.{◌≡◌, sym, ap, ◌∙◌}
use mathlib.Core.Logic.{◌≢◌}
use mathlib.Core.List.{List}
use Prim.Native.Nat.{ℕ, suc, ◌+◌, ◌-◌, ◌*◌, ◌%◌, ◌^◌, ◌≤◌, ◌<◌}
use native.Mathlib.Nat.{suc-mul}
use native.Mathlib.Omega.{arith}
use borrow.Author.Tests.{eq-eqb, ne_eqb}
use lib.Pow.{pow_pos, pow-add}
use Rattle.memory.specs.Geometry.{page_words, page_bytes, address_end, address, page_of, flat_pages}
use Rattle.memory.specs.Partition.{pages}
use Rattle.memory.specs.Contexts.{slots_at}
use Rattle.memory.proofs.Geometry.{page-address, address_end-is}
use Rattle.pages.proofs.Laws.{one_bit}

-- the last address of a page is that of the last virtual page
last-page : (b : ℕ) → page_of b (address_end b - page_bytes b) ≡ 2 ^ (2 * b) - 1
last-page b = ap (page_of b) last ∙ page-address b (x - 1)
  where
    x : ℕ
    x = 2 ^ (2 * b)

    square : page_words b * page_words b ≡ x
    square = let e : 2 * b ≡ b + b = omega arith in sym (ap (λ (y : ℕ). 2 ^ y) e ∙ pow-add 2 b b)

    last : address_end b - page_bytes b ≡ address b (x - 1)
    last =
        let p : 0 < x = pow_pos (2 * b) in
        let s : x ≡ suc (x - 1) = omega arith in
        let e : address_end b ≡ suc (x - 1) * page_bytes b = address_end-is b ∙ ap (λ (y : ℕ). y * page_bytes b) (square ∙ s) in
        omega (arith, e, suc-mul (x - 1) (page_bytes b))

module _ (b : ℕ) (m : List ℕ) (d : ℕ) where
  pub slots-root : {n v : ℕ} → d ≡ 1 → n ≡ pages b m → v ≡ flat_pages b n → v ≡ page_of b (slots_at b m d)
  unfolding slots_at
  slots-root e p q = rw (eq-eqb d 1 e) (q ∙ ap (flat_pages b) p ∙ sym (page-address b (flat_pages b (pages b m))))

  pub slots-other : b ≤ 10 → d ≢ 1 → 1 * 2 ^ (2 * b) % 4294967296 - 1 ≡ page_of b (slots_at b m d)
  unfolding slots_at
  slots-other l n = rw (ne_eqb d 1 n) (ap (λ (x : ℕ). x - 1) (one_bit (2 * b) (omega arith)) ∙ sym (last-page b))
