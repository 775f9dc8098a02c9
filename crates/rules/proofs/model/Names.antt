-- The definitions of the crates memory and rules, said with the names of this crate, where a virtual page is a number and not an address.
use mathlib.Core.Path.{◌≡◌, refl, ap, ◌∙◌}
use mathlib.Core.Logic.{◌≢◌}
use mathlib.Core.Bool.{Bool, true, false, not, ◌||◌, true≢false}
use mathlib.Core.List.{List}
use Prim.Native.Nat.{ℕ, ◌+◌, ◌*◌, ◌/◌, ◌%◌, ◌<◌}
use native.Mathlib.Nat.{div-add-mod', zero-mul}
use native.Mathlib.Omega.{arith}
use borrow.Author.Tests.{ltb-false, leb-false, eqb-true, not-false}
use lib.Dec.{leb, ltb, eqb}
use Rattle.memory.specs.Geometry.{page_bytes, address_end}
use Rattle.memory.specs.Partition
use Rattle.memory.proofs.Geometry.{bytes_pos, directory_index-lt}
use Rattle.rules.specs.Conditions.{bad_page}
use Rattle.rules.proofs.model.Words.{W, addr, page_of, word, idx}
use Rattle.rules.proofs.model.Abs.{pt, s1}
use Rattle.rules.proofs.model.Read.{root_page, table_at, entry_at}

module _ (b : ℕ) (m : List ℕ) where
  pub list-is : (d : ℕ) → Partition.list b m d ≡ page_of b (word b m d 9)
  unfolding page_of word
  list-is d = refl

  module _ (d v : ℕ) where
    pub table_for-is : Partition.table_for b m d v ≡ table_at b m pt d (page_of b v)
    unfolding table_at root_page page_of
    table_for-is = refl

    pub mapping-is : Partition.mapping b m d v ≡ entry_at b m pt d (page_of b v)
    unfolding entry_at root_page page_of
    mapping-is = refl

    pub lent_is : Partition.lent b m d v ≡ entry_at b m s1 d (page_of b v)
    unfolding entry_at root_page page_of
    lent_is = refl

-- ---- an argument that is not refused

false_or : (s t : Bool) → (s || t) ≡ false → (s ≡ false) × (t ≡ false)
false_or true t e = absurd (true≢false e)
false_or false t e = (refl, e)

-- a is the address of a virtual page that is not page 0
pub record PageAddress (b a : ℕ) : Type 0 where
  pub is : addr b (page_of b a) ≡ a
  pub fits : idx b (page_of b a) < W b
  pub some : page_of b a ≢ 0

pub good-page : (b a : ℕ) → bad_page b a ≡ false → PageAddress b a
unfolding addr page_of idx W
good-page b a e =
    let x = false_or (leb (address_end b) a || ltb a (page_bytes b)) (not (eqb (a % page_bytes b) 0)) e in
    let y = false_or (leb (address_end b) a) (ltb a (page_bytes b)) x.0 in
    let z : a % page_bytes b ≡ 0 = eqb-true _ _ (not-false _ x.1) in
    let w : a / page_bytes b * page_bytes b + a % page_bytes b ≡ a = div-add-mod' a (page_bytes b) in
    record {
      is = omega arith;
      fits = directory_index-lt b a (leb-false (address_end b) a y.0);
      some = λ q. omega (arith, ltb-false a (page_bytes b) y.1, ap (λ (k : ℕ). k * page_bytes b) q ∙ zero-mul (page_bytes b), bytes_pos b);
    }
