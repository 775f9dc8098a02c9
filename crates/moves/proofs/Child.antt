-- The child at an address that is not refused: it is in the tree of sound memory, and its list has ten threes at most. Assumes nothing.
use mathlib.Core.Path.{◌≡◌, refl}
use mathlib.Core.Bool.{true, false, not, ◌||◌}
use mathlib.Core.List.{List}
use Prim.Native.Nat.{ℕ, suc, ◌+◌, ◌*◌, ◌/◌, ◌%◌, ◌≤◌, ◌<◌}
use native.Mathlib.Nat.{div-add-mod'}
use native.Mathlib.Omega.{arith}
use borrow.Author.Tests.{ltb-false, leb-false, eqb-true, not-false}
use lib.Dec.{leb, ltb, eqb}
use Rattle.memory.specs.Geometry.{page_bytes, address_end, page_of, directory_index}
use Rattle.memory.specs.Words.{word}
use Rattle.memory.specs.Partition.{current, shadow1, list, mapping, lent}
use Rattle.memory.specs.Tree.{Virtual, Has, Child, InTree}
use Rattle.memory.specs.Sound.{Sound}
use Rattle.memory.proofs.Geometry.{bytes_pos, directory_index-lt}
use Rattle.memory.proofs.Tables.{table_word-absent}
use Rattle.soundness.specs.Test.{sound_test}
use Rattle.soundness.proofs.Whole.{test-sound}
use Rattle.rules.specs.Conditions.{bad_page, no_child, child}
use Rattle.rules.proofs.steps.Checks.{false_or}

module _ (b c : ℕ) (e : bad_page b c ≡ false) where
  pub good-virtual : Virtual b c
  good-virtual =
      let x = false_or (leb (address_end b) c || ltb c (page_bytes b)) (not (eqb (c % page_bytes b) 0)) e in
      let y = false_or (leb (address_end b) c) (ltb c (page_bytes b)) x.0 in
      let z : c % page_bytes b ≡ 0 = eqb-true _ _ (not-false _ x.1) in
      let w : c / page_bytes b * page_bytes b + c % page_bytes b ≡ c = div-add-mod' c (page_bytes b) in
      (omega arith, leb-false (address_end b) c y.0)

  pub good-some : 0 < c
  good-some =
      let x = false_or (leb (address_end b) c || ltb c (page_bytes b)) (not (eqb (c % page_bytes b) 0)) e in
      let y = false_or (leb (address_end b) c) (ltb c (page_bytes b)) x.0 in
      omega (arith, ltb-false c (page_bytes b) y.1, bytes_pos b)

-- what stands at c, a page address whose shadow 1 word is 1, is a child
module _ (b : ℕ) (m : List ℕ) (s : Sound b m) (k d : ℕ) (t : InTree b m k d) (c : ℕ) (v : Virtual b c) (e : lent b m d c ≡ 1) where
  has : Has b m d c
  has =
      let f = (s.forms k d t).directory (directory_index b (page_of b c)) (directory_index-lt b c v.1) in
      record {
        virtual = v;
        table = λ z. let n : lent b m d c ≡ 0 = table_word-absent b m (shadow1 b m d) (page_of b c) (f.absent z).0 in omega arith;
      }

  pub is-child : Child b m d c (page_of b (mapping b m d c))
  is-child = record { has = has; present = (s.children k d t).leads c has e; mark = e; page = refl }

module _ (b : ℕ) (m : List ℕ) (c : ℕ) (good : sound_test b m ≡ true) (place : bad_page b c ≡ false) (mark : no_child b m c ≡ false) where
  pub in_tree : (k : ℕ) × InTree b m k (child b m c)
  in_tree =
      let s = test-sound b m good in
      let (k, t) = s.current_in in
      (suc k, InTree.child t (is-child b m s k (current b m) t c (good-virtual b c place) (eqb-true (lent b m (current b m) c) 1 (not-false _ mark))))

  pub few-listed : word b m (list b m (child b m c)) 0 ≤ 61
  few-listed =
      let (k, t) = in_tree in
      let f = ((test-sound b m good).forms k (child b m c) t).list in
      omega (arith, f.free, f.few)
