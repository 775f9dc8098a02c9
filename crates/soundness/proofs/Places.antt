-- The virtual pages for which a partition has tables, as a list: each once, and no other. Assumes nothing.
use mathlib.Core.Path.{◌≡◌, refl, sym, ap, ◌∙◌, subst}
use mathlib.Core.List.{List, []}
use mathlib.Core.Bool.{Bool, true, false, cond}
use mathlib.Core.Logic.{◌≢◌, ◌↔◌}
use Prim.Native.Nat.{ℕ, ◌+◌, ◌*◌, ◌≤◌, ◌<◌}
use native.Mathlib.Omega.{arith}
use native.Mathlib.Nat.{mod-lt, div-add-mod'}
use lib.Dec.{eqb}
use lib.Pow.{pow_pos, high}
use borrow.Author.Tests.{eqb-false, ne_eqb}
use Rattle.walk.specs.Lists.{count, count_nil, flat, flat_in, flat_ge, flat-once}
use Rattle.memory.specs.Geometry.{page_words, address_end, address, page_of, directory_index, table_index}
use Rattle.memory.specs.Words.{word}
use Rattle.memory.specs.Partition.{directory}
use Rattle.walk.specs.Finite.{from, below, from-once, image, image_in, in_image, image-once}
use Rattle.memory.specs.Tree.{Has}
use Rattle.memory.proofs.Geometry.{page-address, address_inj, address-lt, directory_index-lt}
use Rattle.memory.specs.Counts.{row, tabled}

-- the directory index of a page's address, and the address put together again
address-index : (b i j : ℕ) → j < page_words b → directory_index b (page_of b (address b (i * page_words b + j))) ≡ i
address-index b i j h = ap (directory_index b) (page-address b (i * page_words b + j)) ∙ high i b h

rejoin : (b v : ℕ) → address b (page_of b v) ≡ v → address b (directory_index b (page_of b v) * page_words b + table_index b (page_of b v)) ≡ v
rejoin b v e = ap (address b) (div-add-mod' (page_of b v) (page_words b)) ∙ e

module _ (b : ℕ) (m : List ℕ) (d : ℕ) where
  row_in : (i v : ℕ) → 0 < count v (row b m d i) → (word b m (directory b m d) i ≢ 0) × ((j : ℕ) × (j < page_words b) × (address b (i * page_words b + j) ≡ v))
  unfolding row
  row_in i v h = go (eqb (word b m (directory b m d) i) 0) refl
    where
      go : (t : Bool) → eqb (word b m (directory b m d) i) 0 ≡ t → (word b m (directory b m d) i ≢ 0) × ((j : ℕ) × (j < page_words b) × (address b (i * page_words b + j) ≡ v))
      go true e = absurd (omega (arith, count_nil v, rw e at h))
      go false e =
          let (j, a, q) = image_in (λ j. address b (i * page_words b + j)) v (from (page_words b) 0) (rw e at h) in
          (eqb-false _ _ e, (j, (below (page_words b) j).0 a, q))

  in_row : (i j : ℕ) → word b m (directory b m d) i ≢ 0 → j < page_words b → 0 < count (address b (i * page_words b + j)) (row b m d i)
  unfolding row
  in_row i j n h = rw (ne_eqb (word b m (directory b m d) i) 0 n) (in_image (λ j. address b (i * page_words b + j)) j (from (page_words b) 0) ((below (page_words b) j).1 h))

  row-once : (i v : ℕ) → count v (row b m d i) ≤ 1
  unfolding row
  row-once i v = go (eqb (word b m (directory b m d) i) 0)
    where
      go : (t : Bool) → count v (cond t [] (image (λ j. address b (i * page_words b + j)) (from (page_words b) 0))) ≤ 1
      go true = omega (arith, count_nil v)
      go false = image-once (λ j. address b (i * page_words b + j)) v (from (page_words b) 0) (λ x. from-once (page_words b) 0 x)
          (λ x y p q e f. let s : i * page_words b + x ≡ i * page_words b + y = address_inj b (i * page_words b + x) (i * page_words b + y) (e ∙ sym f) in omega (arith, s))

  pub tabled-is : (v : ℕ) → (0 < count v (tabled b m d)) ↔ Has b m d v
  unfolding tabled
  tabled-is v = (there, back)
    where
      there : 0 < count v (flat (row b m d) (from (page_words b) 0)) → Has b m d v
      there h =
          let (i, a, r) = flat_in (row b m d) v (from (page_words b) 0) h in
          let (n, (j, l, e)) = row_in i v r in
          let k : i < page_words b = (below (page_words b) i).0 a in
          let q : directory_index b (page_of b v) ≡ i = ap (λ (x : ℕ). directory_index b (page_of b x)) (sym e) ∙ address-index b i j l in
          record {
            virtual = (ap (address b) (ap (page_of b) (sym e) ∙ page-address b (i * page_words b + j)) ∙ e, subst (λ (x : ℕ). x < address_end b) e (address-lt b i j k l));
            table = λ z. n (ap (word b m (directory b m d)) (sym q) ∙ z);
          }

      back : Has b m d v → 0 < count v (flat (row b m d) (from (page_words b) 0))
      back h =
          let i = directory_index b (page_of b v) in
          let l : table_index b (page_of b v) < page_words b = mod-lt (page_of b v) (pow_pos b) in
          let r : 0 < count v (row b m d i) = subst (λ (x : ℕ). 0 < count x (row b m d i)) (rejoin b v h.virtual.0) (in_row i (table_index b (page_of b v)) h.table l) in
          omega (arith, flat_ge (row b m d) v (from (page_words b) 0) i ((below (page_words b) i).1 (directory_index-lt b v h.virtual.1)), r)

  pub tabled-once : (v : ℕ) → count v (tabled b m d) ≤ 1
  unfolding tabled
  tabled-once v = flat-once (row b m d) v (from (page_words b) 0) (λ i. from-once (page_words b) 0 i) (λ i h. row-once i v) same
    where
      index : (i : ℕ) → 0 < count v (row b m d i) → directory_index b (page_of b v) ≡ i
      index i h = let (n, (j, l, e)) = row_in i v h in ap (λ (x : ℕ). directory_index b (page_of b x)) (sym e) ∙ address-index b i j l

      same : (i k : ℕ) → 0 < count i (from (page_words b) 0) → 0 < count k (from (page_words b) 0) → 0 < count v (row b m d i) → 0 < count v (row b m d k) → i ≡ k
      same i k _ _ p q = sym (index i p) ∙ index k q
