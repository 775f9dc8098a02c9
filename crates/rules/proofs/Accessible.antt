-- To set a page accessible that a partition has accessible changes no word, on sound memory. Assumes that a page has room for a list of ten threes.
use mathlib.Core.Path.{◌≡◌, refl, sym, ap, ap₂, ◌∙◌}
use mathlib.Core.List.{List}
use mathlib.Core.Logic.{◌≢◌}
use mathlib.Core.Bool.{Bool, true, false, cond}
use Prim.Native.Nat.{ℕ, zero, suc, ◌≤◌}
use native.Mathlib.Omega.{arith}
use borrow.Author.Tests.{eq-eqb}
use lib.Dec.{eqb}
use lib.Seq.{set-get_or}
use Rattle.memory.specs.Edition.{edition, width}
use Rattle.memory.specs.Geometry.{page_words, page_of, table_index, most_depth}
use Rattle.memory.specs.Words.{index, word, put}
use Rattle.memory.specs.Entry.{entry, accessible, rights}
use Rattle.memory.specs.Partition.{directory, parent, table_at, table_word, put_table_word, mapping, above, set_mapping}
use Rattle.memory.specs.Tree.{Has, InTree, root, child}
use Rattle.memory.specs.Sound.{Sound}
use Rattle.memory.proofs.Geometry.{page-address}
use Rattle.memory.proofs.Editions.{wide_of, edition-known}
use Rattle.memory.proofs.Widths.{words-least}
use Rattle.soundness.proofs.Root.{root-parent}
use Rattle.soundness.proofs.Whole.{above-has}
use Rattle.rules.specs.Moves.{mark}
use Rattle.rules.specs.Deleted.{AccessibleAlready}

-- a table word is written as it is
same_word : (b : ℕ) (m : List ℕ) (r k : ℕ) → put_table_word b m r k (table_word b m r k) ≡ m
unfolding put_table_word table_word
same_word b m r k = go (eqb (table_at b m r k) 0) (page_of b (table_at b m r k)) (table_index b k)
  where
    go : (t : Bool) (p i : ℕ) → cond t m (put b m p i (cond t 0 (word b m p i))) ≡ m
    go true p i = refl
    go false p i = set-get_or m (index b p i) 0

either : (t : Bool) {x y m : List ℕ} → x ≡ m → y ≡ m → cond t x y ≡ m
either true e f = e
either false e f = f

module _ (b : ℕ) (m : List ℕ) (s : Sound b m) (big : 61 ≤ page_words b) where
  -- the word with its bit set
  abbrev opened : ℕ → ℕ → ℕ
  opened d v = entry b (page_of b (mapping b m d v)) 1 (rights (mapping b m d v))

  bit-set : {k d : ℕ} → InTree b m k d → (v : ℕ) → Has b m d v → accessible (mapping b m d v) ≡ 1 → set_mapping b m d v (opened d v) ≡ m
  bit-set {k} {d} t v h a =
      let w = mapping b m d v in
      let n : w ≢ 0 = λ e. absurd (omega (arith, sym a ∙ ap accessible e)) in
      ap (set_mapping b m d v) (ap (λ (x : ℕ). entry b (page_of b w) x (rights w)) (sym a) ∙ (((s.forms k d t).tables v h).table_word n).0)
      ∙ same_word b m (directory b m d) (page_of b v)

  pub all_set : (n : ℕ) {k d : ℕ} → InTree b m k d → (v : ℕ) → Has b m d v → accessible (mapping b m d v) ≡ 1 → mark b n 1 m d v ≡ m
  unfolding mark
  all_set zero t v h a = refl
  all_set (suc n) root v h a =
      ap (λ (t : Bool). cond t (set_mapping b m 1 v (opened 1 v)) (mark b n 1 (set_mapping b m 1 v (opened 1 v)) (parent b m 1) (above b m 1 v)))
      (eq-eqb _ 0 (root-parent b m s.root_as_formatted big))
      ∙ bit-set root v h a
  all_set (suc n) (child {k = k} {d = d} {v = u} {c = c} t x) v h a =
      let q : mapping b m c v ≢ 0 = λ e. absurd (omega (arith, sym a ∙ ap accessible e)) in
      let up = (s.lending k d t).down u c x v h q in
      let d-is : parent b m c ≡ d = ap (page_of b) ((s.children k d t).right u c x).parent ∙ page-address b d in
      either (eqb (parent b m c) 0) (bit-set (child t x) v h a)
      (ap₂ (λ (y : List ℕ) (e : ℕ). mark b n 1 y e (above b m c v)) (bit-set (child t x) v h a) d-is
      ∙ all_set n t (above b m c v) (above-has b m s t x v h q) (sym up.bit ∙ a))

pub accessible_already : AccessibleAlready
accessible_already m s k d v t h a =
    all_set (width m) m s (omega (arith, words-least (width m) (wide_of (edition m) (edition-known m)))) (suc most_depth) t v h a
