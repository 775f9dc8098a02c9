-- Sound memory: the child of a number, what a lent block names in the child, and the partition that a slot's word 4 names. Assumes nothing.
use mathlib.Core.Path.{◌≡◌, refl, sym, ap, ap₂, ◌∙◌, subst}
use mathlib.Core.List.{List}
use mathlib.Core.Logic.{◌≢◌}
use Prim.Native.Nat.{ℕ, ◌+◌}
use native.Mathlib.Omega.{arith}
use native.Mathlib.Decide.{ℕ_discrete}
use borrow.Author.Tests.{eq-eqb, ne_eqb}
use Rattle.block_memory.specs.Partition.{root, Partition, parent, number, level, start, end, used, child, link, place, named}
use Rattle.block_memory.specs.Bytes.{Live}
use Rattle.block_memory.specs.Sound.{Sound, source_end}
use Rattle.block_soundness.proofs.Sources.{source-start, source-end}
use Rattle.block_soundness.proofs.Blocks.{used_as, block, number-some, live}

-- c is the number of the child t of d
pub record ChildOf (m : List ℕ) (d c t : ℕ) : Type 0 where
  pub listed : Partition m t
  pub parent_word : parent m t ≡ d
  pub number_word : number m t ≡ c
  pub not_root : t ≢ root m
  pub not_self : t ≢ d
  pub below : level m t ≡ level m d + 1

-- block n of d is lent: t is the child that has it, f its first piece there
pub record Lends (m : List ℕ) (d n t f : ℕ) : Type 0 where
  pub kid : ChildOf m d (child m d n) t
  pub first : Live m t f
  pub starts : start m t f ≡ start m d n
  pub ends : source_end m t f ≡ end m d n

module _ (m : List ℕ) (s : Sound m) where
  pub child-of : (d c : ℕ) → Partition m d → used m d c ≡ 3 → ChildOf m d c (place m d c)
  child-of d c p e =
      let h = (block m s (used_as p e)).uses.use3 e in
      let top = ((s.descriptors (root m) s.table.root_listed).of_root refl).no_parent in
      let r : place m d c ≢ root m = λ z. omega (arith, p.some, h.parent_word, ap (parent m) z, top) in
      let w = ((s.descriptors (place m d c) h.listed).of_other r).below ∙ ap (λ (x : ℕ). level m x + 1) h.parent_word in
      record {
        listed = h.listed;
        parent_word = h.parent_word;
        number_word = h.number_word;
        not_root = r;
        not_self = λ z. omega (arith, w, ap (level m) z);
        below = w;
      }

  pub lends : {d n : ℕ} → Live m d n → used m d n ≡ 2 → Lends m d n (place m d (child m d n)) (link m d n)
  lends {d} {n} l z =
      let u = (block m s l).uses.use2 z in
      let t = place m d (child m d n) in
      let f = link m d n in
      let kid = child-of d (child m d n) l.partition u.to_child in
      let first : Live m t f = live m s t f 6 kid.listed (omega arith) (λ w. omega (arith, w, u.from_this, number-some m s l)) in
      record {
        kid = kid;
        first = first;
        starts =
            ((block m s first).pieces.first u.first).0
            ∙ source-start m t f kid.not_root ∙ ap₂ (λ (y w : ℕ). start m y w) kid.parent_word u.from_this;
        ends = source-end m t f kid.not_root ∙ ap₂ (λ (y w : ℕ). end m y w) kid.parent_word u.from_this;
      }

  -- ---- the partition that c names: d itself where c is 0, else the child

  pub named-own : (d c : ℕ) → c ≡ 0 → named m d c ≡ d
  named-own d c e = rw (eq-eqb c 0 e)

  pub named-child : (d c : ℕ) → c ≢ 0 → named m d c ≡ place m d c
  named-child d c h = rw (ne_eqb c 0 h)

  pub named-partition : (d c : ℕ) → Partition m d → (c ≢ 0 → used m d c ≡ 3) → Partition m (named m d c)
  named-partition d c p h = elim (ℕ_discrete c 0) [
    | yes z ↦ subst (Partition m) (sym (named-own d c z)) p
    | no z ↦ subst (Partition m) (sym (named-child d c z)) (child-of d c p (h z)).listed
  ]
