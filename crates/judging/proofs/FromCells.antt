-- What the quick test passes meets the sentences: cell by cell, and two of them by the counts. Assumes that a page has room for a list of ten threes.
use mathlib.Core.Path.{◌≡◌, sym, ap, ◌∙◌, subst}
use mathlib.Core.List.{List}
use mathlib.Core.Logic.{◌≢◌}
use Prim.Native.Nat.{ℕ, ◌≤◌, ◌<◌}
use native.Mathlib.Omega.{arith}
use native.Mathlib.Decide.{ℕ_discrete}
use lib.Pow.{pow_pos}
use Rattle.walk.specs.Lists.{count}
use Rattle.walk.specs.Tree as Tr
use Rattle.walk.specs.Walk as W
use Rattle.memory.specs.Geometry.{page_words, address, page_of, most_depth}
use Rattle.memory.specs.Entry.{rights}
use Rattle.memory.specs.Partition.{pages, mapping, lent}
use Rattle.memory.specs.Tree.{Virtual, Has, Child, InTree, child}
use Rattle.memory.specs.Counts as C
use Rattle.memory.specs.Sound as S
use Rattle.memory.proofs.Geometry.{page-address}
use Rattle.memory.proofs.Entry.{below_both}
use Rattle.soundness.specs.Test as T
use Rattle.soundness.proofs.Agree.{child-page, Partition, ok?}
use Rattle.soundness.proofs.Trees.{tree-to, to-tree, to_kids}
use Rattle.soundness.proofs.Whole.{Good}
use Rattle.judging.specs.Quick as Q
use Rattle.judging.proofs.Cells.{ChildCell, Cell, Judged, partition?}
use Rattle.judging.proofs.Local.{Local, placed}
use Rattle.judging.proofs.KernelCount.{count-others}
use Rattle.judging.proofs.LentOnce.{Counts, count-back}

virtual-zero : (b : ℕ) → Virtual b 0
virtual-zero b =
    let e : page_of b 0 ≡ 0 = ap (page_of b) (omega arith) ∙ page-address b 0 in
    (ap (address b) e ∙ omega arith, pow_pos _)

module _ (b : ℕ) (m : List ℕ) where
  abbrev pub Quick : Type 0
  Quick = W.Good (C.children b m) (T.own b m) (Q.partition_test b m) most_depth (pages b m) 1

  cell-form : (d v : ℕ) → Cell b m d v → S.TableForm b m d v
  cell-form d v c = record {
    table_word = λ n. (c.mapped n).page;
    shadow1_word = λ n. elim (ℕ_discrete (lent b m d v) 0) [
      | yes z ↦ subst (Virtual b) (sym z) (virtual-zero b)
      | no f ↦ ((c.mapped (λ z. f (c.absent z).0)).named f n).has.virtual
    ];
    shadow2_word = elim (ℕ_discrete (mapping b m d v) 0) [
      | yes z ↦ subst (Virtual b) (sym (c.absent z).1) (virtual-zero b)
      | no n ↦ (c.mapped n).from
    ];
  }

  module _ (h : S.Header b m) (r : S.Root b m) (g : Quick) where
    judged : {k d : ℕ} → InTree b m k d → Judged b m d
    judged {k} {d} t = (partition? b m d).0 (g.fine k d (tree-to b m t))

    child-cell : {k d v c : ℕ} → InTree b m k d → Child b m d v c → ChildCell b m d v c
    child-cell {k} {d} {v} t a = subst (ChildCell b m d v) (child-page b m a) ((((judged t).cells v a.has).mapped a.present).child a.mark)

    -- the root is no child
    child-below : {k d v c : ℕ} → InTree b m k d → Child b m d v c → c ≢ 1
    child-below {k} {d} {v} {c} t a e =
        g.no-parent (Tr.spot_of (C.children b m) (C.children b m) 1 1 k d (tree-to b m t) (subst (λ (x : ℕ). 0 < count x (C.children b m d)) e (to_kids b m d v c a))).0

    forms : (k d : ℕ) → InTree b m k d → S.Forms b m d
    forms k d t = let j = judged t in record { descriptor = j.descriptor; directory = j.directory; list = j.list; tables = λ v i. cell-form d v (j.cells v i); none = j.none }

    children : (k d : ℕ) → InTree b m k d → S.Children b m d
    children k d t = record {
      leads = λ v i e z. omega (arith, (((judged t).cells v i).absent z).0);
      right = λ v c a. (child-cell t a).right;
    }

    down : {k d v c : ℕ} → InTree b m k d → Child b m d v c → (u : ℕ) → Has b m c u → mapping b m c u ≢ 0 → S.FromParent b m d v c u
    down {k} {d} {v} {c} t a u i n =
        (placed b m (child-cell t a).right (λ x y. S.FromParent b m x y c u)).0 ((((judged (child t a)).cells u i).mapped n).down (child-below t a)).1

    never_both_lem : {k d : ℕ} → InTree b m k d → d ≢ 1 → (v : ℕ) → Has b m d v → ¬ S.WriteAndExecute b m d v
    never_both_lem {k} {d} t n v i = elim (ℕ_discrete (mapping b m d v) 0) [
      | yes z ↦ below_both (mapping b m d v) (omega (arith, ap rights z))
      | no f ↦ ((((judged t).cells v i).mapped f).down n).0
    ]

    counts : (k d v c : ℕ) → InTree b m k d → Child b m d v c → Counts b m d v c
    counts k d v c t a n =
        (placed b m (child-cell t a).right (λ x y. Q.lent_count b m x y ≡ Q.mapped_count b m c)).0 ((judged (child t a)).lent (child-below t a) n)

    named : {k d : ℕ} → InTree b m k d → (v : ℕ) → Has b m d v → S.Lent b m d v → (c : ℕ) × Child b m d (lent b m d v) c
    named {k} {d} t v i (n, l) = (C.child_of b m d (lent b m d v), (((judged t).cells v i).mapped n).named (λ e. omega arith) (λ e. omega arith))

    local : Local b m
    local = record {
      header = h;
      root_as_formatted = r;
      forms = forms;
      children = children;
      down = down;
      named = named;
      shut = λ t a. (child-cell t a).shut;
      absent = λ t v i. ((judged t).cells v i).absent;
      found = g.found;
      same = g.same;
    }

    partition : 61 ≤ page_words b → {k d : ℕ} → InTree b m k d → Partition b m d
    partition big {k} {d} t = record {
      forms = forms k d t;
      threes = (judged t).threes;
      children = children k d t;
      lending = record { down = λ v c a. down t a; back = count-back b m local big counts t };
      kernel = record { shut = λ v c a. (child-cell t a).shut; others = count-others b m local t (judged t).shut };
      absent = λ v i. ((judged t).cells v i).absent;
      never_both = never_both_lem t;
    }

    pub quick_good : 61 ≤ page_words b → Good b m
    quick_good big = record {
      fine = λ k d t. (ok? b m d).1 (partition big (to-tree b m t));
      deep = g.deep;
      one_parent = g.one_parent;
      no-parent = g.no-parent;
      inside = g.inside;
      found = g.found;
      same = g.same;
    }
