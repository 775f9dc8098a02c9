-- Sound memory passes the quick test. Assumes that a page has room for a list of ten threes.
use mathlib.Core.Path.{◌≡◌, refl, sym, subst}
use mathlib.Core.List.{List}
use mathlib.Core.Logic.{◌≢◌}
use Prim.Native.Nat.{ℕ, suc, ◌≤◌}
use native.Mathlib.Omega.{arith}
use Rattle.memory.specs.Geometry.{page_words}
use Rattle.memory.specs.Words.{word}
use Rattle.memory.specs.Partition.{parent, mapping, lent}
use Rattle.memory.specs.Tree.{Has, Child, InTree, root, child}
use Rattle.memory.specs.Sound as S
use Rattle.soundness.proofs.Agree.{child-is, child-page}
use Rattle.soundness.proofs.Trees.{to-tree}
use Rattle.soundness.proofs.Whole.{sound-good}
use Rattle.judging.specs.Quick as Q
use Rattle.judging.proofs.Cells.{ChildCell, Cell, Judged, partition?}
use Rattle.judging.proofs.Local.{Local, placed}
use Rattle.judging.proofs.KernelCount.{others-count}
use Rattle.judging.proofs.LentOnce.{back_count}
use Rattle.judging.proofs.FromCells.{Quick}

module _ (b : ℕ) (m : List ℕ) (s : S.Sound b m) (big : 61 ≤ page_words b) where
  named : {k d : ℕ} → InTree b m k d → (v : ℕ) → Has b m d v → S.Lent b m d v → (c : ℕ) × Child b m d (lent b m d v) c
  named {k} {d} t v h l = let (c, a, _) = (s.lending k d t).back v h l in (c, a)

  local : Local b m
  local = record {
    header = s.header;
    root_as_formatted = s.root_as_formatted;
    forms = s.forms;
    children = s.children;
    down = λ {k} {d} {v} {c} t a. (s.lending k d t).down v c a;
    named = named;
    shut = λ {k} {d} {v} {c} t a. (s.kernel k d t).shut v c a;
    absent = λ {k} {d} t. s.absent k d t;
    found = (sound-good b m s big).found;
    same = (sound-good b m s big).same;
  }

  child-cell : {k d v c : ℕ} → InTree b m k d → Child b m d v c → ChildCell b m d v c
  child-cell {k} {d} {v} {c} t a = record {
    few = (s.forms (suc k) c (child t a)).list.few;
    right = (s.children k d t).right v c a;
    shut = (s.kernel k d t).shut v c a;
  }

  from-parent : {k d : ℕ} → InTree b m k d → d ≢ 1 → (v : ℕ) → Has b m d v → mapping b m d v ≢ 0 → S.FromParent b m (parent b m d) (word b m d 0) d v
  from-parent root n v h o = absurd (n refl)
  from-parent (child {k = k} {d = d} {v = w} {c = c} t a) n v h o =
      (placed b m ((s.children k d t).right w c a) (λ x y. S.FromParent b m x y c v)).1 ((s.lending k d t).down w c a v h o)

  from-lent : {k d : ℕ} → InTree b m k d → d ≢ 1 → Q.lent_count b m (parent b m d) (word b m d 0) ≡ Q.mapped_count b m d
  from-lent root n = absurd (n refl)
  from-lent (child {k = k} {d = d} {v = w} {c = c} t a) n =
      (placed b m ((s.children k d t).right w c a) (λ x y. Q.lent_count b m x y ≡ Q.mapped_count b m c)).1 (back_count b m local t a (s.lending k d t).back)

  cell : {k d : ℕ} → InTree b m k d → (v : ℕ) → Has b m d v → Cell b m d v
  cell {k} {d} t v h = record {
    absent = s.absent k d t v h;
    mapped = λ n. record {
      page = ((s.forms k d t).tables v h).table_word n;
      from = ((s.forms k d t).tables v h).shadow2_word;
      child = λ e. child-cell t (child-is b m d v h (n, e));
      named = λ x y. let (c, a) = named t v h (n, omega arith) in subst (Child b m d (lent b m d v)) (sym (child-page b m a)) a;
      down = λ o. (s.never_both k d t o v h, from-parent t o v h n);
    };
  }

  judged : {k d : ℕ} → InTree b m k d → Judged b m d
  judged {k} {d} t = let f = s.forms k d t in record {
    descriptor = f.descriptor;
    directory = f.directory;
    list = f.list;
    threes = s.threes k d t;
    cells = cell t;
    none = f.none;
    shut = others-count b m local t (s.kernel k d t).others;
    lent = λ n r. from-lent t n;
  }

  pub sound_quick : Quick b m
  sound_quick = let g = sound-good b m s big in record {
    fine = λ k d t. (partition? b m d).1 (judged (to-tree b m t));
    deep = g.deep;
    one_parent = g.one_parent;
    no-parent = g.no-parent;
    inside = g.inside;
    found = g.found;
    same = g.same;
  }
