-- Each test of Quick.antt decides a statement. Assumes nothing.
use mathlib.Core.Path.{◌≡◌, refl}
use mathlib.Core.List.{List}
use mathlib.Core.Bool.{Bool, true}
use mathlib.Core.Logic.{◌≢◌}
use Prim.Native.Nat.{ℕ, ◌≤◌, ◌<◌}
use native.Mathlib.Omega.{arith}
use Rattle.walk.specs.Reflect.{Tells, via, eq?, le?, lt?, both, isn't, unless, choose}
use Rattle.walk.specs.Finite.{from, below, all?}
use Rattle.memory.specs.Geometry.{page_words, page_of, most_threes}
use Rattle.memory.specs.Words.{word}
use Rattle.memory.specs.Entry.{entry, accessible, rights}
use Rattle.memory.specs.Partition.{pages, parent, threes, mapping, lent, above}
use Rattle.memory.specs.Tree.{Virtual, Has, Child}
use Rattle.memory.specs.Counts as C
use Rattle.memory.specs.Sound as S
use Rattle.soundness.proofs.Places.{tabled-is}
use Rattle.soundness.proofs.Agree.{virtual?, descriptor?, directory?, list?, threes?, child_at?, child-is, child_test?, from_parent?, Shut, kernel_shut?}
use Rattle.soundness.proofs.Agree.{never_both_at?}
use Rattle.judging.specs.Quick as Q

always : {t : Bool} → Tells t (t ≡ true)
always = ((λ e. e), λ e. e)

module _ (b : ℕ) (m : List ℕ) where
  -- d's child at v
  pub record ChildCell (d v c : ℕ) : Type 0 where
    pub few : threes b m c ≤ most_threes
    pub right : S.ChildRight b m d v c
    pub shut : (x : ℕ) → S.KernelAddress b m c x → Shut b m d x

  -- a mapping of d at v
  pub record Mapping (d v : ℕ) : Type 0 where
    pub page : (entry b (page_of b (mapping b m d v)) (accessible (mapping b m d v)) (rights (mapping b m d v)) ≡ mapping b m d v)
        × (page_of b (mapping b m d v) < pages b m)
    pub from : Virtual b (above b m d v)
    pub child : lent b m d v ≡ 1 → ChildCell d v (C.child_of b m d v)
    pub named : lent b m d v ≢ 0 → lent b m d v ≢ 1 → Child b m d (lent b m d v) (C.child_of b m d (lent b m d v))
    pub down : d ≢ 1 → (¬ S.WriteAndExecute b m d v) × S.FromParent b m (parent b m d) (word b m d 0) d v

  pub record Cell (d v : ℕ) : Type 0 where
    pub absent : mapping b m d v ≡ 0 → (lent b m d v ≡ 0) × (above b m d v ≡ 0)
    pub mapped : mapping b m d v ≢ 0 → Mapping d v

  pub record Judged (d : ℕ) : Type 0 where
    pub descriptor : S.DescriptorForm b m d
    pub directory : (i : ℕ) → i < page_words b → S.DirectoryForm b m d i
    pub list : S.ListForm b m d
    pub threes : S.Threes b m d
    pub cells : (v : ℕ) → Has b m d v → Cell d v
    pub none : mapping b m d 0 ≡ 0
    pub shut : Q.shut_count b m d ≡ Q.due_count b m d
    pub lent : d ≢ 1 → (Q.top 0 (Q.sources b m d) ≢ Q.largest → ⊥) → Q.lent_count b m (parent b m d) (word b m d 0) ≡ Q.mapped_count b m d

  child_cell? : (d v : ℕ) → Tells (Q.child_cell b m d v) (ChildCell d v (C.child_of b m d v))
  unfolding Q.child_cell
  child_cell? d v =
      via (both (both le? (child_test? b m d v (C.child_of b m d v))) (kernel_shut? b m d (C.child_of b m d v)))
      (λ ((f, r), s). record { few = f; right = r; shut = s })
      (λ h. ((h.few, h.right), h.shut))

  lent_cell? : (d v : ℕ) → Tells (Q.lent_cell b m d v) (Child b m d (lent b m d v) (C.child_of b m d (lent b m d v)))
  unfolding Q.lent_cell
  lent_cell? d v =
      via (both (both (virtual? b) (isn't eq?)) (child_at? b m d (lent b m d v)))
      (λ ((r, t), p). child-is b m d (lent b m d v) (record { virtual = r; table = t }) p)
      (λ k. ((k.has.virtual, k.has.table), (k.present, k.mark)))

  cell? : (d v : ℕ) → Tells (Q.cell b m d v) (Cell d v)
  unfolding Q.cell Q.entry_test Q.shadow1_cell Q.below_root
  cell? d v =
      via (choose eq? (both eq? eq?)
      (both (both (both (both eq? lt?) (virtual? b)) (choose eq? always (choose eq? (child_cell? d v) (lent_cell? d v))))
      (unless eq? (both (never_both_at? b m d v) (from_parent? b m (parent b m d) (word b m d 0) d v)))))
      (λ (a, f). record { absent = a; mapped = λ n. let (((p, u), (z, s)), g) = f n in record { page = p; from = u; child = λ e. (s (λ q. one e q)).0 e; named = λ x y. (s x).1 y; down = g } })
      (λ h. (h.absent, λ n. let k = h.mapped n in (((k.page, k.from), ((λ e. refl), λ x. (k.child, k.named x))), k.down)))
    where
      one : {x : ℕ} → x ≡ 1 → x ≡ 0 → ⊥
      one e q = omega arith

  pub partition? : (d : ℕ) → Tells (Q.partition_test b m d) (Judged d)
  unfolding Q.partition_test Q.rising
  partition? d =
      via (both (both (both (both (both (both (both
      (descriptor? b m d)
      (all? (from (page_words b) 0) (below (page_words b)) (directory? b m d)))
      (list? b m d))
      (threes? b m d))
      (all? (C.tabled b m d) (tabled-is b m d) (cell? d)))
      eq?) eq?) (unless eq? (unless (isn't eq?) eq?)))
      (λ (((((((e, i), l), t), c), n), s), k). record { descriptor = e; directory = i; list = l; threes = t; cells = c; none = n; shut = s; lent = k })
      (λ h. (((((((h.descriptor, h.directory), h.list), h.threes), h.cells), h.none), h.shut), h.lent))
