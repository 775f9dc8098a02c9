-- Each test of Test.antt decides its sentence: one term for both directions, in the shape of the test. Assumes nothing.
use mathlib.Core.Path.{◌≡◌, refl, sym, subst}
use mathlib.Core.List.{List}
use mathlib.Core.Bool.{Bool, true, not, ◌&&◌, ◌||◌}
use mathlib.Core.Logic.{◌≢◌, inl, inr}
use Prim.Native.Nat.{ℕ, ◌+◌, ◌*◌, ◌≤◌, ◌<◌}
use native.Mathlib.Omega.{arith}
use lib.Dec.{eqb, ltb}
use Rattle.memory.specs.Geometry.{page_words}
use Rattle.memory.specs.Words.{word}
use Rattle.memory.specs.Partition.{list, threes, table_for, mapping, lent, above}
use Rattle.memory.specs.Entry.{accessible, write_and_execute}
use Rattle.walk.specs.Reflect.{Tells, via, eq?, le?, lt?, both, either, isn't, unless, given, choose}
use Rattle.walk.specs.Finite.{from, below, from-once, One, all, all?, all_in?, any?, once?}
use Rattle.memory.specs.Tree.{Virtual, Physical, Has, Child}
use Rattle.memory.specs.Counts as C
use Rattle.memory.specs.Sound as S
use Rattle.soundness.specs.Test as T
use Rattle.soundness.proofs.Places.{tabled-is, tabled-once}

pub virtual? : (b : ℕ) {v : ℕ} → Tells (T.virtual b v) (Virtual b v)
unfolding T.virtual
virtual? b = both eq? lt?

module _ (b : ℕ) (m : List ℕ) where
  pub physical? : {a : ℕ} → Tells (T.physical b m a) (Physical b m a)
  unfolding T.physical
  physical? = both eq? lt?

  -- ---- 1

  pub header? : Tells (T.header_test b m) (S.Header b m)
  unfolding T.header_test
  header? =
      via
      (both (both (both (both (both (both (both (both eq? le?) le?) eq?) eq?) eq?) physical?) eq?)
      (all? (from (page_words b) 0) (below (page_words b)) (λ i. given le? eq?)))
      (λ ((((((((s, l), h), t), d), f), c), e), r).
      record { size = s; least = l; most = h; threes = t; descriptor = d; first = f; current = c; edition = e; rest = r })
      (λ h. ((((((((h.size, h.least), h.most), h.threes), h.descriptor), h.first), h.current), h.edition), h.rest))

  pub descriptor? : (d : ℕ) → Tells (T.descriptor_test b m d) (S.DescriptorForm b m d)
  unfolding T.descriptor_test
  descriptor? d =
      via (both
      (both (both (both (all? (from 5 0) (below 5) (λ j. both (virtual? b) physical?)) eq?) physical?) le?)
      (all? (from (page_words b) 0) (below (page_words b)) (λ i. given le? eq?)))
      (λ ((((p, z), q), f), r). record { pairs = p; zero = z; parent = q; flag = f; rest = r })
      (λ h. ((((h.pairs, h.zero), h.parent), h.flag), h.rest))

  table_link? : {w : ℕ} → Tells (T.table_link b m w) (S.TableLink b m w)
  unfolding T.table_link
  table_link? = unless eq? (both eq? lt?)

  pub directory? : (d i : ℕ) → Tells (T.directory_test b m d i) (S.DirectoryForm b m d i)
  unfolding T.directory_test
  directory? d i =
      via (both (both (both table_link? table_link?) table_link?) (choose eq? (both eq? eq?) (both (isn't eq?) (isn't eq?))))
      (λ (((t, t1), t2), (a, h)). record { table = t; table1 = t1; table2 = t2; absent = a; there = h })
      (λ h. (((h.table, h.table1), h.table2), (h.absent, h.there)))

  pub list? : (d : ℕ) → Tells (T.list_test b m d) (S.ListForm b m d)
  unfolding T.list_test
  list? d =
      via (both (both (both eq? le?) (all? (from (3 * threes b m d) 0) (below (3 * threes b m d)) (λ j. both (virtual? b) physical?))) (all? (from (page_words b) 0) (below (page_words b)) (λ i. given le? eq?)))
      (λ (((f, l), p), r). record { free = f; few = l; pairs = p; rest = r })
      (λ h. (((h.free, h.few), h.pairs), h.rest))

  pub table? : (d v : ℕ) → Tells (T.table_test b m d v) (S.TableForm b m d v)
  unfolding T.table_test
  table? d v =
      via (both (both (unless eq? (both eq? lt?)) (unless eq? (virtual? b))) (virtual? b))
      (λ ((t, l), a). record { table_word = t; shadow1_word = l; shadow2_word = a })
      (λ h. ((h.table_word, h.shadow1_word), h.shadow2_word))

  pub forms? : (d : ℕ) → Tells (T.forms_test b m d) (S.Forms b m d)
  unfolding T.forms_test
  forms? d =
      via (both (both (both (both (descriptor? d) (all? (from (page_words b) 0) (below (page_words b)) (directory? d))) (list? d)) (all? (C.tabled b m d) (tabled-is b m d) (table? d))) eq?)
      (λ ((((e, i), l), t), n). record { descriptor = e; directory = i; list = l; tables = t; none = n })
      (λ h. ((((h.descriptor, h.directory), h.list), h.tables), h.none))

  -- ---- 2

  pub root? : Tells (T.root_test b m) (S.Root b m)
  unfolding T.root_test T.root_map_test
  root? =
      via (both
      (all? (from 5 0) (below 5) (λ p. all? (from (page_words b) 0) (below (page_words b)) (λ i. unless (both eq? eq?) eq?)))
      (all? (C.tabled b m 1) (tabled-is b m 1) (λ v. both (choose (both le? le?) (both eq? eq?) eq?) eq?)))
      (λ (f, t). record { five = f; maps = λ v h. (t v h).0.0; only = λ v h. (t v h).0.1; shadow2_words = λ v h. (t v h).1 })
      (λ r. (r.five, λ v h. ((r.maps v h, r.only v h), r.shadow2_words v h)))

  -- ---- 3

  stands? : (d j i : ℕ) → Tells (T.stands b m d j i) (S.Stands b m d j i)
  unfolding T.stands
  stands? d j i = via (both (both eq? eq?) eq?) (λ ((x, y), z). (x, y, z)) (λ (x, y, z). ((x, y), z))

  pub threes? : (d : ℕ) → Tells (T.threes_test b m d) (S.Threes b m d)
  unfolding T.threes_test
  threes? d =
      via (both
      (all? (from (threes b m d) 0) (below (threes b m d)) (λ j. once? (from (page_words b) 0) (below (page_words b)) (λ i. from-once (page_words b) 0 i) (λ i. stands? d j i)))
      (all? (from (page_words b) 0) (below (page_words b)) (λ i. unless eq? (once? (from (threes b m d) 0) (below (threes b m d)) (λ j. from-once (threes b m d) 0 j) (λ j. stands? d j i)))))
      (λ (s, l). record { stand = s; listed = l })
      (λ h. (h.stand, h.listed))

  -- ---- children: a test at each v where one stands, and a statement of each child

  pub child_at? : (d v : ℕ) → Tells (C.child_at b m d v) ((mapping b m d v ≢ 0) × (lent b m d v ≡ 1))
  unfolding C.child_at
  child_at? d v = both (isn't eq?) eq?

  pub child-is : (d v : ℕ) → Has b m d v → (mapping b m d v ≢ 0) × (lent b m d v ≡ 1) → Child b m d v (C.child_of b m d v)
  unfolding C.child_of
  child-is d v h (p, l) = record { has = h; present = p; mark = l; page = refl }

  pub child-page : {d v c : ℕ} → Child b m d v c → C.child_of b m d v ≡ c
  unfolding C.child_of
  child-page k = k.page

  each-child : (d : ℕ) {f : ℕ → Bool} {P : ℕ → ℕ → Type 0} → ((v : ℕ) → Tells (f v) (P v (C.child_of b m d v)))
      → Tells (all (λ v. not (C.child_at b m d v) || f v) (C.tabled b m d)) ((v c : ℕ) → Child b m d v c → P v c)
  each-child d {f} {P} tells =
      via (all? (C.tabled b m d) (tabled-is b m d) (λ v. given (child_at? d v) (tells v)))
      (λ h v c k. subst (P v) (child-page k) (h v k.has (k.present, k.mark)))
      (λ h v a p. h v (C.child_of b m d v) (child-is d v a p))

  -- ---- 4

  agrees? : (d v a : ℕ) → Tells (T.agrees b m d v a) (S.Agrees b m d v a)
  unfolding T.agrees
  agrees? d v a = both (isn't eq?) eq?

  pub child_test? : (d v c : ℕ) → Tells (T.child_test b m d v c) (S.ChildRight b m d v c)
  unfolding T.child_test
  child_test? d v c =
      via (both (both (both (both eq? eq?) eq?)
      (all? (from 5 0) (below 5) (λ j. agrees? d (word b m c (2 * j)) (word b m c (2 * j + 1)))))
      (all? (from (3 * threes b m c) 0) (below (3 * threes b m c)) (λ j. agrees? d (word b m (list b m c) (1 + 2 * j)) (word b m (list b m c) (2 + 2 * j)))))
      (λ ((((s, i), p), f), l). record { stands = s; itself = i; parent = p; five = f; listed = l })
      (λ h. ((((h.stands, h.itself), h.parent), h.five), h.listed))

  pub children? : (d : ℕ) → Tells (T.children_test b m d) (S.Children b m d)
  unfolding T.children_test
  children? d =
      via (both (all? (C.tabled b m d) (tabled-is b m d) (λ v. given eq? (isn't eq?)))
      (each-child d {P = λ v c. S.ChildRight b m d v c} (λ v. child_test? d v (C.child_of b m d v))))
      (λ (l, r). record { leads = l; right = r })
      (λ h. (h.leads, h.right))

  -- ---- 6

  itself : {t : Bool} → Tells t (t ≡ true)
  itself = ((λ e. e), λ e. e)

  pub from_parent? : (d v c u : ℕ) → Tells (T.from_parent b m d v c u) (S.FromParent b m d v c u)
  unfolding T.from_parent
  from_parent? d v c u =
      via (both (both (both (both (isn't eq?) eq?) eq?) itself) eq?)
      (λ ((((x, p), a), r), n). record { mapped = x; page = p; bit = a; no_more = r; names = n })
      (λ h. ((((h.mapped, h.page), h.bit), h.no_more), h.names))

  abbrev Back : ℕ → ℕ → ℕ → Type 0
  Back c v u = Has b m c u × ((mapping b m c u ≢ 0) × (above b m c u ≡ v))

  mapped_once? : (c v : ℕ) → Tells (T.mapped_once b m c v) (One (Back c v))
  unfolding T.mapped_once T.mapped_at
  mapped_once? c v = once? (C.tabled b m c) (tabled-is b m c) (tabled-once b m c) (λ u. both (isn't eq?) eq?)

  -- a lent page's shadow 1 word is a virtual page's address, by its form: the test need not ask it again
  back? : (d v : ℕ) → (1 < lent b m d v → Virtual b (lent b m d v))
      → Tells (not (not (eqb (mapping b m d v) 0) && ltb 1 (lent b m d v))
      || (not (eqb (table_for b m d (lent b m d v)) 0) && C.child_at b m d (lent b m d v) && T.mapped_once b m (C.child_of b m d (lent b m d v)) v))
      (S.Lent b m d v → (c : ℕ) × Child b m d (lent b m d v) c × One (Back c v))
  back? d v form =
      via (given (both (isn't eq?) lt?) (both (both (isn't eq?) (child_at? d (lent b m d v))) (mapped_once? (C.child_of b m d (lent b m d v)) v)))
      (λ h l. let ((t, p), o) = h l in
      (C.child_of b m d (lent b m d v), child-is d (lent b m d v) (record { virtual = form l.1; table = t }) p, o))
      (λ h l. let (c, k, o) = h l in
      ((k.has.table, (k.present, k.mark)), subst (λ (x : ℕ). One (Back x v)) (sym (child-page k)) o))

  pub lending? : (d : ℕ) → S.Forms b m d → Tells (T.lending_test b m d) (S.Lending b m d)
  unfolding T.lending_test
  lending? d forms =
      via (both
      (each-child d {P = λ v c. (u : ℕ) → Has b m c u → mapping b m c u ≢ 0 → S.FromParent b m d v c u}
      (λ v. all? (C.tabled b m (C.child_of b m d v)) (tabled-is b m (C.child_of b m d v)) (λ u. unless eq? (from_parent? d v (C.child_of b m d v) u))))
      (all_in? (C.tabled b m d) (tabled-is b m d) (λ v h. back? d v (λ l. (forms.tables v h).shadow1_word (λ e. absurd (omega (arith, l, e)))))))
      (λ (x, y). record { down = x; back = y })
      (λ h. (h.down, h.back))

  -- ---- 7

  kernel_address? : (c x : ℕ) → Tells (T.kernel_address b m c x) (S.KernelAddress b m c x)
  unfolding T.kernel_address
  kernel_address? c x = either (any? (from 5 0) (below 5) (λ j. eq?)) (any? (from (3 * threes b m c) 0) (below (3 * threes b m c)) (λ j. eq?))

  abbrev pub Shut : ℕ → ℕ → Type 0
  Shut d x = (mapping b m d x ≢ 0) × (accessible (mapping b m d x) ≡ 0) × (lent b m d x ≤ 1)

  shut_at? : (d x : ℕ) → Tells (T.shut_at b m d x) (Shut d x)
  unfolding T.shut_at
  shut_at? d x = via (both (both (isn't eq?) eq?) le?) (λ ((p, q), r). (p, q, r)) (λ (p, q, r). ((p, q), r))

  pub kernel_shut? : (d c : ℕ) → Tells (T.kernel_shut b m d c) ((x : ℕ) → S.KernelAddress b m c x → Shut d x)
  unfolding T.kernel_shut
  kernel_shut? d c =
      via (both (all? (from 5 0) (below 5) (λ j. shut_at? d (word b m c (2 * j))))
      (all? (from (3 * threes b m c) 0) (below (3 * threes b m c)) (λ j. shut_at? d (word b m (list b m c) (1 + 2 * j)))))
      (λ (f, l) x k. at f l x k)
      (λ h. ((λ j i. h _ (inl (j, i, refl))), λ j i. h _ (inr (j, i, refl))))
    where
      at : ((j : ℕ) → j < 5 → Shut d (word b m c (2 * j))) → ((j : ℕ) → j < 3 * threes b m c → Shut d (word b m (list b m c) (1 + 2 * j))) → (x : ℕ) → S.KernelAddress b m c x → Shut d x
      at f l x (inl (j, i, e)) = subst (Shut d) e (f j i)
      at f l x (inr (j, i, e)) = subst (Shut d) e (l j i)

  pub kernel? : (d : ℕ) → Tells (T.kernel_test b m d) (S.Kernel b m d)
  unfolding T.kernel_test
  kernel? d =
      via (both
      (each-child d {P = λ v c. (x : ℕ) → S.KernelAddress b m c x → Shut d x} (λ v. kernel_shut? d (C.child_of b m d v)))
      (all? (C.tabled b m d) (tabled-is b m d) (λ x. unless eq? (given le? (given eq?
      (via (any? (C.tabled b m d) (tabled-is b m d) (λ v. both (child_at? d v) (kernel_address? (C.child_of b m d v) x)))
      (λ (v, h, (p, k)). (v, C.child_of b m d v, child-is d v h p, k))
      (λ (v, c, k, a). (v, k.has, ((k.present, k.mark), subst (λ (y : ℕ). S.KernelAddress b m y x) (sym (child-page k)) a)))))))))
      (λ (s, o). record { shut = s; others = o })
      (λ h. (h.shut, h.others))

  -- ---- 9

  abbrev pub Absent : ℕ → Type 0
  Absent d = (v : ℕ) → Has b m d v → mapping b m d v ≡ 0 → (lent b m d v ≡ 0) × (above b m d v ≡ 0)

  pub absent? : (d : ℕ) → Tells (T.absent_test b m d) (Absent d)
  unfolding T.absent_test T.absent_at
  absent? d = all? (C.tabled b m d) (tabled-is b m d) (λ v. given eq? (both eq? eq?))

  -- ---- 12

  abbrev pub NeverBoth : ℕ → Type 0
  NeverBoth d = d ≢ 1 → (v : ℕ) → Has b m d v → ¬ S.WriteAndExecute b m d v

  pub never_both_at? : (d v : ℕ) → Tells (not (write_and_execute (mapping b m d v))) (¬ S.WriteAndExecute b m d v)
  never_both_at? d v = isn't (both itself itself)

  never_both? : (d : ℕ) → Tells (T.never_both_test b m d) (NeverBoth d)
  unfolding T.never_both_test
  never_both? d = unless eq? (all? (C.tabled b m d) (tabled-is b m d) (never_both_at? d))

  -- ---- a partition

  pub record Partition (d : ℕ) : Type 0 where
    pub forms : S.Forms b m d
    pub threes : S.Threes b m d
    pub children : S.Children b m d
    pub lending : S.Lending b m d
    pub kernel : S.Kernel b m d
    pub absent : Absent d
    pub never_both : NeverBoth d

  pub ok? : (d : ℕ) → Tells (T.ok b m d) (Partition d)
  unfolding T.ok
  ok? d =
      let tests = both (both (both (both (both (both (forms? d) (threes? d)) (children? d)) itself) (kernel? d)) (absent? d)) (never_both? d) in (
        (λ e.
            let ((((((f, t), c), l), k), a), n) = tests.0 e in
            record { forms = f; threes = t; children = c; lending = (lending? d f).0 l; kernel = k; absent = a; never_both = n }),
        (λ p.
            let l = (lending? d p.forms).1 p.lending in
            tests.1 ((((((p.forms, p.threes), p.children), l), p.kernel), p.absent), p.never_both)),
      )
