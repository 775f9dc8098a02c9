-- One memory while a call is made: which pages the call may write, by how deep a page is mapped, and which words stay. Words of the descriptors,
-- directories, shadows, lists and shadow 2 tables of the caller and of the partitions above it stay, but for their live flags, and the pages that they map;
-- so what B sees after a call does not depend on what the partitions above B hold. Assumes an index width of 6 or more.
use mathlib.Core.Path.{◌≡◌, refl, sym, ap, ap₂, ◌∙◌, subst}
use mathlib.Core.List.{List}
use mathlib.Core.Logic.{◌≢◌}
use Prim.Native.Nat.{ℕ, ◌≤◌, ◌<◌}
use native.Mathlib.Omega.{arith}
use lib.ListN.{length}
use Rattle.memory.proofs.Tables.{put_table_word-absent}
use Rattle.rules.proofs.model.Base.{eqd}
use Rattle.rules.proofs.model.Words.{W, word, put, idx, off, page_of, Sized, word-put-same, word-put-other, put-sized, off-lt, twelve-lt}
use Rattle.rules.proofs.model.Abs.{Kind, pt, s1, s2, Role, header, hand, blank, desc, lst, tab, Abs, Owner, is_hand, cell}
use Rattle.rules.proofs.model.Abs as Abs
use Rattle.rules.proofs.model.Facts.{length-parts, differ}
use Rattle.rules.proofs.model.Read.{root_page, table_at, table_page, entry_at, put_at, slot, entry-there, entry_absent, put-there, root-page}
use Rattle.rules.proofs.model.Read.{entry-three, three-there, kernel-lt}
use Rattle.rules.proofs.model.Inv.{fixed, Inv, named}

-- whether a call leaves a page of this role as it is: l is how deep the page is mapped, c how deep the caller is
abbrev pub Fixed : ℕ → ℕ → Role → Type 0
Fixed l c header = ⊥
Fixed l c hand = ⊥
Fixed l c blank = ⊥
Fixed l c desc = l ≤ c
Fixed l c (Abs.root k d) = l ≤ c
Fixed l c (lst d) = l ≤ c
Fixed l c (tab pt d i) = ⊥
Fixed l c (tab s1 d i) = l < c
Fixed l c (tab s2 d i) = l ≤ c

fixed-low : (l c : ℕ) (r : Role) → Fixed l c r → l ≤ c
fixed-low l c header x = absurd x
fixed-low l c hand x = absurd x
fixed-low l c blank x = absurd x
fixed-low l c desc x = x
fixed-low l c (Abs.root k d) x = x
fixed-low l c (lst d) x = x
fixed-low l c (tab pt d i) x = absurd x
fixed-low l c (tab s1 d i) x = omega arith
fixed-low l c (tab s2 d i) x = x

pub root-slot : (b : ℕ) (m : List ℕ) (k : Kind) (d : ℕ) → root_page b m k d ≡ page_of b (word b m d (slot k))
unfolding root_page slot page_of word
root-slot b m pt d = refl
root-slot b m s1 d = refl
root-slot b m s2 d = refl

put-absent : (b : ℕ) (m : List ℕ) (k : Kind) (d v x : ℕ) → table_at b m k d v ≡ 0 → put_at b m k d v x ≡ m
unfolding table_at put_at
put-absent b m k d v x e = put_table_word-absent b m (root_page b m k d) v x e

pub slot_lt : {b : ℕ} → 6 ≤ b → (k : Kind) → slot k < W b
unfolding slot
slot_lt wide pt = twelve-lt wide 3 (omega arith)
slot_lt wide s1 = twelve-lt wide 5 (omega arith)
slot_lt wide s2 = twelve-lt wide 7 (omega arith)

slot-steady : (k : Kind) → slot k ≢ 12
unfolding slot
slot-steady pt e = omega arith
slot-steady s1 e = omega arith
slot-steady s2 e = omega arith

-- ---- pages by how deep they are mapped

module _ {b : ℕ} {m : List ℕ} (i : Inv b m) where
  open named b i use {N, A}

  -- how deep a page is mapped
  abbrev pub deep : ℕ → ℕ
  deep q = length (A.chain q)

  -- how deep the caller is
  abbrev pub here : ℕ
  here = deep A.cur

  pub owner-deep : (q e : ℕ) → Owner (A.role q) q e → deep q ≡ deep e
  owner-deep q e o = sym (length-parts (A.chain q)) ∙ ap length (i.wf.kernel q e o) ∙ length-parts (A.chain e)

  root-deep : (k : Kind) (e : ℕ) → A.role e ≡ desc → deep (A.rootp k e) ≡ deep e
  root-deep k e l = let r : A.role (A.rootp k e) ≡ Abs.root k e = i.wf.root_role k e l in owner-deep (A.rootp k e) e (rw r refl)

  pub table-deep : (k : Kind) (e x q : ℕ) → A.role q ≡ tab k e x → deep q ≡ deep e
  table-deep k e x q r = owner-deep q e (rw r refl)

  -- pages that a call does not write
  abbrev pub Unwritten : ℕ → Type 0
  Unwritten q = Fixed (deep q) here (A.role q)

  -- pages that a call may write: those deeper than the caller, page 0, and the caller's shadow 1 tables
  pub data Writable (q : ℕ) : Type 0 where
    lower : here < deep q → Writable q
    head : A.role q ≡ header → Writable q
    own : (x : ℕ) → A.role q ≡ tab s1 A.cur x → Writable q

  -- it is none of those that the call does not write, and no page table of the caller or of a partition above it
  writable_apart : {q : ℕ} → Writable q → Unwritten q → ⊥
  writable_apart {q} (lower l) z = omega (arith, fixed-low (deep q) here (A.role q) z)
  writable_apart {q} (head e) z = subst (Fixed (deep q) here) e z
  writable_apart {q} (own x e) z = let y : deep q < here = subst (Fixed (deep q) here) e z in omega (arith, table-deep s1 A.cur x q e)

  -- partitions that are not deeper than the caller
  pub record Low (e : ℕ) : Type 0 where
    pub live : A.role e ≡ desc
    pub small : deep e ≤ here

  writable_table : {q e x : ℕ} → Writable q → Low e → A.role q ≡ tab pt e x → ⊥
  writable_table {q} {e} {x} (lower l) w r = omega (arith, table-deep pt e x q r, w.small)
  writable_table (head h) w r = differ (sym h ∙ r) (omega arith)
  writable_table (own y h) w r = let z : s1 ≡ pt = kind_of (sym h ∙ r) in let n : ◌≡◌ {A = ℕ} 0 1 = cc in omega arith
    where
      kind_of : {j k : Kind} {d f y z : ℕ} → tab j d y ≡ tab k f z → j ≡ k
      kind_of e = cc

  -- ---- what stays while a call is made

  -- any word of a page but a live flag
  abbrev pub Steady : ℕ → ℕ → Type 0
  Steady q j = A.role q ≡ desc → j ≢ 12

  -- every word of a page that is no descriptor
  pub steady : {r : Role} (q j : ℕ) → A.role q ≡ r → r ≢ desc → Steady q j
  steady q j e n y = absurd (n (sym e ∙ y))

  -- the pages that a call does not write are as in m, but for live flags
  pub record Unchanged (m₁ : List ℕ) : Type 0 where
    pub stays : (q j : ℕ) → j < W b → Unwritten q → Steady q j → word b m₁ q j ≡ word b m q j

  -- the partitions that are not deeper than the caller map the same pages
  pub record Kept (m₁ : List ℕ) : Type 0 where
    pub sized : Sized b N m₁
    pub unchanged : Unchanged m₁
    pub pages : (e v : ℕ) → Low e → idx b v < W b → page_of b (entry_at b m₁ pt e v) ≡ page_of b (entry_at b m pt e v)

  pub kept_same : Kept m
  kept_same = record { sized = i.words.sized; unchanged = record { stays = λ q j l z y. refl }; pages = λ e v l h. refl }

-- ---- lookups

module _ {b : ℕ} (wide : 6 ≤ b) {m : List ℕ} (i : Inv b m) where
  open named b i use {N, fl, A}

  -- the table x of e for virtual page v has that role
  pub table-role : (x : Kind) (e v : ℕ) → A.role e ≡ desc → idx b v < W b → table_at b m x e v ≢ 0 → A.role (table_page b m x e v) ≡ tab x e (idx b v)
  table-role x e v l h n =
      let t = three-there wide N fl A i.wf (fixed b N) m (cell b A) i.words x e v l h n in
      let y = entry-three wide N fl A i.wf (fixed b N) m (cell b A) i.words x e v t.0 l t.1 in
      ap A.role y.0 ∙ y.1

  -- ---- in a memory in which the pages that the call does not write are as in m

  module _ {m₁ : List ℕ} (k : Unchanged i m₁) {e : ℕ} (l : Low i e) where
    pub part-kept : (j : ℕ) → j < W b → j ≢ 12 → word b m₁ e j ≡ word b m e j
    part-kept j h n = k.stays e j h (subst (Fixed (deep i e) (here i)) (sym l.live) l.small) (λ y. n)

    pub root_kept : (x : Kind) → root_page b m₁ x e ≡ root_page b m x e
    root_kept x = root-slot b m₁ x e ∙ ap (page_of b) (part-kept (slot x) (slot_lt wide x) (slot-steady x)) ∙ sym (root-slot b m x e)

    -- at virtual page v
    module _ (x : Kind) (v : ℕ) (h : idx b v < W b) where
      pub table_kept : table_at b m₁ x e v ≡ table_at b m x e v
      unfolding table_at word idx
      table_kept =
          let q : ℕ = A.rootp x e in
          let r : root_page b m x e ≡ q = root-page wide N fl A i.wf (fixed b N) m (cell b A) i.words x e l.live in
          let shallow : deep i q ≤ here i = omega (arith, root-deep i x e l.live, l.small) in
          let o : A.role q ≡ Abs.root x e = i.wf.root_role x e l.live in
          let z : Unwritten i q = subst (Fixed (deep i q) (here i)) (sym o) shallow in
          let y : Steady i q (idx b v) = steady i q (idx b v) o (λ y. differ y (omega arith)) in
          ap (λ (p : ℕ). word b m₁ p (idx b v)) (root_kept x ∙ r) ∙ k.stays q (idx b v) h z y ∙ ap (λ (p : ℕ). word b m p (idx b v)) (sym r)

      pub entry-at : table_at b m x e v ≢ 0 → entry_at b m₁ x e v ≡ word b m₁ (table_page b m x e v) (off b v)
      unfolding table_page
      entry-at n =
          entry-there b m₁ x e v (λ z. n (sym table_kept ∙ z))
          ∙ ap (λ (q : ℕ). word b m₁ (page_of b q) (off b v)) table_kept

      pub entry-none : table_at b m x e v ≡ 0 → entry_at b m₁ x e v ≡ 0
      entry-none n = entry_absent b m₁ x e v (table_kept ∙ n)

      pub put-at : (y : ℕ) → table_at b m x e v ≢ 0 → put_at b m₁ x e v y ≡ put b m₁ (table_page b m x e v) (off b v) y
      unfolding table_page
      put-at y n =
          put-there b m₁ x e v y (λ z. n (sym table_kept ∙ z))
          ∙ ap (λ (q : ℕ). put b m₁ (page_of b q) (off b v) y) table_kept

      pub put-none : (y : ℕ) → table_at b m x e v ≡ 0 → put_at b m₁ x e v y ≡ m₁
      put-none y n = put-absent b m₁ x e v y (table_kept ∙ n)

      -- a table that stays
      entry_kept : ((q : ℕ) → A.role q ≡ tab x e (idx b v) → Unwritten i q) → entry_at b m₁ x e v ≡ entry_at b m x e v
      entry_kept z = go (eqd (table_at b m x e v) 0)
        where
          go : Dec (table_at b m x e v ≡ 0) → entry_at b m₁ x e v ≡ entry_at b m x e v
          go (yes n) = entry-none n ∙ sym (entry_absent b m x e v n)
          go (no n) =
              let q : ℕ = table_page b m x e v in
              let r = table-role x e v l.live h n in
              entry-at n ∙ k.stays q (off b v) (off-lt wide v) (z q r) (steady i q (off b v) r (λ y. differ y (omega arith))) ∙ sym (entry-there b m x e v n)

    module _ (v : ℕ) (h : idx b v < W b) where
      pub above_kept : entry_at b m₁ s2 e v ≡ entry_at b m s2 e v
      above_kept =
          entry_kept s2 v h (λ q r. subst (Fixed (deep i q) (here i)) (sym r) (omega (arith, table-deep i s2 e (idx b v) q r, l.small)))

      pub lent-kept : deep i e < here i → entry_at b m₁ s1 e v ≡ entry_at b m s1 e v
      lent-kept n = entry_kept s1 v h (λ q r. subst (Fixed (deep i q) (here i)) (sym r) (omega (arith, table-deep i s1 e (idx b v) q r)))

  -- ---- what one write keeps

  -- in every page table of a partition that is not deeper than the caller, each word keeps its page
  abbrev SamePages : List ℕ → List ℕ → Type 0
  SamePages m₁ m₂ =
      (e v : ℕ) → Low i e → idx b v < W b → table_at b m pt e v ≢ 0
      → page_of b (word b m₂ (table_page b m pt e v) (off b v)) ≡ page_of b (word b m₁ (table_page b m pt e v) (off b v))

  kept_on : {m₁ m₂ : List ℕ} → Kept i m₁ → Sized b N m₂ → Unchanged i m₂ → SamePages m₁ m₂ → Kept i m₂
  kept_on {m₁} {m₂} k z s f = record { sized = z; unchanged = s; pages = λ e v l h. go e v l h (eqd (table_at b m pt e v) 0) }
    where
      go : (e v : ℕ) → Low i e → idx b v < W b → Dec (table_at b m pt e v ≡ 0) → page_of b (entry_at b m₂ pt e v) ≡ page_of b (entry_at b m pt e v)
      go e v l h (yes n) = ap (page_of b) (entry-none s l pt v h n ∙ sym (entry_absent b m pt e v n))
      go e v l h (no n) =
          ap (page_of b) (entry-at s l pt v h n) ∙ f e v l h n ∙ ap (page_of b) (sym (entry-at k.unchanged l pt v h n)) ∙ k.pages e v l h

  -- a page that the call may write is written, and no other
  pub kept-page : {m₁ m₂ : List ℕ} → Kept i m₁ → Sized b N m₂ → {q : ℕ} → Writable i q
      → ((p j : ℕ) → j < W b → p ≢ q → word b m₂ p j ≡ word b m₁ p j) → Kept i m₂
  kept-page {m₁} {m₂} k z {q} o f = kept_on k z unchanged same
    where
      unchanged : Unchanged i m₂
      unchanged = record { stays = λ p j l x y. f p j l (λ e. writable_apart i o (subst (Unwritten i) e x)) ∙ k.unchanged.stays p j l x y }

      same : SamePages m₁ m₂
      same e v l h n =
          let other : table_page b m pt e v ≢ q = λ y. writable_table i o l (ap A.role (sym y) ∙ table-role pt e v l.live h n) in
          ap (page_of b) (f (table_page b m pt e v) (off b v) (off-lt wide v) other)

  -- a page table word of e is written, and keeps its page
  pub kept-mark : {m₁ : List ℕ} → Kept i m₁ → {e : ℕ} → Low i e → (v : ℕ) → idx b v < W b → (x : ℕ)
      → page_of b x ≡ page_of b (entry_at b m₁ pt e v) → Kept i (put_at b m₁ pt e v x)
  kept-mark {m₁} k {e} l v h x c = go (eqd (table_at b m pt e v) 0)
    where
      go : Dec (table_at b m pt e v ≡ 0) → Kept i (put_at b m₁ pt e v x)
      go (yes n) = subst (Kept i) (sym (put-none k.unchanged l pt v h x n)) k
      go (no n) =
          subst (Kept i) (sym (put-at k.unchanged l pt v h x n))
          (kept_on k (put-sized wide N m₁ q (off b v) x k.sized) unchanged (λ f u g y z. word_of (table_page b m pt f u) (off b u) (off-lt wide u)))
        where
          q : ℕ
          q = table_page b m pt e v

          r : A.role q ≡ tab pt e (idx b v)
          r = table-role pt e v l.live h n

          m₂ : List ℕ
          m₂ = put b m₁ q (off b v) x

          written : word b m₂ q (off b v) ≡ x
          written = word-put-same wide N m₁ q (off b v) x k.sized (kernel-lt wide N fl A i.wf q (ap is_hand r)) (off-lt wide v)

          other : (p j : ℕ) → j < W b → ¬ ((p ≡ q) × (j ≡ off b v)) → word b m₂ p j ≡ word b m₁ p j
          other p j o z = word-put-other wide m₁ q (off b v) x p j (off-lt wide v) o z

          -- a page table is none of the pages that stay
          apart : (p : ℕ) → Unwritten i p → p ≢ q
          apart p z y = subst (Fixed (deep i p) (here i)) (ap A.role y ∙ r) z

          unchanged : Unchanged i m₂
          unchanged = record { stays = λ p j g z s. other p j g (λ y. apart p z y.0) ∙ k.unchanged.stays p j g z s }

          word_of : (p j : ℕ) → j < W b → page_of b (word b m₂ p j) ≡ page_of b (word b m₁ p j)
          word_of p j o = at (eqd p q) (eqd j (off b v))
            where
              at : Dec (p ≡ q) → Dec (j ≡ off b v) → page_of b (word b m₂ p j) ≡ page_of b (word b m₁ p j)
              at (yes s) (yes t) =
                  ap (page_of b) (ap₂ (word b m₂) s t ∙ written) ∙ c
                  ∙ ap (page_of b) (entry-at k.unchanged l pt v h n ∙ ap₂ (word b m₁) (sym s) (sym t))
              at (yes s) (no t) = ap (page_of b) (other p j o (λ z. t z.1))
              at (no s) t = ap (page_of b) (other p j o (λ z. s z.0))
