-- delete_partition on the words: the child's kernel pages, read from its descriptor and its list, are returned.
use mathlib.Core.Path.{◌≡◌, refl, sym, ap, ap₂, ◌∙◌, subst}
use mathlib.Core.Logic.{◌≢◌, ◌⊎◌, inl, inr}
use mathlib.Core.Bool.{Bool, true, false}
use mathlib.Core.Option.{Option, none, some}
use mathlib.Core.List.{List, [], ◌∷◌, ◌++◌}
use Prim.Native.Nat.{ℕ, suc, ◌+◌, ◌-◌, ◌*◌, ◌≤◌, ◌<◌}
use native.Mathlib.Nat.{mul-le-mul_right, suc-mul}
use native.Mathlib.Omega.{arith}
use lib.ListN.{length, get_or, take, drop, length-take, length-drop}
use lib.Seq.{ext_get_or, get_or-take, get_or-drop}
use Rattle.memory.specs.Geometry.{page_words}
use Rattle.memory.specs.Words as Mem
use Rattle.rules.specs.Moves.{return_page, return_all}
use Rattle.rules.specs.Effects.{evens, listed, kernel_addresses}
use Rattle.rules.proofs.model.Base.{eqd, upd, upd_same, upd_other}
use Rattle.rules.proofs.model.Words.{W, addr, word, Sized, twelve-lt, sixty_one}
use Rattle.rules.proofs.model.Abs.{pt, s1, s2, Role, header, hand, blank, desc, root, lst, tab, Hop, Three, Abs, head_v}
use Rattle.rules.proofs.model.Abs.{seek, Owner, WF, Cells, Encodes, is_hand, own_word, lent_word, cell, role_word, desc_list, list_list, list_pairs}
use Rattle.rules.proofs.model.Facts.{seek-here}
use Rattle.rules.proofs.model.Read.{kernel-lt, cell-s1}
use Rattle.rules.proofs.steps.ListPage.{list-lt, list-page, list-word, free-is}
use Rattle.rules.proofs.sound.Views.{owner-kernel}
use Rattle.rules.proofs.steps.Delete.{after-parts, cut-none, del_a, DelPre, no_self}
use Rattle.rules.proofs.steps.DelWords.{choose, Back, back, mix, mix-some}
use Rattle.rules.proofs.steps.DelSteps.{Midway, at-A, return-page, back-lent}

-- ---- a part of a page as a list

module _ {b : ℕ} (wide : 6 ≤ b) where
  pub part-is : (N : ℕ) (m : List ℕ) (q k : ℕ) (ws : List ℕ) → Sized b N m → q < N → k + length ws ≤ W b → ((j : ℕ) → j < length ws → word b m q (k + j) ≡ get_or ws j 0)
      → take (length ws) (drop k (Mem.page b m q)) ≡ ws
  unfolding Sized W word
  part-is N m q k ws s l h says = ext_get_or 0 _ ws size (λ j z. at j (omega (arith, size)))
    where
      size : length (take (length ws) (drop k (Mem.page b m q))) ≡ length ws
      size = simp (length-take, length-drop) (omega (arith, s, mul-le-mul_right (page_words b) l, suc-mul q (page_words b)))

      at : (j : ℕ) → j < length ws → get_or (take (length ws) (drop k (Mem.page b m q))) j 0 ≡ get_or ws j 0
      at j z =
          get_or-take (length ws) (drop k (Mem.page b m q)) j 0 z ∙ get_or-drop k (Mem.page b m q) j 0
          ∙ get_or-take (page_words b) (drop (Mem.start b q) m) (k + j) 0 (omega arith) ∙ get_or-drop (Mem.start b q) m (k + j) 0 ∙ says j z

-- the pages of tables
abbrev pub table_pages : List Three → List ℕ
table_pages [] = []
table_pages (t ∷ ts) = t.page pt ∷ t.page s1 ∷ t.page s2 ∷ table_pages ts

module _ (b : ℕ) (ch : ℕ → List Hop) where
  -- the addresses where pages are first mapped
  abbrev pub places : List ℕ → List ℕ
  places [] = []
  places (q ∷ qs) = addr b (head_v (ch q)) ∷ places qs

  evens-pairs : (ts : List Three) → evens (list_pairs b ch ts) ≡ places (table_pages ts)
  unfolding list_pairs
  evens-pairs [] = refl
  evens-pairs (t ∷ ts) = ap (λ (l : List ℕ). addr b (head_v (ch (t.page pt))) ∷ addr b (head_v (ch (t.page s1))) ∷ addr b (head_v (ch (t.page s2))) ∷ l) (evens-pairs ts)

  pairs-length : (ts : List Three) → length (list_pairs b ch ts) ≡ 6 * length ts
  unfolding list_pairs
  pairs-length [] = refl
  pairs-length (t ∷ ts) = omega (arith, pairs-length ts)

module _ {b : ℕ} (wide : 6 ≤ b) (N : ℕ) (fl : ℕ → Option ℕ) (f m : List ℕ) (A : Abs) (wf : WF b N fl A) (en : Encodes b N f m A) (D : ℕ) (l : A.role D ≡ desc) where
  -- D's own five and the pages of its tables
  abbrev pub kernel_pages : List ℕ
  kernel_pages = D ∷ A.rootp pt D ∷ A.rootp s1 D ∷ A.rootp s2 D ∷ A.lstp D ∷ table_pages (A.threes D)

  D-word : (j : ℕ) → j < W b → word b m D j ≡ get_or (desc_list b A D) j 0
  unfolding role_word
  D-word j h = let n : is_hand (A.role D) ≡ false = ap is_hand l in
      en.says D j (kernel-lt wide N fl A wf D n) h n ∙ ap (λ (z : Role). role_word b f A (cell b A) z D j) l

  five-is : evens (take 10 (Mem.page b m D)) ≡ places b A.chain (D ∷ A.rootp pt D ∷ A.rootp s1 D ∷ A.rootp s2 D ∷ A.lstp D ∷ [])
  unfolding desc_list
  five-is = ap evens (part-is wide N m D 0 (take 10 (desc_list b A D)) en.sized (kernel-lt wide N fl A wf D (ap is_hand l)) (twelve-lt wide 9 (omega arith)) says)
    where
      says : (j : ℕ) → j < 10 → word b m D (0 + j) ≡ get_or (take 10 (desc_list b A D)) j 0
      says j h = let e : 0 + j ≡ j = omega arith in ap (word b m D) e ∙ D-word j (twelve-lt wide j (omega arith)) ∙ sym (get_or-take 10 (desc_list b A D) j 0 h)

  listed-is : listed b m D ≡ list_pairs b A.chain (A.threes D)
  unfolding list_list word
  listed-is = rw (list-page wide N fl f m A wf en D l, count) (part-is wide N m (A.lstp D) 1 ps en.sized (list-lt wide N fl f m A wf en D l) fits says)
    where
      ps : List ℕ
      ps = list_pairs b A.chain (A.threes D)

      fits : 1 + length ps ≤ W b
      fits = omega (arith, pairs-length b A.chain (A.threes D), wf.ten D l, sixty_one wide)

      count : word b m (A.lstp D) 0 - 1 ≡ length ps
      count = omega (arith, free-is wide N fl f m A wf en D l, pairs-length b A.chain (A.threes D))

      says : (j : ℕ) → j < length ps → word b m (A.lstp D) (1 + j) ≡ get_or ps j 0
      says j h = let e : 1 + j ≡ suc j = omega arith in ap (word b m (A.lstp D)) e ∙ list-word wide N fl f m A wf en D l (suc j) (omega (arith, fits))

  pub kernel-is : kernel_addresses b m D ≡ places b A.chain kernel_pages
  kernel-is = ap₂ (λ (xs ys : List ℕ). xs ++ ys) five-is (ap evens listed-is ∙ evens-pairs b A.chain (A.threes D))

-- ---- the pages are returned

-- p is one of the list
abbrev pub In : ℕ → List ℕ → Type 0
In p [] = ⊥
In p (q ∷ qs) = (p ≡ q) ⊎ In p qs

own-zero : (r : Role) (q d : ℕ) → Owner r q d → q ≢ d → own_word r ≡ 0
own-zero header q d w n = refl
own-zero hand q d w n = refl
own-zero blank q d w n = refl
own-zero desc q d w n = absurd (n w)
own-zero (root k e) q d w n = refl
own-zero (lst e) q d w n = refl
own-zero (tab k e i) q d w n = refl

true-false : {X : Type 0} {β : Bool} → β ≡ true → β ≡ false → X
true-false a e = let z : ◌≡◌ {A = ℕ} 0 1 = cc in absurd (omega arith)

module _ {b : ℕ} (wide : 6 ≤ b) (N : ℕ) (fl : ℕ → Option ℕ) (f : List ℕ) (A : Abs) (wf : WF b N fl A) (o D : ℕ) (pre : DelPre A o D) where
  abbrev B : Abs
  B = del_a A D

  abbrev Mix : (ℕ → Bool) → Cells
  Mix = mix wide N fl f A wf o D pre

  -- all of qs are used by D
  abbrev pub Owned : List ℕ → Type 0
  Owned [] = Unit {0}
  Owned (q ∷ qs) = Owner (A.role q) q D × Owned qs

  -- a page of D is first mapped where it was
  pub record Kept (q : ℕ) : Type 0 where
    pub back : Back wide N fl f A wf o D pre q
    pub is : A.chain q ≡ back.hop ∷ back.rest

  pub own_back : (q : ℕ) → Owner (A.role q) q D → Kept q
  own_back q w =
      let x = back wide N fl f A wf o D pre q (λ s. s.other w) in
      record { back = x; is = sym (cut-none D (A.chain q) (after-parts D (A.chain D) (A.chain q) (sym (wf.kernel q D w)) (no_self wide N fl A wf o D pre))) ∙ x.is }

  -- its shadow 1 word is 0, but for the descriptor's
  own-lent : (S : ℕ → Bool) (q : ℕ) → S D ≡ true → (w : Owner (A.role q) q D) → Mix S s1 o (own_back q w).back.hop.vp ≡ 0
  unfolding choose lent_word
  own-lent S q d w = go (S q) refl
    where
      x : Kept q
      x = own_back q w

      e : A.maps o x.back.hop.vp ≡ some q
      e = at-A wide N fl f A wf o D pre q x.back S

      go : (β : Bool) → S q ≡ β → Mix S s1 o x.back.hop.vp ≡ 0
      go true z = back-lent wide N fl f A wf o D pre q x.back S z
      go false z =
          mix-some wide N fl f A wf o D pre S s1 o x.back.hop.vp q e ∙ ap (λ (β : Bool). choose β (cell b B s1 o x.back.hop.vp) (cell b A s1 o x.back.hop.vp)) z
          ∙ cell-s1 wide A o x.back.hop.vp q _ e (ap (seek none o) x.is ∙ seek-here none o x.back.hop x.back.rest (sym x.back.part))
          ∙ own-zero (A.role q) q D w (λ y. true-false (ap S y ∙ d) z)

  -- the pages qs have come back besides those in S; the memory was m₀ before the call
  pub record Returned (m₀ : List ℕ) (S : ℕ → Bool) (qs : List ℕ) (m : List ℕ) : Type 0 where
    pub pages : ℕ → Bool
    pub mid : Midway wide N fl f A wf o D pre m₀ (Mix pages) pages m
    pub before : (p : ℕ) → S p ≡ true → pages p ≡ true
    pub all : (p : ℕ) → In p qs → pages p ≡ true

  pub stay : (S : ℕ → Bool) (q p : ℕ) → S p ≡ true → Dec (p ≡ q) → upd S q true p ≡ true
  stay S q p e (yes y) = rw y (upd_same S q true)
  stay S q p e (no n) = upd_other S q true p n ∙ e

  done : {m₀ : List ℕ} (q : ℕ) (qs : List ℕ) (S : ℕ → Bool) (m : List ℕ) → Returned m₀ (upd S q true) qs m → Returned m₀ S (q ∷ qs) m
  done q qs S m r = record { pages = r.pages; mid = r.mid; before = λ p z. r.before p (stay S q p z (eqd p q)); all = all }
    where
      all : (p : ℕ) → In p (q ∷ qs) → r.pages p ≡ true
      all p (inl e) = r.before p (rw e (upd_same S q true))
      all p (inr i) = r.all p i

  pub all-returned : {m₀ : List ℕ} (qs : List ℕ) (S : ℕ → Bool) (m : List ℕ) → Owned qs → S D ≡ true
      → Midway wide N fl f A wf o D pre m₀ (Mix S) S m → Returned m₀ S qs (return_all b m o (places b A.chain qs))
  all-returned [] S m w d mid = record { pages = S; mid = mid; before = λ p z. z; all = λ p z. absurd z }
  all-returned {m₀} (q ∷ qs) S m w d mid =
      let x = own_back q w.0 in
      done q qs S _ (all-returned qs (upd S q true) (return_page b true m o (addr b (head_v (A.chain q)))) w.1 (stay S q D d (eqd D q))
      (subst (λ (v : ℕ). Midway wide N fl f A wf o D pre m₀ (Mix (upd S q true)) (upd S q true) (return_page b true m o (addr b v)))
      (sym (ap head_v x.is))
      (return-page wide N fl f A wf o D pre q x.back S m₀ m (owner-kernel (A.role q) q D w.0) (own-lent S q d w.0) mid)))
