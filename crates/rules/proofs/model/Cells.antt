-- Words of tables are set one at a time: the memory then stands for the old state with another function of cells.
use mathlib.Core.Path.{◌≡◌, refl, sym, ap, ◌∙◌}
use mathlib.Core.Bool.{Bool, true, false}
use mathlib.Core.Option.{Option, some}
use mathlib.Core.List.{List, [], ◌∷◌}
use Prim.Native.Nat.{ℕ, zero, suc, ◌+◌, ◌*◌, ◌≤◌, ◌<◌}
use native.Mathlib.Omega.{arith}
use lib.ListN.{length, get_or}
use Rattle.rules.proofs.model.Base.{eqd, both, pick, pick_yes, pick_no}
use Rattle.rules.proofs.model.Words.{W, word, put, join, idx, off, put-sized, word-put-same, word-put-other, off-lt, join-cut, idx-join, off-join}
use Rattle.rules.proofs.model.Abs.{Kind, pt, s1, s2, Role, header, hand, blank, desc, root, lst, tab, Hop, Three, three_at, Abs, Tabs, WF, Cells, Encodes, EncodesC, is_hand, cell, desc_list, head_list, list_pairs, list_list, role_word}
use Rattle.rules.proofs.model.Read.{put_at, put-there, entry-three, kernel-lt}
use Rattle.rules.proofs.model.Facts.{some_inj, differ}

kn : Kind → ℕ
kn pt = 0
kn s1 = 1
kn s2 = 2

kn-back : ℕ → Kind
kn-back zero = pt
kn-back (suc zero) = s1
kn-back (suc (suc n)) = s2

kn-is : (k : Kind) → kn-back (kn k) ≡ k
unfolding kn kn-back
kn-is pt = refl
kn-is s1 = refl
kn-is s2 = refl

kind_of : (a β : Kind) → Dec (kn a ≡ kn β) → Dec (a ≡ β)
kind_of a β (yes e) = yes (sym (kn-is a) ∙ ap kn-back e ∙ kn-is β)
kind_of a β (no n) = no (λ e. n (ap kn e))

pub kindd : (a β : Kind) → Dec (a ≡ β)
kindd a β = kind_of a β (eqd (kn a) (kn β))

abbrev pub Same : Kind → ℕ → ℕ → Kind → ℕ → ℕ → Type 0
Same k d v k₀ d₀ v₀ = (k ≡ k₀) × ((d ≡ d₀) × (v ≡ v₀))

pub samed : (k : Kind) (d v : ℕ) (k₀ : Kind) (d₀ v₀ : ℕ) → Dec (Same k d v k₀ d₀ v₀)
samed k d v k₀ d₀ v₀ = both (kindd k k₀) (both (eqd d d₀) (eqd v v₀))

unfoldable pub upd_c : Cells → Kind → ℕ → ℕ → ℕ → Cells
upd_c C k₀ d₀ v₀ x k d v = pick (samed k d v k₀ d₀ v₀) x (C k d v)

pub upd_c-same : (C : Cells) (k : Kind) (d v x : ℕ) → upd_c C k d v x k d v ≡ x
unfolding upd_c
upd_c-same C k d v x = pick_yes (samed k d v k d v) x (C k d v) (refl, (refl, refl))

pub upd_c-other : (C : Cells) (k₀ : Kind) (d₀ v₀ x : ℕ) (k : Kind) (d v : ℕ) → ¬ ((k ≡ k₀) × ((d ≡ d₀) × (v ≡ v₀))) → upd_c C k₀ d₀ v₀ x k d v ≡ C k d v
unfolding upd_c
upd_c-other C k₀ d₀ v₀ x k d v h = pick_no (samed k d v k₀ d₀ v₀) x (C k d v) h

-- three places set, and set back
pub undo : (C D : Cells) (k₁ : Kind) (d₁ v₁ x₁ : ℕ) (k₂ : Kind) (d₂ v₂ x₂ : ℕ) (k₃ : Kind) (d₃ v₃ x₃ y₁ y₂ y₃ : ℕ)
    → C k₁ d₁ v₁ ≡ y₁ → C k₂ d₂ v₂ ≡ y₂ → C k₃ d₃ v₃ ≡ y₃ → (k : Kind) (d v : ℕ)
    → D k d v ≡ upd_c (upd_c (upd_c C k₁ d₁ v₁ x₁) k₂ d₂ v₂ x₂) k₃ d₃ v₃ x₃ k d v
    → C k d v ≡ upd_c (upd_c (upd_c D k₁ d₁ v₁ y₁) k₂ d₂ v₂ y₂) k₃ d₃ v₃ y₃ k d v
undo C D k₁ d₁ v₁ x₁ k₂ d₂ v₂ x₂ k₃ d₃ v₃ x₃ y₁ y₂ y₃ e₁ e₂ e₃ k d v h = go (samed k d v k₁ d₁ v₁) (samed k d v k₂ d₂ v₂) (samed k d v k₃ d₃ v₃)
  where
    D₁ : Cells
    D₁ = upd_c D k₁ d₁ v₁ y₁

    D₂ : Cells
    D₂ = upd_c D₁ k₂ d₂ v₂ y₂

    go : Dec (Same k d v k₁ d₁ v₁) → Dec (Same k d v k₂ d₂ v₂) → Dec (Same k d v k₃ d₃ v₃) → C k d v ≡ upd_c D₂ k₃ d₃ v₃ y₃ k d v
    go a β (yes s) =
        let u : C k d v ≡ y₃ = rw (s.0, s.1.0, s.1.1) e₃ in
        let w : upd_c D₂ k₃ d₃ v₃ y₃ k d v ≡ y₃ = rw (s.0, s.1.0, s.1.1) (upd_c-same D₂ k₃ d₃ v₃ y₃) in
        u ∙ sym w
    go a (yes s) (no n) =
        let u : C k d v ≡ y₂ = rw (s.0, s.1.0, s.1.1) e₂ in
        let w : D₂ k d v ≡ y₂ = rw (s.0, s.1.0, s.1.1) (upd_c-same D₁ k₂ d₂ v₂ y₂) in
        u ∙ sym w ∙ sym (upd_c-other D₂ k₃ d₃ v₃ y₃ k d v n)
    go (yes s) (no m) (no n) =
        let u : C k d v ≡ y₁ = rw (s.0, s.1.0, s.1.1) e₁ in
        let w : D₁ k d v ≡ y₁ = rw (s.0, s.1.0, s.1.1) (upd_c-same D k₁ d₁ v₁ y₁) in
        u ∙ sym w ∙ sym (upd_c-other D₁ k₂ d₂ v₂ y₂ k d v m) ∙ sym (upd_c-other D₂ k₃ d₃ v₃ y₃ k d v n)
    go (no l) (no m) (no n) =
        sym (upd_c-other D₂ k₃ d₃ v₃ y₃ k d v n ∙ upd_c-other D₁ k₂ d₂ v₂ y₂ k d v m ∙ upd_c-other D k₁ d₁ v₁ y₁ k d v l
        ∙ h ∙ upd_c-other (upd_c (upd_c C k₁ d₁ v₁ x₁) k₂ d₂ v₂ x₂) k₃ d₃ v₃ x₃ k d v n ∙ upd_c-other (upd_c C k₁ d₁ v₁ x₁) k₂ d₂ v₂ x₂ k d v m ∙ upd_c-other C k₁ d₁ v₁ x₁ k d v l)

abbrev pub is_tab : Role → Bool
is_tab header = false
is_tab hand = false
is_tab blank = false
is_tab desc = false
is_tab (root k d) = false
is_tab (lst d) = false
is_tab (tab k d i) = true

pub data TabView (r : Role) : Type 0 where
  table : (k : Kind) (d i : ℕ) → r ≡ tab k d i → TabView r
  no_table : is_tab r ≡ false → TabView r

pub tab-view : (r : Role) → TabView r
tab-view header = no_table refl
tab-view hand = no_table refl
tab-view blank = no_table refl
tab-view desc = no_table refl
tab-view (root k d) = no_table refl
tab-view (lst d) = no_table refl
tab-view (tab k d i) = table k d i refl

pub no-tab : {P : Type 0} {r : Role} {k : Kind} {d i : ℕ} → r ≡ tab k d i → is_tab r ≡ false → P
no-tab a β = let z : ◌≡◌ {A = ℕ} 0 1 = cc in absurd (omega arith)

module _ {b : ℕ} (wide : 6 ≤ b) where
  -- only tables' words are cells
  pub role_word_else : (f : List ℕ) (A : Abs) (C C' : Cells) (r : Role) (q j : ℕ) → is_tab r ≡ false → role_word b f A C r q j ≡ role_word b f A C' r q j
  unfolding role_word
  role_word_else f A C C' header q j e = refl
  role_word_else f A C C' hand q j e = refl
  role_word_else f A C C' blank q j e = refl
  role_word_else f A C C' desc q j e = refl
  role_word_else f A C C' (root k d) q j e = refl
  role_word_else f A C C' (lst d) q j e = refl
  role_word_else f A C C' (tab k d i) q j e = no-tab {k = k} {d = d} {i = i} refl e

-- a table has one page
abbrev pub TabOnce : (ℕ → Role) → Type 0
TabOnce role = (k : Kind) (d i q q' : ℕ) → role q ≡ tab k d i → role q' ≡ tab k d i → q ≡ q'

module _ {b : ℕ} (wide : 6 ≤ b) where
  pub tab-one : (N : ℕ) (fl : ℕ → Option ℕ) (A : Abs) → WF b N fl A → TabOnce A.role
  tab-one N fl A wf k d i q q' e e' =
      let x = wf.tab_inv k d i q e in
      let y = wf.tab_inv k d i q' e' in
      let s : x.1 ≡ y.1 = some_inj (sym x.2 ∙ y.2) in
      sym x.3 ∙ ap (λ (t : Three). t.page k) s ∙ y.3

tab_inj : {k k₀ : Kind} {d d₀ i i₀ : ℕ} → tab k d i ≡ tab k₀ d₀ i₀ → (k ≡ k₀) × ((d ≡ d₀) × (i ≡ i₀))
tab_inj e = (cc, (cc, cc))

module _ {b : ℕ} (wide : 6 ≤ b) where
  module _ (N : ℕ) (f : List ℕ) (A : Abs) (one : TabOnce A.role) where
    -- one word of a table is set
    pub put-cell : (m : List ℕ) (C : Cells) (k₀ : Kind) (d₀ v₀ P x : ℕ) → A.role P ≡ tab k₀ d₀ (idx b v₀) → P < N → EncodesC b N f m A C → EncodesC b N f (put b m P (off b v₀) x) A (upd_c C k₀ d₀ v₀ x)
    unfolding role_word
    put-cell m C k₀ d₀ v₀ P x r_p l_p en = record { sized = put-sized wide N m P (off b v₀) x en.sized; says = λ q j l β h. go q j l β h (tab-view (A.role q)) }
      where
        other : (q j : ℕ) → j < W b → ¬ ((q ≡ P) × (j ≡ off b v₀)) → word b (put b m P (off b v₀) x) q j ≡ word b m q j
        other q j β n = word-put-other wide m P (off b v₀) x q j (off-lt wide v₀) β n

        go : (q j : ℕ) → q < N → j < W b → is_hand (A.role q) ≡ false → TabView (A.role q) → word b (put b m P (off b v₀) x) q j ≡ role_word b f A (upd_c C k₀ d₀ v₀ x) (A.role q) q j
        go q j l β h (no_table e) =
            other q j β (λ y. no-tab r_p (rw y.0 at e)) ∙ en.says q j l β h
            ∙ role_word_else wide f A C (upd_c C k₀ d₀ v₀ x) (A.role q) q j e
        go q j l β h (table k d i e) = rw e (on (samed k d (join b i j) k₀ d₀ v₀))
          where
            on : Dec ((k ≡ k₀) × ((d ≡ d₀) × (join b i j ≡ v₀))) → word b (put b m P (off b v₀) x) q j ≡ upd_c C k₀ d₀ v₀ x k d (join b i j)
            on (yes y) =
                let ii : idx b v₀ ≡ i = ap (idx b) (sym y.1.1) ∙ idx-join wide i j β in
                let jj : off b v₀ ≡ j = ap (off b) (sym y.1.1) ∙ off-join wide i j β in
                let q_p : P ≡ q = one k d i P q (r_p ∙ (rw (y.0, y.1.0, ii) refl)) e in
                let a : word b (put b m P (off b v₀) x) q j ≡ x = rw (jj, q_p) (word-put-same wide N m q j x en.sized l β) in
                let c : upd_c C k₀ d₀ v₀ x k d (join b i j) ≡ x = rw (y.0, y.1.0, y.1.1) (upd_c-same C k₀ d₀ v₀ x) in
                a ∙ sym c
            on (no n) =
                other q j β (λ y. n (let z = tab_inj (sym e ∙ (rw y.0 r_p)) in (z.0, (z.1.0, ap (λ (w : ℕ). join b w j) z.1.1 ∙ ap (join b (idx b v₀)) y.1 ∙ join-cut wide v₀))))
                ∙ (rw e at (en.says q j l β h)) ∙ sym (upd_c-other C k₀ d₀ v₀ x k d (join b i j) n)

-- the state with other chains and maps
abbrev pub rechain : Abs → (ℕ → List Hop) → (ℕ → ℕ → Option ℕ) → Abs
rechain A ch mp = record { role = A.role; chain = ch; maps = mp; rootp = A.rootp; lstp = A.lstp; threes = A.threes; vcli = A.vcli; cur = A.cur }

module _ {b : ℕ} (wide : 6 ≤ b) where
  -- a word of a table set by its place in the tables
  pub set-cell : (N : ℕ) (fl : ℕ → Option ℕ) (f : List ℕ) (A : Abs) (wf : WF b N fl A) (m : List ℕ) (C : Cells) → EncodesC b N f m A C
      → (k : Kind) (d v : ℕ) (t : Three) → A.role d ≡ desc → three_at (idx b v) (A.threes d) ≡ some t → (x : ℕ)
      → EncodesC b N f (put_at b m k d v x) A (upd_c C k d v x)
  set-cell N fl f A wf m C en k d v t l e x =
      let y = entry-three wide N fl A wf f m C en k d v t l e in
      rw (put-there b m k d v x y.3, y.0) (put-cell wide N f A (tab-one wide N fl A wf) m C k d v (t.page k) x y.1 (kernel-lt wide N fl A wf (t.page k) (ap is_hand y.1)) en)

  -- pages in hand keep their words
  pub set-hand : (N : ℕ) (fl : ℕ → Option ℕ) (f : List ℕ) (A : Abs) (wf : WF b N fl A) (m : List ℕ) (C : Cells) → EncodesC b N f m A C
      → (k : Kind) (d v : ℕ) (t : Three) → A.role d ≡ desc → three_at (idx b v) (A.threes d) ≡ some t
      → (x q j : ℕ) → A.role q ≡ hand → j < W b → word b (put_at b m k d v x) q j ≡ word b m q j
  set-hand N fl f A wf m C en k d v t l e x q j h n =
      let y = entry-three wide N fl A wf f m C en k d v t l e in
      ap (λ (z : List ℕ). word b z q j) (put-there b m k d v x y.3)
      ∙ word-put-other wide m _ (off b v) x q j (off-lt wide v) n (λ z. differ (sym h ∙ ap A.role (z.0 ∙ y.0) ∙ y.1) (omega arith))

  -- the words outside tables show chains of kernel pages only
  module _ (N : ℕ) (fl : ℕ → Option ℕ) (f : List ℕ) (A : Abs) (wf : WF b N fl A) (ch : ℕ → List Hop) (mp : ℕ → ℕ → Option ℕ)
      (keep : (q : ℕ) → is_hand (A.role q) ≡ false → ch q ≡ A.chain q) where
    pairs-keep : (d : ℕ) (ts : List Three) → Tabs b A.role d ts → list_pairs b ch ts ≡ list_pairs b A.chain ts
    unfolding list_pairs
    pairs-keep d [] g = refl
    pairs-keep d (t ∷ ts) g =
        rw (keep (t.page pt) (ap is_hand (g.0.pages pt)), keep (t.page s1) (ap is_hand (g.0.pages s1)), keep (t.page s2) (ap is_hand (g.0.pages s2)), pairs-keep d ts g.1) refl

    desc-keep : (q : ℕ) → A.role q ≡ desc → desc_list b (rechain A ch mp) q ≡ desc_list b A q
    unfolding desc_list
    desc-keep q e =
        rw (keep q (ap is_hand e), keep (A.rootp pt q) (ap is_hand (wf.root_role pt q e)), keep (A.rootp s1 q) (ap is_hand (wf.root_role s1 q e)), keep (A.rootp s2 q) (ap is_hand (wf.root_role s2 q e)), keep (A.lstp q) (ap is_hand (wf.lst_role q e))) refl

    else_keep : (C C' : Cells) (r : Role) (q j : ℕ) → A.role q ≡ r → is_tab r ≡ false → role_word b f (rechain A ch mp) C' r q j ≡ role_word b f A C r q j
    unfolding role_word head_list list_list
    else_keep C C' header q j e n = refl
    else_keep C C' hand q j e n = refl
    else_keep C C' blank q j e n = refl
    else_keep C C' desc q j e n = ap (λ (l : List ℕ). get_or l j 0) (desc-keep q e)
    else_keep C C' (root k d) q j e n = refl
    else_keep C C' (lst d) q j e n = ap (λ (l : List ℕ). get_or ((1 + 6 * length (A.threes d)) ∷ l) j 0) (pairs-keep d (A.threes d) (wf.tabs d (wf.lst_inv d q e).0))
    else_keep C C' (tab k d i) q j e n = no-tab {k = k} {d = d} {i = i} refl n

    pub rechained : (m : List ℕ) (C : Cells) → ((k : Kind) (d v : ℕ) → A.role d ≡ desc → cell b (rechain A ch mp) k d v ≡ C k d v) → EncodesC b N f m A C → Encodes b N f m (rechain A ch mp)
    unfolding role_word
    rechained m C c en = record { sized = en.sized; says = λ q j l β h. en.says q j l β h ∙ go q j (tab-view (A.role q)) }
      where
        go : (q j : ℕ) → TabView (A.role q) → role_word b f A C (A.role q) q j ≡ role_word b f (rechain A ch mp) (cell b (rechain A ch mp)) (A.role q) q j
        go q j (no_table e) = sym (else_keep C (cell b (rechain A ch mp)) (A.role q) q j refl e)
        go q j (table k d i e) = rw e (sym (c k d (join b i j) (wf.tab_inv k d i q e).0))
