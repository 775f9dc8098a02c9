-- Take and return: the accessible bit of a page is set in a partition and in each one above it, following shadow 2.
use mathlib.Core.Path.{◌≡◌, refl, sym, ap, ◌∙◌, subst}
use mathlib.Core.Logic.{◌≢◌}
use mathlib.Core.Bool.{Bool, true, false}
use mathlib.Core.Option.{Option, none, some}
use mathlib.Core.List.{List, [], ◌∷◌}
use Prim.Native.Nat.{ℕ, zero, suc, ◌≤◌, ◌<◌, ◌-◌}
use native.Mathlib.Omega.{arith}
use lib.ListN.{length}
use Rattle.memory.specs.Geometry.{address}
use Rattle.memory.proofs.Geometry.{page-address}
use Rattle.rules.specs.Moves.{mark}
use Rattle.rules.proofs.Turns.{mark-root, mark-up}
use Rattle.rules.proofs.model.Base.{eqd, upd, upd_same, upd_other}
use Rattle.rules.proofs.model.Words.{bit, W, addr, word, pte, page_of, page_of-addr, set_acc, set_acc-pte, wipe, wipe-sized, wipe-other, wipe-same, twelve-lt}
use Rattle.rules.proofs.model.Abs.{Kind, pt, s1, s2, Role, header, hand, blank, desc, root, lst, tab, Hop, Abs, parts, head_v, head_p, Seen, seek, GoodHop, Good, WF, Cells, Encodes, EncodesC, is_hand, own_word, lent_word, seen_word, cell, role_word, desc_list, head_list}
use Rattle.rules.proofs.model.Apart.{pt-s1, pt-s2}
use Rattle.rules.proofs.model.Facts.{in_range, nil_cons, length-parts, seek-here, seek-on, seek_nil, none-some, some_inj}
use Rattle.rules.proofs.model.Read.{root_page, entry_at, put_at, entry-three, kernel-lt, cell-none, cell-some}
use Rattle.rules.proofs.model.Cells.{upd_c, upd_c-same, upd_c-other, set-cell, set-hand}
use Rattle.rules.proofs.model.Roles.{set_role, is_free, role-wf, true-false}

module _ (b : ℕ) where
  -- on the words: at most n partitions, up to the one with no parent
  unfoldable pub walk : Bool → ℕ → List ℕ → ℕ → ℕ → List ℕ
  walk β n m d v = mark b n (bit β) m d (addr b v)

  -- the cells after it
  unfoldable pub flag : Bool → ℕ → List Hop → Cells → Cells
  flag β p [] C = C
  flag β p (h ∷ hs) C = flag β p hs (upd_c C pt h.part h.vp (pte b p β h.rt))

  -- the cells of a chain are those of its page
  abbrev pub Fits : Bool → Cells → ℕ → List Hop → Type 0
  Fits a C p [] = Unit {0}
  Fits a C p (h ∷ hs) = ((C pt h.part h.vp ≡ pte b p a h.rt) × (C s2 h.part h.vp ≡ addr b (head_v hs))) × Fits a C p hs

module _ (b : ℕ) (β : Bool) (n : ℕ) (m : List ℕ) (d v : ℕ) where
  -- one turn
  pub walk-root : page_of b (word b m d 11) ≡ 0 → walk b β (suc n) m d v ≡ put_at b m pt d v (set_acc b β (entry_at b m pt d v))
  unfolding walk put_at entry_at root_page set_acc addr page_of word
  walk-root e = mark-root b (bit β) m d (address b v) (suc n) (omega arith) e ∙ (rw (page-address b v) refl)

  pub walk_up : (u : ℕ) → page_of b (word b m d 11) ≢ 0 → entry_at b m s2 d v ≡ addr b u
      → walk b β (suc n) m d v ≡ walk b β n (put_at b m pt d v (set_acc b β (entry_at b m pt d v))) (page_of b (word b m d 11)) u
  unfolding walk put_at entry_at root_page set_acc addr page_of word
  walk_up u ne e =
      let k : suc n - 1 ≡ n = omega arith in
      mark-up b (bit β) m d (address b v) (suc n) (omega arith) ne ∙ (rw (page-address b v, k, e) refl)

head_p-parts : (hs gs : List Hop) → parts hs ≡ parts gs → head_p hs ≡ head_p gs
head_p-parts [] [] e = refl
head_p-parts [] (g ∷ gs) e = nil_cons e
head_p-parts (h ∷ hs) [] e = nil_cons (sym e)
head_p-parts (h ∷ hs) (g ∷ gs) e = cc

module _ {b : ℕ} (wide : 6 ≤ b) where
  pub parent-word : (f : List ℕ) (A : Abs) (C : Cells) (d : ℕ) → role_word b f A C desc d 11 ≡ addr b (head_p (A.chain d))
  unfolding role_word desc_list
  parent-word f A C d = refl

header-desc : {P : Type 0} {r : Role} → r ≡ header → r ≡ desc → P
header-desc a β = let z : ◌≡◌ {A = ℕ} 0 1 = cc in absurd (omega arith)

module _ {b : ℕ} (wide : 6 ≤ b) where
  -- a hop's partition is as deep as the hop
  pub hop-depth : (A : Abs) (p : ℕ) (h : Hop) (hs : List Hop) → GoodHop b A p h hs → length (A.chain h.part) ≡ length hs
  hop-depth A p h hs g = sym (length-parts (A.chain h.part)) ∙ sym (ap length g.above) ∙ length-parts hs

  -- partitions that are as deep as the chain is long do not occur in it
  fits_upd : (A : Abs) (a : Bool) (p : ℕ) (hs : List Hop) (C : Cells) (d v x : ℕ) → Good b A p hs → length hs ≤ length (A.chain d) → Fits b a C p hs → Fits b a (upd_c C pt d v x) p hs
  fits_upd A a p [] C d v x g l t = tt
  fits_upd A a p (h ∷ hs) C d v x g l t =
      let n : h.part ≢ d = λ e. omega (arith, hop-depth A p h hs g.0, (ap (λ (z : ℕ). length (A.chain z)) e)) in
      ((upd_c-other C pt d v x pt h.part h.vp (λ y. n y.1.0) ∙ t.0.0, upd_c-other C pt d v x s2 h.part h.vp (λ y. pt-s2 (sym y.0)) ∙ t.0.1), fits_upd A a p hs C d v x g.1 (omega arith) t.1)

  -- what the walk leaves, and what it sets
  pub flag-kind : (β : Bool) (p : ℕ) (hs : List Hop) (C : Cells) (k : Kind) (d v : ℕ) → k ≢ pt → flag b β p hs C k d v ≡ C k d v
  unfolding flag
  flag-kind β p [] C k d v n = refl
  flag-kind β p (h ∷ hs) C k d v n = flag-kind β p hs _ k d v n ∙ upd_c-other C pt h.part h.vp _ k d v (λ y. n y.0)

  pub flag-none : (A : Abs) (β : Bool) (p : ℕ) (hs : List Hop) (C : Cells) (k : Kind) (d v : ℕ) → Good b A p hs → A.maps d v ≢ some p → flag b β p hs C k d v ≡ C k d v
  unfolding flag
  flag-none A β p [] C k d v g n = refl
  flag-none A β p (h ∷ hs) C k d v g n = flag-none A β p hs _ k d v g.1 n ∙ upd_c-other C pt h.part h.vp _ k d v (λ y. n (rw (y.1.0, y.1.1) g.0.mapped))

  flag-above : (A : Abs) (β : Bool) (p : ℕ) (hs : List Hop) (C : Cells) (k : Kind) (d v : ℕ) → Good b A p hs → length hs ≤ length (A.chain d) → flag b β p hs C k d v ≡ C k d v
  unfolding flag
  flag-above A β p [] C k d v g l = refl
  flag-above A β p (h ∷ hs) C k d v g l =
      flag-above A β p hs _ k d v g.1 (omega arith) ∙ upd_c-other C pt h.part h.vp _ k d v (λ y. omega (arith, hop-depth A p h hs g.0, ap (λ (z : ℕ). length (A.chain z)) y.1.0))

  pub flag-hit : (A : Abs) (β : Bool) (p : ℕ) (hs : List Hop) (C : Cells) (d v : ℕ) (γ : Option ℕ) (s : Seen) → Good b A p hs → seek γ d hs ≡ some s → s.vp ≡ v → flag b β p hs C pt d v ≡ pte b p β s.rt
  unfolding flag
  flag-hit A β p [] C d v γ s g e z = none-some (sym (seek_nil γ d) ∙ e)
  flag-hit A β p (h ∷ hs) C d v γ s g e z = go (eqd d h.part) (λ e'. flag-hit A β p hs _ d v (some h.part) s g.1 e' z)
    where
      C' : Cells
      C' = upd_c C pt h.part h.vp (pte b p β h.rt)

      go : Dec (d ≡ h.part) → (seek (some h.part) d hs ≡ some s → flag b β p hs C' pt d v ≡ pte b p β s.rt) → flag b β p hs C' pt d v ≡ pte b p β s.rt
      go (yes q) ih =
          let w : record { vp = h.vp; rt = h.rt; up = head_v hs; below = γ } ≡ s = some_inj (sym (seek-here γ d h hs q) ∙ e) in
          let x : h.vp ≡ v = ap (λ (z : Seen). z.vp) w ∙ z in
          let y : C' pt d v ≡ pte b p β h.rt = rw (q, ← x) (upd_c-same C pt h.part h.vp (pte b p β h.rt)) in
          flag-above A β p hs C' pt d v g.1 (omega (arith, hop-depth A p h hs g.0, ap (λ (z : ℕ). length (A.chain z)) q)) ∙ y ∙ ap (pte b p β) (ap (λ (z : Seen). z.rt) w)
      go (no q) ih = ih (sym (seek-on γ d h hs q) ∙ e)

  module _ (N : ℕ) (fl : ℕ → Option ℕ) (f : List ℕ) (A : Abs) (wf : WF b N fl A) (p : ℕ) (a β : Bool) where
    -- one step: the word set, and where the walk goes on
    pub record Step (h : Hop) (hs : List Hop) (m : List ℕ) (C : Cells) : Type 0 where
      pub after : EncodesC b N f (put_at b m pt h.part h.vp (set_acc b β (entry_at b m pt h.part h.vp))) A (upd_c C pt h.part h.vp (pte b p β h.rt))
      pub parent : page_of b (word b m h.part 11) ≡ head_p hs
      pub next : entry_at b m s2 h.part h.vp ≡ addr b (head_v hs)

    step : (h : Hop) (hs : List Hop) (m : List ℕ) (C : Cells) → Good b A p (h ∷ hs) → Fits b a C p (h ∷ hs) → EncodesC b N f m A C → Step h hs m C
    step h hs m C g t en =
        let th = g.0.three in
        let l : A.role h.part ≡ desc = g.0.live in
        let x = entry-three wide N fl A wf f m C en pt h.part h.vp th.0 l th.1 in
        let y = entry-three wide N fl A wf f m C en s2 h.part h.vp th.0 l th.1 in
        let nh : is_hand (A.role h.part) ≡ false = ap is_hand l in
        let w : word b m h.part 11 ≡ addr b (head_p (A.chain h.part)) = en.says h.part 11 (kernel-lt wide N fl A wf h.part nh) (twelve-lt wide 11 (omega arith)) nh ∙ (rw l (parent-word wide f A C h.part)) in
        record {
          after = rw (x.2, t.0.0, set_acc-pte wide p a β h.rt g.0.small) (set-cell wide N fl f A wf m C en pt h.part h.vp th.0 l th.1 (pte b p β h.rt));
          parent = ap (page_of b) w ∙ page_of-addr wide (head_p (A.chain h.part)) ∙ sym (head_p-parts hs (A.chain h.part) g.0.above);
          next = y.2 ∙ t.0.1;
        }

    pub walked : (n : ℕ) (h : Hop) (hs : List Hop) (m : List ℕ) (C : Cells) → length hs < n → Good b A p (h ∷ hs) → Fits b a C p (h ∷ hs) → EncodesC b N f m A C → EncodesC b N f (walk b β n m h.part h.vp) A (flag b β p (h ∷ hs) C)
    unfolding flag
    walked zero h hs m C l g t en = absurd (omega arith)
    walked (suc n) h [] m C l g t en =
        let s : Step h [] m C = step h [] m C g t en in
        subst (λ (z : List ℕ). EncodesC b N f z A (upd_c C pt h.part h.vp (pte b p β h.rt))) (sym (walk-root b β n m h.part h.vp s.parent)) s.after
    walked (suc n) h (u ∷ us) m C l g t en =
        let s : Step h (u ∷ us) m C = step h (u ∷ us) m C g t en in
        let nz : u.part ≢ 0 = λ e. header-desc wf.head_role (rw e at g.1.0.live) in
        let r = walked n u us _ _ (omega arith) g.1 (fits_upd A a p (u ∷ us) C h.part h.vp (pte b p β h.rt) g.1 (omega (arith, hop-depth A p h (u ∷ us) g.0)) t.1) s.after in
        subst (λ (z : List ℕ). EncodesC b N f z A (flag b β p (u ∷ us) (upd_c C pt h.part h.vp (pte b p β h.rt)))) (sym (walk_up b β n m h.part h.vp u.vp (λ z. nz (sym s.parent ∙ z)) s.next)) (rw s.parent r)

    -- pages in hand keep their words
    pub walk-hand : (n : ℕ) (h : Hop) (hs : List Hop) (m : List ℕ) (C : Cells) → length hs < n → Good b A p (h ∷ hs) → Fits b a C p (h ∷ hs)
        → EncodesC b N f m A C → (q j : ℕ) → A.role q ≡ hand → j < W b → word b (walk b β n m h.part h.vp) q j ≡ word b m q j
    walk-hand zero h hs m C l g t en q j r k = absurd (omega arith)
    walk-hand (suc n) h [] m C l g t en q j r k =
        let s : Step h [] m C = step h [] m C g t en in
        ap (λ (z : List ℕ). word b z q j) (walk-root b β n m h.part h.vp s.parent)
        ∙ set-hand wide N fl f A wf m C en pt h.part h.vp g.0.three.0 g.0.live g.0.three.1 _ q j r k
    walk-hand (suc n) h (u ∷ us) m C l g t en q j r k =
        let s : Step h (u ∷ us) m C = step h (u ∷ us) m C g t en in
        let nz : u.part ≢ 0 = λ e. header-desc wf.head_role (rw e at g.1.0.live) in
        let m' = put_at b m pt h.part h.vp (set_acc b β (entry_at b m pt h.part h.vp)) in
        let fit = fits_upd A a p (u ∷ us) C h.part h.vp (pte b p β h.rt) g.1 (omega (arith, hop-depth A p h (u ∷ us) g.0)) t.1 in
        let y : word b (walk b β n m' u.part u.vp) q j ≡ word b m' q j = walk-hand n u us m' _ (omega arith) g.1 fit s.after q j r k in
        ap (λ (z : List ℕ). word b z q j) (walk_up b β n m h.part h.vp u.vp (λ z. nz (sym s.parent ∙ z)) s.next)
        ∙ subst (λ (d : ℕ). word b (walk b β n m' d u.vp) q j ≡ word b m' q j) (sym s.parent) y
        ∙ set-hand wide N fl f A wf m C en pt h.part h.vp g.0.three.0 g.0.live g.0.three.1 _ q j r k

  -- only the values of the cells count
  pub encodes_ext : (N : ℕ) (f m : List ℕ) (A : Abs) (C D : Cells) → ((k : Kind) (d v : ℕ) → C k d v ≡ D k d v) → EncodesC b N f m A C → EncodesC b N f m A D
  encodes_ext N f m A C D e en = subst (λ (X : Cells). EncodesC b N f m A X) (λ i k d v. e k d v i) en

  -- the cells of a page's chain
  module _ (N : ℕ) (fl : ℕ → Option ℕ) (A : Abs) (wf : WF b N fl A) (p : ℕ) where
    fits-from : (β : Option ℕ) (hs : List Hop) → Good b A p hs → ((d : ℕ) → length (A.chain d) < length hs → seek none d (A.chain p) ≡ seek β d hs) → Fits b (is_hand (A.role p)) (cell b A) p hs
    unfolding seen_word
    fits-from β [] g e = tt
    fits-from β (h ∷ hs) g e =
        let l : length (A.chain h.part) ≡ length hs = hop-depth A p h hs g.0 in
        let w : seek none h.part (A.chain p) ≡ some (record { vp = h.vp; rt = h.rt; up = head_v hs; below = β }) = e h.part (omega arith) ∙ seek-here β h.part h hs refl in (
          (cell-some wide A pt h.part h.vp p _ g.0.mapped w, cell-some wide A s2 h.part h.vp p _ g.0.mapped w),
          fits-from (some h.part) hs g.1 (λ d k. e d (omega arith) ∙ seek-on β d h hs (λ x. omega (arith, ap (λ (z : ℕ). length (A.chain z)) x))),
        )

    pub fits : Fits b (is_hand (A.role p)) (cell b A) p (A.chain p)
    fits = fits-from none (A.chain p) (wf.good p) (λ d k. refl)

    role-word : (R : Role) (k : Kind) (q : ℕ) (s : Seen) → upd A.role p R q ≡ A.role q → seen_word b (set_role A p R) k q (some s) ≡ seen_word b A k q (some s)
    unfolding seen_word lent_word
    role-word R pt q s e = ap (λ (r : Role). pte b q (is_hand r) s.rt) e
    role-word R s1 q s e = ap (λ (r : Role). lent_word b (set_role A p R) r s.below) e ∙ go s.below
      where
        go : (o : Option ℕ) → lent_word b (set_role A p R) (A.role q) o ≡ lent_word b A (A.role q) o
        go none = refl
        go (some c) = refl
    role-word R s2 q s e = refl

    lent-role : (R : Role) → own_word R ≡ own_word (A.role p) → (o : Option ℕ) → lent_word b (set_role A p R) R o ≡ lent_word b A (A.role p) o
    unfolding lent_word
    lent-role R own none = own
    lent-role R own (some c) = refl

    pub flagged : (R : Role) → own_word R ≡ own_word (A.role p) → (k : Kind) (d v : ℕ) → cell b (set_role A p R) k d v ≡ flag b (is_hand R) p (A.chain p) (cell b A) k d v
    unfolding seen_word
    flagged R own k d v = go (A.maps d v) refl
      where
        go : (x : Option ℕ) → A.maps d v ≡ x → cell b (set_role A p R) k d v ≡ flag b (is_hand R) p (A.chain p) (cell b A) k d v
        go none e = cell-none wide (set_role A p R) k d v e ∙ sym (flag-none A (is_hand R) p (A.chain p) (cell b A) k d v (wf.good p) (λ z. none-some (sym e ∙ z)) ∙ cell-none wide A k d v e)
        go (some q) e = on (wf.seen d v q e).0 (wf.seen d v q e).1 (wf.seen d v q e).2 (eqd q p) k
          where
            on : (s : Seen) → seek none d (A.chain q) ≡ some s → s.vp ≡ v → Dec (q ≡ p) → (k : Kind) → cell b (set_role A p R) k d v ≡ flag b (is_hand R) p (A.chain p) (cell b A) k d v
            on s w z (no n) k =
                cell-some wide (set_role A p R) k d v q s e w ∙ role-word R k q s (upd_other A.role p R q n)
                ∙ sym (flag-none A (is_hand R) p (A.chain p) (cell b A) k d v (wf.good p) (λ x. n (some_inj (sym e ∙ x))) ∙ cell-some wide A k d v q s e w)
            on s w z (yes y) k = at_p (rw y at e) (rw y at w) k
              where
                at_p : A.maps d v ≡ some p → seek none d (A.chain p) ≡ some s → (k : Kind) → cell b (set_role A p R) k d v ≡ flag b (is_hand R) p (A.chain p) (cell b A) k d v
                at_p e w pt = cell-some wide (set_role A p R) pt d v p s e w ∙ ap (λ (r : Role). pte b p (is_hand r) s.rt) (upd_same A.role p R) ∙ sym (flag-hit A (is_hand R) p (A.chain p) (cell b A) d v none s (wf.good p) w z)
                at_p e w s1 = cell-some wide (set_role A p R) s1 d v p s e w ∙ ap (λ (r : Role). lent_word b (set_role A p R) r s.below) (upd_same A.role p R) ∙ lent-role R own s.below
                    ∙ sym (flag-kind (is_hand R) p (A.chain p) (cell b A) s1 d v (λ x. pt-s1 (sym x)) ∙ cell-some wide A s1 d v p s e w)
                at_p e w s2 = cell-some wide (set_role A p R) s2 d v p s e w ∙ sym (flag-kind (is_hand R) p (A.chain p) (cell b A) s2 d v (λ x. pt-s2 (sym x)) ∙ cell-some wide A s2 d v p s e w)

  -- Take and return on the words; the page is h's first mapping
  module _ (N : ℕ) (fl : ℕ → Option ℕ) (f : List ℕ) (A : Abs) (wf : WF b N fl A) (p : ℕ) (R : Role) (free : is_free (A.role p) ≡ true) (Free : is_free R ≡ true)
      (h : Hop) (hs : List Hop) (is : A.chain p ≡ h ∷ hs) where
    free-word : (r : Role) (A : Abs) (C : Cells) (q j : ℕ) → is_free r ≡ true → role_word b f A C r q j ≡ 0
    unfolding role_word
    free-word header A C q j e = true-false e refl
    free-word hand A C q j e = refl
    free-word blank A C q j e = refl
    free-word desc A C q j e = true-false e refl
    free-word (root k d) A C q j e = true-false e refl
    free-word (lst d) A C q j e = true-false e refl
    free-word (tab k d i) A C q j e = true-false e refl

    free_own : (r : Role) → is_free r ≡ true → own_word r ≡ 0
    free_own header e = refl
    free_own hand e = refl
    free_own blank e = refl
    free_own desc e = true-false e refl
    free_own (root k d) e = refl
    free_own (lst d) e = refl
    free_own (tab k d i) e = refl

    -- the words outside tables do not speak of roles
    role_same : (C : Cells) (r : Role) (q j : ℕ) → role_word b f A C r q j ≡ role_word b f (set_role A p R) C r q j
    unfolding role_word head_list desc_list
    role_same C header q j = refl
    role_same C hand q j = refl
    role_same C blank q j = refl
    role_same C desc q j = refl
    role_same C (root k d) q j = refl
    role_same C (lst d) q j = refl
    role_same C (tab k d i) q j = refl

    p-lt : p < N
    p-lt = in_range wide N fl A wf p h hs is

    wiped : (m : List ℕ) (C : Cells) → EncodesC b N f m A C → EncodesC b N f (wipe b m p) (set_role A p R) C
    wiped m C en = record { sized = wipe-sized wide N m p en.sized; says = λ q j l β n. go q j l β n (eqd q p) }
      where
        go : (q j : ℕ) → q < N → j < W b → is_hand (upd A.role p R q) ≡ false → Dec (q ≡ p) → word b (wipe b m p) q j ≡ role_word b f (set_role A p R) C (upd A.role p R q) q j
        go q j l β n (yes e) =
            let u : upd A.role p R q ≡ R = ap (upd A.role p R) e ∙ upd_same A.role p R in
            let w : word b (wipe b m p) q j ≡ 0 = rw e (wipe-same wide N m p j en.sized p-lt β) in
            w ∙ sym (ap (λ (r : Role). role_word b f (set_role A p R) C r q j) u ∙ free-word R (set_role A p R) C q j Free)
        go q j l β n (no e) =
            let u : upd A.role p R q ≡ A.role q = upd_other A.role p R q e in
            wipe-other wide m p q j β e ∙ en.says q j l β (ap is_hand (sym u) ∙ n) ∙ role_same C (A.role q) q j ∙ ap (λ (r : Role). role_word b f (set_role A p R) C r q j) (sym u)

    pub passed : (m : List ℕ) → Encodes b N f m A → Encodes b N f (walk b (is_hand R) 9 (wipe b m p) h.part h.vp) (set_role A p R)
    passed m en =
        let B : Abs = set_role A p R in
        let w_b : WF b N fl B = role-wf wide N fl A wf p R free Free h hs is in
        let g : Good b B p (h ∷ hs) = rw is at (w_b.good p) in
        let t : Fits b (is_hand (A.role p)) (cell b A) p (h ∷ hs) = rw is at (fits N fl A wf p) in
        let l : length (A.chain h.part) ≡ length hs = hop-depth B p h hs g.0 in
        let e : EncodesC b N f (walk b (is_hand R) 9 (wipe b m p) h.part h.vp) B (flag b (is_hand R) p (h ∷ hs) (cell b A)) = walked N fl f B w_b p (is_hand (A.role p)) (is_hand R) 9 h hs (wipe b m p) (cell b A) (omega (arith, w_b.depth h.part g.0.live)) g t (wiped m (cell b A) en) in
        encodes_ext N f _ B _ (cell b B) (λ k d v. (rw (← is) refl) ∙ sym (flagged N fl A wf p R (free_own R Free ∙ sym (free_own (A.role p) free)) k d v)) e
