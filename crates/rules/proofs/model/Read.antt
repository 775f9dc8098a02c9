-- Lookups in the words, and what they find: the words of a partition's tables are the cells of the abstract state.
use mathlib.Core.Path.{◌≡◌, refl, sym, ap, ◌∙◌, subst}
use mathlib.Core.Logic.{◌≢◌}
use mathlib.Core.Bool.{Bool, true, false}
use mathlib.Core.Option.{Option, none, some}
use mathlib.Core.List.{List, [], ◌∷◌}
use Prim.Native.Nat.{ℕ, ◌≤◌, ◌<◌}
use native.Mathlib.Omega.{arith}
use native.Mathlib.Decide.{dec_lt}
use Rattle.memory.specs.Partition
use Rattle.memory.proofs.Tables.{table_word-absent, table_word-present, put_table_word-present}
use Rattle.rules.proofs.model.Base.{eqd, pick_yes, pick_no}
use Rattle.rules.proofs.model.Words.{W, addr, word, put, idx, off, pte, link, link_nz, bit, page_of, acc_of, rights_of, page_of-addr, page_of-link, page_of-zero, page_of-pte, acc_of-pte, rights_of-pte, addr_nz, addr-not-one, acc_of-zero, off-lt, join-cut, twelve-lt}
use Rattle.rules.proofs.model.Abs.{Kind, pt, s1, s2, Role, header, hand, blank, desc, root, lst, tab, Hop, Three, Abs, parts, head_v, Seen, seek, three_at, Good, Tabs, WF, Cells, Encodes, EncodesC, is_hand, own_word, lent_word, seen_word, page_word, cell, link_word, desc_list, role_word}
use Rattle.rules.proofs.model.Facts.{none-some, some_inj, Hit, hit, nil_cons, Top, top, not-hand, is-hand, below-is}

-- as the rules read them
unfoldable pub slot : Kind → ℕ
slot pt = 3
slot s1 = 5
slot s2 = 7

module _ (b : ℕ) where
  unfoldable pub root_page : List ℕ → Kind → ℕ → ℕ
  root_page m pt d = Partition.directory b m d
  root_page m s1 d = Partition.shadow1 b m d
  root_page m s2 d = Partition.shadow2 b m d

  -- the root's word for virtual page v: 0, or a link to the table
  unfoldable pub table_at : List ℕ → Kind → ℕ → ℕ → ℕ
  table_at m k d v = Partition.table_at b m (root_page m k d) v

  unfoldable pub table_page : List ℕ → Kind → ℕ → ℕ → ℕ
  table_page m k d v = page_of b (table_at m k d v)

  -- the table's word for virtual page v; in an absent table 0
  unfoldable pub entry_at : List ℕ → Kind → ℕ → ℕ → ℕ
  entry_at m k d v = Partition.table_word b m (root_page m k d) v

  -- that word set
  unfoldable pub put_at : List ℕ → Kind → ℕ → ℕ → ℕ → List ℕ
  put_at m k d v x = Partition.put_table_word b m (root_page m k d) v x

module _ (b : ℕ) (m : List ℕ) (k : Kind) (d v : ℕ) where
  pub entry-there : table_at b m k d v ≢ 0 → entry_at b m k d v ≡ word b m (table_page b m k d v) (off b v)
  unfolding table_at entry_at table_page word off page_of
  entry-there n = table_word-present b m (root_page b m k d) v n

  pub entry_absent : table_at b m k d v ≡ 0 → entry_at b m k d v ≡ 0
  unfolding table_at entry_at
  entry_absent e = table_word-absent b m (root_page b m k d) v e

  pub put-there : (x : ℕ) → table_at b m k d v ≢ 0 → put_at b m k d v x ≡ put b m (table_page b m k d v) (off b v) x
  unfolding table_at put_at table_page put off page_of
  put-there x n = put_table_word-present b m (root_page b m k d) v x n

root-slot : (b : ℕ) (m : List ℕ) (k : Kind) (d : ℕ) → root_page b m k d ≡ page_of b (word b m d (slot k))
unfolding root_page slot page_of word
root-slot b m pt d = refl
root-slot b m s1 d = refl
root-slot b m s2 d = refl

table-slot : (b : ℕ) (m : List ℕ) (k : Kind) (d v : ℕ) → table_at b m k d v ≡ word b m (root_page b m k d) (idx b v)
unfolding table_at word idx
table-slot b m k d v = refl

module _ {b : ℕ} (wide : 6 ≤ b) where
  slot_lt : (k : Kind) → slot k < W b
  unfolding slot
  slot_lt pt = twelve-lt wide 3 (omega arith)
  slot_lt s1 = twelve-lt wide 5 (omega arith)
  slot_lt s2 = twelve-lt wide 7 (omega arith)

  slot-word : (f : List ℕ) (A : Abs) (C : Cells) (k : Kind) (d : ℕ) → role_word b f A C desc d (slot k) ≡ addr b (A.rootp k d)
  unfolding slot role_word desc_list
  slot-word f A C pt d = refl
  slot-word f A C s1 d = refl
  slot-word f A C s2 d = refl

unfoldable pub three_page : Kind → Option Three → ℕ
three_page k none = 0
three_page k (some t) = t.page k

module _ {b : ℕ} (wide : 6 ≤ b) where
  page_of-link_word : (k : Kind) (o : Option Three) → page_of b (link_word b k o) ≡ three_page k o
  unfolding link_word three_page
  page_of-link_word k none = page_of-zero wide
  page_of-link_word k (some t) = page_of-link wide (t.page k)

module _ (b : ℕ) where
  pub record ThreeIs (role : ℕ → Role) (d i : ℕ) (t : Three) : Type 0 where
    pub at : t.at ≡ i
    pub fits : i < W b
    pub pages : (k : Kind) → role (t.page k) ≡ tab k d i

module _ {b : ℕ} (wide : 6 ≤ b) where
  pub three-is : (role : ℕ → Role) (d i : ℕ) (ts : List Three) (t : Three) → Tabs b role d ts → three_at i ts ≡ some t → ThreeIs b role d i t
  unfolding three_at
  three-is role d i [] t g e = none-some e
  three-is role d i (x ∷ xs) t g e = go (eqd i x.at) (three-is role d i xs t g.1)
    where
      go : Dec (i ≡ x.at) → (three_at i xs ≡ some t → ThreeIs b role d i t) → ThreeIs b role d i t
      go (yes y) ih =
          let f : x ≡ t = some_inj (sym (pick_yes (eqd i x.at) (some x) (three_at i xs) y) ∙ e) in
          subst (λ (z : Three). ThreeIs b role d i z) f (record { at = sym y; fits = rw y g.0.fits; pages = λ k. rw y (g.0.pages k) })
      go (no n) ih = ih (sym (pick_no (eqd i x.at) (some x) (three_at i xs) n) ∙ e)

-- one mapping of d
pub record Maps (A : Abs) (d v : ℕ) : Type 0 where
  pub page : ℕ
  pub sees : Seen
  pub maps : A.maps d v ≡ some page
  pub finds : seek none d (A.chain page) ≡ some sees
  pub vp : sees.vp ≡ v

module _ {b : ℕ} (wide : 6 ≤ b) where
  pub cell-none : (A : Abs) (k : Kind) (d v : ℕ) → A.maps d v ≡ none → cell b A k d v ≡ 0
  unfolding cell page_word
  cell-none A k d v e = rw e refl

  pub cell-some : (A : Abs) (k : Kind) (d v p : ℕ) (s : Seen) → A.maps d v ≡ some p → seek none d (A.chain p) ≡ some s → cell b A k d v ≡ seen_word b A k p (some s)
  unfolding cell page_word
  cell-some A k d v p s e f = rw (e, f) refl

  module _ (N : ℕ) (fl : ℕ → Option ℕ) (A : Abs) (wf : WF b N fl A) where
    pub kernel-lt : (q : ℕ) → is_hand (A.role q) ≡ false → q < N
    kernel-lt q h = go (dec_lt q N)
      where
        go : Dec (q < N) → q < N
        go (yes l) = l
        go (no l) = not-hand (wf.beyond q (omega arith)).0 h

    pub maps-at : (k : Kind) (d v : ℕ) → cell b A k d v ≢ 0 → Maps A d v
    maps-at k d v h = go (A.maps d v) refl
      where
        go : (o : Option ℕ) → A.maps d v ≡ o → Maps A d v
        go none e = absurd (h (cell-none A k d v e))
        go (some p) e = let w = wf.seen d v p e in record { page = p; sees = w.0; maps = e; finds = w.1; vp = w.2 }

    pub maps-hit : (d v : ℕ) (x : Maps A d v) → Hit b A x.page d (A.chain x.page) x.sees
    maps-hit d v x = hit wide A x.page d none (A.chain x.page) x.sees (wf.good x.page) x.finds

    pub maps-three : (d v p : ℕ) → A.maps d v ≡ some p → (t : Three) × (three_at (idx b v) (A.threes d) ≡ some t)
    maps-three d v p e =
        let w = wf.seen d v p e in
        let h : Hit b A p d (A.chain p) w.0 = hit wide A p d none (A.chain p) w.0 (wf.good p) w.1 in
        let f : h.hop.vp ≡ v = sym h.vp ∙ w.2 in
        (h.hop_good.three.0, (rw (f, h.part) at h.hop_good.three.1))

    -- where there is no three nothing is mapped
    pub unmapped : (d v : ℕ) → three_at (idx b v) (A.threes d) ≡ none → A.maps d v ≡ none
    unmapped d v e = go (A.maps d v) refl
      where
        go : (o : Option ℕ) → A.maps d v ≡ o → A.maps d v ≡ none
        go none f = f
        go (some p) f = none-some (sym e ∙ (maps-three d v p f).1)

    module _ (f m : List ℕ) (C : Cells) (en : EncodesC b N f m A C) where
      pub root-page : (k : Kind) (d : ℕ) → A.role d ≡ desc → root_page b m k d ≡ A.rootp k d
      root-page k d l =
          let h : is_hand (A.role d) ≡ false = ap is_hand l in
          rw (root-slot b m k d, en.says d (slot k) (kernel-lt d h) (slot_lt wide k) h, l, slot-word wide f A C k d) (page_of-addr wide (A.rootp k d))

      pub table-word : (k : Kind) (d v : ℕ) → A.role d ≡ desc → idx b v < W b → table_at b m k d v ≡ link_word b k (three_at (idx b v) (A.threes d))
      unfolding role_word
      table-word k d v l β =
          let r : A.role (A.rootp k d) ≡ root k d = wf.root_role k d l in
          let h : is_hand (A.role (A.rootp k d)) ≡ false = ap is_hand r in
          rw (table-slot b m k d v, root-page k d l, en.says (A.rootp k d) (idx b v) (kernel-lt (A.rootp k d) h) β h, r) refl

      pub table-page : (k : Kind) (d v : ℕ) → A.role d ≡ desc → idx b v < W b → table_page b m k d v ≡ three_page k (three_at (idx b v) (A.threes d))
      unfolding table_page
      table-page k d v l β = ap (page_of b) (table-word k d v l β) ∙ page_of-link_word wide k (three_at (idx b v) (A.threes d))

      -- where there is a three, the word is the cell
      pub entry-three : (k : Kind) (d v : ℕ) (t : Three) → A.role d ≡ desc → three_at (idx b v) (A.threes d) ≡ some t
          → (table_page b m k d v ≡ t.page k) × (A.role (t.page k) ≡ tab k d (idx b v)) × (entry_at b m k d v ≡ C k d v) × (table_at b m k d v ≢ 0)
      unfolding three_page link_word role_word
      entry-three k d v t l e =
          let x : ThreeIs b A.role d (idx b v) t = three-is wide A.role d (idx b v) (A.threes d) t (wf.tabs d l) e in
          let r : A.role (t.page k) ≡ tab k d (idx b v) = x.pages k in
          let tp : table_page b m k d v ≡ t.page k = table-page k d v l x.fits ∙ ap (three_page k) e in
          let tw : table_at b m k d v ≡ link b (t.page k) = table-word k d v l x.fits ∙ ap (link_word b k) e in
          let h : is_hand (A.role (t.page k)) ≡ false = ap is_hand r in
          let nz : table_at b m k d v ≢ 0 = λ z. link_nz wide (t.page k) (sym tw ∙ z) in (
            tp,
            r,
            entry-there b m k d v nz ∙ (rw (tp, en.says (t.page k) (off b v) (kernel-lt (t.page k) h) (off-lt wide v) h, r, join-cut wide v) refl),
            nz,
          )

      pub entry-no-three : (k : Kind) (d v : ℕ) → A.role d ≡ desc → idx b v < W b → three_at (idx b v) (A.threes d) ≡ none → entry_at b m k d v ≡ 0
      unfolding link_word
      entry-no-three k d v l β e = entry_absent b m k d v (table-word k d v l β ∙ ap (link_word b k) e)

      -- where the root has a word there is a three
      pub three-there : (k : Kind) (d v : ℕ) → A.role d ≡ desc → idx b v < W b → table_at b m k d v ≢ 0 → (th : Three) × (three_at (idx b v) (A.threes d) ≡ some th)
      unfolding link_word
      three-there k d v l β h = go (three_at (idx b v) (A.threes d)) refl
        where
          go : (x : Option Three) → three_at (idx b v) (A.threes d) ≡ x → (th : Three) × (three_at (idx b v) (A.threes d) ≡ some th)
          go none e = absurd (h (table-word k d v l β ∙ ap (link_word b k) e))
          go (some th) e = (th, e)

    pub entry-is : (f m : List ℕ) → Encodes b N f m A → (k : Kind) (d v : ℕ) → A.role d ≡ desc → idx b v < W b → entry_at b m k d v ≡ cell b A k d v
    entry-is f m en k d v l β = go (three_at (idx b v) (A.threes d)) refl
      where
        go : (o : Option Three) → three_at (idx b v) (A.threes d) ≡ o → entry_at b m k d v ≡ cell b A k d v
        go none e = entry-no-three f m (cell b A) en k d v l β e ∙ sym (cell-none A k d v (unmapped d v e))
        go (some t) e = (entry-three f m (cell b A) en k d v t l e).2

module _ (b : ℕ) where
  -- a page whose deepest mapping is d's, at v
  pub record Own (A : Abs) (d v p : ℕ) : Type 0 where
    pub hop : Hop
    pub rest : List Hop
    pub is : A.chain p ≡ hop ∷ rest
    pub part : hop.part ≡ d
    pub vp : hop.vp ≡ v
    pub maps : A.maps d v ≡ some p
    pub page : page_of b (cell b A pt d v) ≡ p
    pub rt : rights_of (cell b A pt d v) ≡ hop.rt

module _ {b : ℕ} (wide : 6 ≤ b) where
  pub cell-pt : (A : Abs) (d v p : ℕ) (s : Seen) → A.maps d v ≡ some p → seek none d (A.chain p) ≡ some s → cell b A pt d v ≡ pte b p (is_hand (A.role p)) s.rt
  unfolding seen_word
  cell-pt A d v p s e f = cell-some wide A pt d v p s e f

  pub cell-s1 : (A : Abs) (d v p : ℕ) (s : Seen) → A.maps d v ≡ some p → seek none d (A.chain p) ≡ some s → cell b A s1 d v ≡ lent_word b A (A.role p) s.below
  unfolding seen_word
  cell-s1 A d v p s e f = cell-some wide A s1 d v p s e f

bit-true : (β : Bool) → bit β ≡ 1 → β ≡ true
bit-true true e = refl
bit-true false e = absurd (omega arith)

own-desc : (r : Role) → own_word r ≡ 1 → r ≡ desc
own-desc header e = absurd (omega arith)
own-desc hand e = absurd (omega arith)
own-desc blank e = absurd (omega arith)
own-desc desc e = refl
own-desc (root k d) e = absurd (omega arith)
own-desc (lst d) e = absurd (omega arith)
own-desc (tab k d i) e = absurd (omega arith)

module _ {b : ℕ} (wide : 6 ≤ b) where
  module _ (N : ℕ) (fl : ℕ → Option ℕ) (A : Abs) (wf : WF b N fl A) where
    -- a lent page's shadow 1 word is an address that is not 0
    pub lent_nz : (p d c : ℕ) (s : Seen) → seek none d (A.chain p) ≡ some s → s.below ≡ some c → head_v (A.chain c) ≢ 0
    lent_nz p d c s e n =
        let k : (A.role c ≡ desc) × (parts (A.chain c) ≡ d ∷ parts (A.chain d)) = below-is wide A p d c none (A.chain p) s (wf.good p) (λ x y. none-some y) e n in
        go (A.chain c) (wf.good c) k.1
      where
        go : (hs : List Hop) → Good b A c hs → parts hs ≡ d ∷ parts (A.chain d) → head_v hs ≢ 0
        go [] g y = nil_cons y
        go (h ∷ hs) g y = g.0.some_v

    own : (d v : ℕ) (x : Maps A d v) → x.sees.below ≡ none → Own b A d v x.page
    own d v x n =
        let t : Top d (A.chain x.page) x.sees = top A d (A.chain x.page) x.sees x.finds n in
        let h : Hit b A x.page d (A.chain x.page) x.sees = maps-hit wide N fl A wf d v x in
        let l : x.sees.rt < 8 = rw h.rt h.hop_good.small in
        record {
          hop = t.hop;
          rest = t.rest;
          is = t.is;
          part = t.part;
          vp = sym t.vp ∙ x.vp;
          maps = x.maps;
          page = rw (cell-pt wide A d v x.page x.sees x.maps x.finds) (page_of-pte wide x.page _ x.sees.rt l);
          rt = rw (cell-pt wide A d v x.page x.sees x.maps x.finds) (rights_of-pte wide x.page _ x.sees.rt l) ∙ t.rt;
        }

    -- what the words say of a page in d's hand
    pub hand-view : (d v : ℕ) → acc_of (cell b A pt d v) ≡ 1 → cell b A s1 d v ≡ 0 → (p : ℕ) × (A.role p ≡ hand) × Own b A d v p
    unfolding lent_word
    hand-view d v a z =
        let x : Maps A d v = maps-at wide N fl A wf pt d v (λ e. omega (arith, acc_of-zero wide, (rw e at a))) in
        let h : Hit b A x.page d (A.chain x.page) x.sees = maps-hit wide N fl A wf d v x in
        let l : x.sees.rt < 8 = rw h.rt h.hop_good.small in
        let i : bit (is_hand (A.role x.page)) ≡ 1 = sym (acc_of-pte wide x.page _ x.sees.rt l) ∙ (rw (cell-pt wide A d v x.page x.sees x.maps x.finds) at a) in
        (x.page, is-hand (A.role x.page) (bit-true _ i), own d v x (go x x.sees.below refl))
      where
        go : (x : Maps A d v) (o : Option ℕ) → x.sees.below ≡ o → x.sees.below ≡ none
        go x none e = e
        go x (some c) e = absurd (addr_nz wide (head_v (A.chain c)) (lent_nz x.page d c x.sees x.finds e) (rw (cell-s1 wide A d v x.page x.sees x.maps x.finds, e) at z))

    -- what they say of a child's descriptor
    pub child-view : (d v : ℕ) → cell b A s1 d v ≡ 1 → (p : ℕ) × (A.role p ≡ desc) × Own b A d v p
    unfolding lent_word
    child-view d v z = go x x.sees.below refl
      where
        x : Maps A d v
        x = maps-at wide N fl A wf s1 d v (λ e. omega (arith, (rw e at z)))

        go : (x : Maps A d v) (o : Option ℕ) → x.sees.below ≡ o → (p : ℕ) × (A.role p ≡ desc) × Own b A d v p
        go x none e = (x.page, own-desc (A.role x.page) (rw (cell-s1 wide A d v x.page x.sees x.maps x.finds, e) at z), own d v x e)
        go x (some c) e = absurd (addr-not-one wide (head_v (A.chain c)) (rw (cell-s1 wide A d v x.page x.sees x.maps x.finds, e) at z))
