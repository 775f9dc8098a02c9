-- The abstract state: one role and one chain of hops for each page; well-formedness; the words it stands for.
use mathlib.Core.Path.{◌≡◌}
use mathlib.Core.Logic.{◌≢◌}
use mathlib.Core.Bool.{Bool, true, false}
use mathlib.Core.Option.{Option, none, some}
use mathlib.Core.List.{List, [], ◌∷◌}
use Prim.Native.Nat.{ℕ, ◌+◌, ◌*◌, ◌/◌, ◌%◌, ◌≤◌, ◌<◌}
use lib.ListN.{length, get_or}
use Rattle.memory.specs.Entry.{least_both}
use Rattle.rules.proofs.model.Base.{eqd, pick}
use Rattle.rules.proofs.model.Words.{W, addr, word, join, idx, pte, link, Sized}

pub data Kind : Type 0 where
  pt s1 s2 : Kind

-- what a page is for; a partition is named by the page number of its descriptor
pub data Role : Type 0 where
  header hand blank desc : Role
  root : Kind → ℕ → Role
  lst : ℕ → Role
  tab : Kind → ℕ → ℕ → Role

-- one mapping of a page: in which partition, at which virtual page, with which rights
pub record Hop : Type 0 where
  pub part : ℕ
  pub vp : ℕ
  pub rt : ℕ

pub record Three : Type 0 where
  pub at : ℕ
  pub page : Kind → ℕ

pub record Abs : Type 0 where
  pub role : ℕ → Role
  pub chain : ℕ → List Hop
  pub maps : ℕ → ℕ → Option ℕ
  pub rootp : Kind → ℕ → ℕ
  pub lstp : ℕ → ℕ
  pub threes : ℕ → List Three
  -- the live flags
  pub vcli : ℕ → ℕ
  pub cur : ℕ

-- reading a chain
abbrev pub parts : List Hop → List ℕ
parts [] = []
parts (h ∷ hs) = h.part ∷ parts hs

abbrev pub head_v : List Hop → ℕ
head_v [] = 0
head_v (h ∷ hs) = h.vp

abbrev pub head_p : List Hop → ℕ
head_p [] = 0
head_p (h ∷ hs) = h.part

-- what the tables of partition d say of a page with this chain; below is the partition of the hop before, if any
pub record Seen : Type 0 where
  pub vp : ℕ
  pub rt : ℕ
  pub up : ℕ
  pub below : Option ℕ

unfoldable pub seek : Option ℕ → ℕ → List Hop → Option Seen
seek β d [] = none
seek β d (h ∷ hs) = pick (eqd d h.part) (some (record { vp = h.vp; rt = h.rt; up = head_v hs; below = β })) (seek (some h.part) d hs)

unfoldable pub three_at : ℕ → List Three → Option Three
three_at i [] = none
three_at i (t ∷ ts) = pick (eqd i t.at) (some t) (three_at i ts)

abbrev pub is_hand : Role → Bool
is_hand header = false
is_hand hand = true
is_hand blank = false
is_hand desc = false
is_hand (root k d) = false
is_hand (lst d) = false
is_hand (tab k d i) = false

-- to tell roles apart
abbrev pub tag : Role → ℕ
tag header = 0
tag hand = 1
tag blank = 2
tag desc = 3
tag (root k d) = 4
tag (lst d) = 5
tag (tab k d i) = 6

-- the words
abbrev pub own_word : Role → ℕ
own_word header = 0
own_word hand = 0
own_word blank = 0
own_word desc = 1
own_word (root k d) = 0
own_word (lst d) = 0
own_word (tab k d i) = 0

module _ (b : ℕ) where
  unfoldable pub lent_word : Abs → Role → Option ℕ → ℕ
  lent_word A r none = own_word r
  lent_word A r (some c) = addr b (head_v (A.chain c))

  unfoldable pub seen_word : Abs → Kind → ℕ → Option Seen → ℕ
  seen_word A k p none = 0
  seen_word A pt p (some s) = pte b p (is_hand (A.role p)) s.rt
  seen_word A s1 p (some s) = lent_word A (A.role p) s.below
  seen_word A s2 p (some s) = addr b s.up

  unfoldable pub page_word : Abs → Kind → ℕ → Option ℕ → ℕ
  page_word A k d none = 0
  page_word A k d (some p) = seen_word A k p (seek none d (A.chain p))

  unfoldable pub cell : Abs → Kind → ℕ → ℕ → ℕ
  cell A k d v = page_word A k d (A.maps d v)

  unfoldable pub link_word : Kind → Option Three → ℕ
  link_word k none = 0
  link_word k (some t) = link b (t.page k)

  abbrev pub pair : (ℕ → List Hop) → ℕ → List ℕ → List ℕ
  pair ch q rest = addr b (head_v (ch q)) ∷ addr b q ∷ rest

  -- a descriptor's twelve words, and what follows
  abbrev pub desc_words : Abs → ℕ → List ℕ → List ℕ
  desc_words A d rest =
      pair A.chain d (pair A.chain (A.rootp pt d) (pair A.chain (A.rootp s1 d) (pair A.chain (A.rootp s2 d) (pair A.chain (A.lstp d)
      (0 ∷ addr b (head_p (A.chain d)) ∷ rest)))))

  unfoldable pub desc_list : Abs → ℕ → List ℕ
  desc_list A d = desc_words A d (A.vcli d ∷ [])

  unfoldable pub list_pairs : (ℕ → List Hop) → List Three → List ℕ
  list_pairs ch [] = []
  list_pairs ch (t ∷ ts) = pair ch (t.page pt) (pair ch (t.page s1) (pair ch (t.page s2) (list_pairs ch ts)))

  unfoldable pub list_list : (ℕ → List Hop) → List Three → List ℕ
  list_list ch ts = (1 + 6 * length ts) ∷ list_pairs ch ts

  -- N pages; the header's other words are given
  unfoldable pub head_list : List ℕ → Abs → List ℕ
  head_list fixed A = get_or fixed 0 0 ∷ get_or fixed 1 0 ∷ get_or fixed 2 0 ∷ get_or fixed 3 0 ∷ addr b A.cur ∷ get_or fixed 4 0 ∷ []

-- what the words of tables are to be
abbrev pub Cells : Type 0
Cells = Kind → ℕ → ℕ → ℕ

module _ (b : ℕ) where
  unfoldable pub role_word : List ℕ → Abs → Cells → Role → ℕ → ℕ → ℕ
  role_word f A C header q j = get_or (head_list b f A) j 0
  role_word f A C hand q j = 0
  role_word f A C blank q j = 0
  role_word f A C desc q j = get_or (desc_list b A q) j 0
  role_word f A C (root k d) q j = link_word b k (three_at j (A.threes d))
  role_word f A C (lst d) q j = get_or (list_list b A.chain (A.threes d)) j 0
  role_word f A C (tab k d i) q j = C k d (join b i j)

  -- the memory stands for A, but for the words of tables, which are C
  pub record EncodesC (N : ℕ) (f : List ℕ) (m : List ℕ) (A : Abs) (C : Cells) : Type 0 where
    pub sized : Sized b N m
    pub says : (q j : ℕ) → q < N → j < W b → is_hand (A.role q) ≡ false → word b m q j ≡ role_word f A C (A.role q) q j

  abbrev pub Encodes : ℕ → List ℕ → List ℕ → Abs → Type 0
  Encodes N f m A = EncodesC N f m A (cell b A)

-- rights as three bits; a part of
pub record Sub (r s : ℕ) : Type 0 where
  pub read : r % 2 ≤ s % 2
  pub write : r / 2 % 2 ≤ s / 2 % 2
  pub exec : r / 4 ≤ s / 4

-- well-formedness: the root has all rights, and below it none is added, nor are write and execute together
abbrev pub Up : Hop → List Hop → Type 0
Up h [] = h.rt ≡ 7
Up h (u ∷ us) = Sub h.rt u.rt × (h.rt < least_both)

module _ (b : ℕ) where
  pub record GoodHop (A : Abs) (p : ℕ) (h : Hop) (hs : List Hop) : Type 0 where
    pub live : A.role h.part ≡ desc
    pub some_v : h.vp ≢ 0
    pub small : h.rt < 8
    pub mapped : A.maps h.part h.vp ≡ some p
    pub above : parts hs ≡ parts (A.chain h.part)
    pub three : (t : Three) × (three_at (idx b h.vp) (A.threes h.part) ≡ some t)
    pub rights : Up h hs

  abbrev pub Good : Abs → ℕ → List Hop → Type 0
  Good A p [] = Unit {0}
  Good A p (h ∷ hs) = GoodHop A p h hs × Good A p hs

-- the partition that a kernel page serves
abbrev pub Owner : Role → ℕ → ℕ → Type 0
Owner header q d = ⊥
Owner hand q d = ⊥
Owner blank q d = ⊥
Owner desc q d = q ≡ d
Owner (root k e) q d = e ≡ d
Owner (lst e) q d = e ≡ d
Owner (tab k e i) q d = e ≡ d

module _ (b : ℕ) where
  -- the threes of d: pages of that role, indices in range and distinct
  pub record Tab (role : ℕ → Role) (d : ℕ) (t : Three) (ts : List Three) : Type 0 where
    pub fits : t.at < W b
    pub pages : (k : Kind) → role (t.page k) ≡ tab k d t.at
    pub once : three_at t.at ts ≡ none

  abbrev pub Tabs : (ℕ → Role) → ℕ → List Three → Type 0
  Tabs role d [] = Unit {0}
  Tabs role d (t ∷ ts) = Tab role d t ts × Tabs role d ts

  -- N pages; flat is the root's map, which no call changes
  pub record WF (N : ℕ) (flat : ℕ → Option ℕ) (A : Abs) : Type 0 where
    pub beyond : (p : ℕ) → N ≤ p → (A.role p ≡ hand) × (A.chain p ≡ [])
    pub head_role : A.role 0 ≡ header
    pub head_only : (p : ℕ) → A.role p ≡ header → p ≡ 0
    pub head_chain : A.chain 0 ≡ []
    pub root_live : A.role 1 ≡ desc
    pub root_top : A.chain 1 ≡ []
    pub root_only : (d : ℕ) → A.role d ≡ desc → A.chain d ≡ [] → d ≡ 1
    pub good : (p : ℕ) → Good b A p (A.chain p)
    pub seen : (d v p : ℕ) → A.maps d v ≡ some p → (s : Seen) × (seek none d (A.chain p) ≡ some s) × (s.vp ≡ v)
    pub root_role : (k : Kind) (d : ℕ) → A.role d ≡ desc → A.role (A.rootp k d) ≡ root k d
    pub root_inv : (k : Kind) (d q : ℕ) → A.role q ≡ root k d → (A.role d ≡ desc) × (A.rootp k d ≡ q)
    pub lst_role : (d : ℕ) → A.role d ≡ desc → A.role (A.lstp d) ≡ lst d
    pub lst_inv : (d q : ℕ) → A.role q ≡ lst d → (A.role d ≡ desc) × (A.lstp d ≡ q)
    pub tabs : (d : ℕ) → A.role d ≡ desc → Tabs A.role d (A.threes d)
    pub tab_inv : (k : Kind) (d i q : ℕ) → A.role q ≡ tab k d i → (A.role d ≡ desc) × (t : Three) × (three_at i (A.threes d) ≡ some t) × (t.page k ≡ q)
    pub kernel : (q d : ℕ) → Owner (A.role q) q d → parts (A.chain q) ≡ parts (A.chain d)
    pub held : (p : ℕ) → A.role p ≡ hand → p < N → A.chain p ≢ []
    pub top_maps : (v : ℕ) → A.maps 1 v ≡ flat v
    pub depth : (d : ℕ) → A.role d ≡ desc → length (A.chain d) ≤ 8
    pub ten : (d : ℕ) → A.role d ≡ desc → length (A.threes d) ≤ 10
    pub cur_live : A.role A.cur ≡ desc
