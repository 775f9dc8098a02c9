-- The state that a sound memory stands for. A page's role and chain are read off its use: the chain of a page in hand starts at the partition that has
-- it, that of a kernel page at the parent of the partition that it serves. Assumes nothing.
use mathlib.Core.List.{List, [], ◌∷◌}
use mathlib.Core.Option.{Option, none, some}
use Prim.Native.Nat.{ℕ, zero, suc, ◌+◌, ◌*◌, ◌/◌, ◌%◌, ◌<◌}
use native.Mathlib.Decide.{dec_lt}
use Rattle.memory.specs.Geometry.{page_words, address, page_of, directory_index, most_depth}
use Rattle.memory.specs.Words.{word}
use Rattle.memory.specs.Entry.{rights}
use Rattle.memory.specs.Partition.{pages, current, directory, shadow1, shadow2, list, parent, flag, threes, mapping, above}
use Rattle.memory.specs.Uses.{Way, five, listed, in_hand, Use}
use Rattle.memory.specs.Sound.{Stands, Sound}
use Rattle.rules.proofs.model.Base.{eqd, pick}
use Rattle.rules.proofs.model.Abs.{Kind, pt, s1, s2, Role, header, hand, blank, desc, root, lst, tab, Hop, Three, Abs}
use Rattle.rules.proofs.model.Format.{kind_at, kind_no}
use Rattle.rules.proofs.sound.Pages.{five_role}

all_three : {P Q R : Type 0} → Dec P → Dec Q → Dec R → Dec (P × Q × R)
all_three (yes p) (yes q) (yes r) = yes (p, q, r)
all_three (yes p) (yes q) (no r) = no (λ t. r t.2)
all_three (yes p) (no q) r = no (λ t. q t.1)
all_three (no p) q r = no (λ t. p t.0)

-- the page that a page table word maps
unfoldable pub mapped : ℕ → ℕ → Option ℕ
mapped b w = pick (eqd w 0) none (some (page_of b w))

module _ (b : ℕ) (m : List ℕ) where
  -- ---- chains: the mappings of a page, from one partition up to the root

  -- d's mapping at v
  abbrev pub hop : ℕ → ℕ → Hop
  hop d v = record { part = d; vp = page_of b v; rt = rights (mapping b m d v) }

  -- d's mapping at v and those above it, n at most
  unfoldable pub climb : ℕ → ℕ → ℕ → List Hop
  climb zero d v = []
  climb (suc n) d v = hop d v ∷ pick (eqd d 1) [] (climb n (parent b m d) (above b m d v))

  -- all of them, since a partition is at most most_depth below the root
  unfoldable pub hops : ℕ → ℕ → List Hop
  hops d v = climb (suc most_depth) d v

  -- those of a kernel page of d that is at v in d's parent; no partition maps the root's kernel pages
  unfoldable pub kernel_hops : ℕ → ℕ → List Hop
  kernel_hops d v = pick (eqd d 1) [] (hops (parent b m d) v)

  -- ---- threes: the list names the pages, and the index is looked for in the directory and the shadows

  -- pair j of d's list: the address in d's parent, and the page
  abbrev pub listed_address : ℕ → ℕ → ℕ
  listed_address d j = word b m (list b m d) (1 + 2 * j)

  abbrev pub listed_page : ℕ → ℕ → ℕ
  listed_page d j = page_of b (word b m (list b m d) (2 + 2 * j))

  pub stands? : (d j i : ℕ) → Dec (Stands b m d j i)
  stands? d j i = all_three (eqd _ _) (eqd _ _) (eqd _ _)

  -- the first of n indices from i on at which three j of d stands
  unfoldable pub index_from : ℕ → ℕ → ℕ → ℕ → ℕ
  index_from zero i d j = i
  index_from (suc n) i d j = pick (stands? d j i) i (index_from n (suc i) d j)

  unfoldable pub three : ℕ → ℕ → Three
  three d j = record { at = index_from (page_words b) 0 d j; page = λ k. listed_page d (3 * j + kind_no k) }

  -- n threes of d from three j on, and all of them
  unfoldable pub threes_from : ℕ → ℕ → ℕ → List Three
  threes_from zero d j = []
  threes_from (suc n) d j = three d j ∷ threes_from n d (suc j)

  abbrev pub threes_of : ℕ → List Three
  threes_of d = threes_from (threes b m d) d 0

  -- ---- the role and the chain of a page that d uses in a way

  unfoldable pub way_role : ℕ → Way → Role
  way_role d (five j) = five_role d j
  way_role d (listed j) = tab (kind_at (j % 3)) d (three d (j / 3)).at
  way_role d (in_hand v) = hand

  -- the address that d has for a page in hand, and d's parent for a kernel page of d
  abbrev pub way_address : ℕ → Way → ℕ
  way_address d (five j) = word b m d (2 * j)
  way_address d (listed j) = listed_address d j
  way_address d (in_hand v) = v

  unfoldable pub way_hops : ℕ → Way → List Hop
  way_hops d (five j) = kernel_hops d (way_address d (five j))
  way_hops d (listed j) = kernel_hops d (way_address d (listed j))
  way_hops d (in_hand v) = hops d v

  -- of a page that may have a use: a page past the end counts as in hand, with no chain
  unfoldable pub role_used : {p : ℕ} → Option (Use b m p) → Role
  role_used none = hand
  role_used (some u) = way_role u.part u.way

  unfoldable pub hops_used : {p : ℕ} → Option (Use b m p) → List Hop
  hops_used none = []
  hops_used (some u) = way_hops u.part u.way

  -- ---- the pages and the mappings of a partition

  abbrev pub root_page : Kind → ℕ → ℕ
  root_page pt d = directory b m d
  root_page s1 d = shadow1 b m d
  root_page s2 d = shadow2 b m d

  -- what page d maps at virtual page v if it has this role: nothing unless it is a descriptor
  unfoldable pub maps_as : Role → ℕ → ℕ → Option ℕ
  maps_as header d v = none
  maps_as hand d v = none
  maps_as blank d v = none
  maps_as desc d v = pick (dec_lt (directory_index b v) (page_words b)) (mapped b (mapping b m d (address b v))) none
  maps_as (root k e) d v = none
  maps_as (lst e) d v = none
  maps_as (tab k e i) d v = none

  -- ---- the state: by soundness each page but page 0 has a use

  module _ (s : Sound b m) where
    unfoldable pub use_in : (p : ℕ) → Dec (0 < p) → Dec (p < pages b m) → Option (Use b m p)
    use_in p (yes l) (yes h) = some (s.uses.some p l h)
    use_in p (yes l) (no h) = none
    use_in p (no l) h = none

    -- a use of p: none for page 0 and past the end
    unfoldable pub use_of : (p : ℕ) → Option (Use b m p)
    unfolding use_in
    use_of p = use_in p (dec_lt 0 p) (dec_lt p (pages b m))

    unfoldable pub role : ℕ → Role
    role p = pick (eqd p 0) header (role_used (use_of p))

    unfoldable pub chain : ℕ → List Hop
    chain p = hops_used (use_of p)

    -- the live flag of a page that is no descriptor counts as 0
    unfoldable pub flag_as : Role → ℕ → ℕ
    flag_as header d = 0
    flag_as hand d = 0
    flag_as blank d = 0
    flag_as desc d = flag b m d
    flag_as (root k e) d = 0
    flag_as (lst e) d = 0
    flag_as (tab k e i) d = 0

    abbrev pub state : Abs
    state = record {
      role = role;
      chain = chain;
      maps = λ d v. maps_as (role d) d v;
      rootp = root_page;
      lstp = list b m;
      threes = threes_of;
      vcli = λ d. flag_as (role d) d;
      cur = current b m;
    }
