-- Hand and kernel use of a page. Assumes nothing.
use Rattle.std.specs.Prelude.{◌≡◌, List, [], ◌∷◌, ◌≢◌, ℕ, ◌+◌, ◌*◌, ◌<◌, get_or}
use Rattle.memory.specs.Geometry.{page_of}
use Rattle.memory.specs.Words.{word}
use Rattle.memory.specs.Entry.{accessible}
use Rattle.memory.specs.Partition.{directory, shadow1, shadow2, list, threes, mapping, lent}
use Rattle.memory.specs.Tree.{Has, InTree}

-- how a partition uses a page: as its descriptor, directory, shadow 1, shadow 2 or list (0 to 4); as a page of its list, by the pair's place; in hand,
-- at an address
pub data Way : Type 0 where
  five : ℕ → Way
  listed : ℕ → Way
  in_hand : ℕ → Way

-- a use as a kernel page: one of the five, or a page of the list
pub data KernelWay : Way → Type 0 where
  is_five : {j : ℕ} → KernelWay (five j)
  is_listed : {j : ℕ} → KernelWay (listed j)

module _ (b : ℕ) (m : List ℕ) where
  abbrev pub five_pages : ℕ → List ℕ
  five_pages d = d ∷ directory b m d ∷ shadow1 b m d ∷ shadow2 b m d ∷ list b m d ∷ []

  -- partition d uses page p so
  abbrev pub UsedBy : ℕ → Way → ℕ → Type 0
  UsedBy d (five j) p = (j < 5) × (get_or (five_pages d) j 0 ≡ p)
  UsedBy d (listed j) p = (j < 3 * threes b m d) × (page_of b (word b m (list b m d) (2 + 2 * j)) ≡ p)
  UsedBy d (in_hand v) p =
      Has b m d v × (mapping b m d v ≢ 0) × (accessible (mapping b m d v) ≡ 1) × (lent b m d v ≡ 0) × (page_of b (mapping b m d v) ≡ p)

  -- a use of page p by a partition of the tree
  pub record Use (p : ℕ) : Type 0 where
    pub depth : ℕ
    pub part : ℕ
    pub way : Way
    pub tree : InTree b m depth part
    pub used : UsedBy part way p

  -- "Kernel pages are page 0 and all descriptors, directories, shadows, lists and tables."
  pub data KernelPage : ℕ → Type 0 where
    header : KernelPage 0
    serves : {p : ℕ} (u : Use p) → KernelWay u.way → KernelPage p
