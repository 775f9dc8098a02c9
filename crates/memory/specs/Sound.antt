-- "When memory is sound", sentence by sentence: a record of propositions, asked of the partitions of the tree. docs/SOUNDNESS.md numbers the
-- sentences. Nothing here is executable: the crate soundness has the test that decides it. Assumes nothing.
use Rattle.std.specs.Prelude.{◌≡◌, List, true, ◌≢◌, ◌⊎◌, ℕ, ◌+◌, ◌*◌, ◌≤◌, ◌<◌, length}
use Rattle.walk.specs.Finite.{One}
use Rattle.memory.specs.Geometry.{edition_of, most_flag, page_words, address, page_of, threes_for, flat_pages, least_pages, most_pages, most_threes, most_depth}
use Rattle.memory.specs.Words.{word}
use Rattle.memory.specs.Entry.{entry, accessible, rights, write_right, execute_right, all_rights, holds}
use Rattle.memory.specs.Format.{format_word}
use Rattle.memory.specs.Partition.{pages, current, directory, shadow1, shadow2, list, threes, mapping, lent, above}
use Rattle.memory.specs.Tree.{Virtual, Physical, Has, Child, InTree}
use Rattle.memory.specs.Uses.{Use}

-- word i of the root's page 1 + p is its live flag
abbrev pub RootFlag : ℕ → ℕ → Type 0
RootFlag p i = (p ≡ 0) × (i ≡ 12)

module _ (b : ℕ) (m : List ℕ) where
  -- ---- 1. "Header and length as above; the words have the forms above."

  pub record Header : Type 0 where
    pub size : length m ≡ pages b m * page_words b
    pub least : least_pages ≤ pages b m
    pub most : pages b m ≤ most_pages b
    pub threes : word b m 0 1 ≡ threes_for b (pages b m)
    pub descriptor : word b m 0 2 ≡ address b 1
    pub first : word b m 0 3 ≡ address b (6 + 3 * threes_for b (pages b m))
    pub current : Physical b m (word b m 0 4)
    pub edition : word b m 0 5 ≡ edition_of b
    pub rest : (i : ℕ) → i < page_words b → 6 ≤ i → word b m 0 i ≡ 0

  -- "twelve words, pairs of virtual address in the parent and physical address ..; then 0 and the parent's descriptor address. The rest 0."
  -- Document 02, L8: "The live vcli flag is word 12 of the descriptor, 0 or 1"; on the other edition "word 12 stays 0"
  pub record DescriptorForm (d : ℕ) : Type 0 where
    pub pairs : (j : ℕ) → j < 5 → Virtual b (word b m d (2 * j)) × Physical b m (word b m d (2 * j + 1))
    pub zero : word b m d 10 ≡ 0
    pub parent : Physical b m (word b m d 11)
    pub flag : word b m d 12 ≤ most_flag b
    pub rest : (i : ℕ) → i < page_words b → 13 ≤ i → word b m d i ≡ 0

  -- "word i is 0 or a table's physical address + 1"
  abbrev pub TableLink : ℕ → Type 0
  TableLink w = w ≢ 0 → (address b (page_of b w) + 1 ≡ w) × (page_of b w < pages b m)

  -- ".. All three have tables at the same i."
  pub record DirectoryForm (d i : ℕ) : Type 0 where
    pub table : TableLink (word b m (directory b m d) i)
    pub table1 : TableLink (word b m (shadow1 b m d) i)
    pub table2 : TableLink (word b m (shadow2 b m d) i)
    pub absent : word b m (directory b m d) i ≡ 0 → (word b m (shadow1 b m d) i ≡ 0) × (word b m (shadow2 b m d) i ≡ 0)
    pub there : word b m (directory b m d) i ≢ 0 → (word b m (shadow1 b m d) i ≢ 0) × (word b m (shadow2 b m d) i ≢ 0)

  -- "word 0 first free word index, 1+6n with n threes; then pairs (virtual in parent, physical); word 63 next page, here always 0. Unused words 0."
  pub record ListForm (d : ℕ) : Type 0 where
    pub free : word b m (list b m d) 0 ≡ 1 + 6 * threes b m d
    pub few : threes b m d ≤ most_threes
    pub pairs : (j : ℕ) → j < 3 * threes b m d → Virtual b (word b m (list b m d) (1 + 2 * j)) × Physical b m (word b m (list b m d) (2 + 2 * j))
    pub rest : (i : ℕ) → i < page_words b → word b m (list b m d) 0 ≤ i → word b m (list b m d) i ≡ 0

  -- "page table, 0 or physical address + 1 + 2·accessible + 4·rights ..; shadow 1, 0, or the virtual address of the child's descriptor if the page is
  -- lent, or 1 if the page is itself a child's descriptor; shadow 2, the virtual address in the parent, or 0"
  pub record TableForm (d v : ℕ) : Type 0 where
    pub table_word : mapping b m d v ≢ 0
        → (entry b (page_of b (mapping b m d v)) (accessible (mapping b m d v)) (rights (mapping b m d v)) ≡ mapping b m d v)
        × (page_of b (mapping b m d v) < pages b m)
    pub shadow1_word : lent b m d v ≢ 1 → Virtual b (lent b m d v)
    pub shadow2_word : Virtual b (above b m d v)

  pub record Forms (d : ℕ) : Type 0 where
    pub descriptor : DescriptorForm d
    pub directory : (i : ℕ) → i < page_words b → DirectoryForm d i
    pub list : ListForm d
    pub tables : (v : ℕ) → Has b m d v → TableForm d v
    -- "Virtual page 0 is never mapped"
    pub none : mapping b m d 0 ≡ 0

  -- ---- 2. "Root's descriptor, directory, shadow roots and list are as format leaves them; it maps exactly the flat pages, with all rights and
  -- shadow 2 words 0." Document 02, L8: the live flag is left out.

  pub record Root : Type 0 where
    pub five : (p : ℕ) → p < 5 → (i : ℕ) → i < page_words b → ¬ RootFlag p i → word b m (1 + p) i ≡ format_word b (pages b m) (1 + p) i
    pub maps : (v : ℕ) → Has b m 1 v → (1 ≤ page_of b v) × (page_of b v ≤ flat_pages b (pages b m))
        → (page_of b (mapping b m 1 v) ≡ 5 + 3 * threes_for b (pages b m) + page_of b v) × (rights (mapping b m 1 v) ≡ all_rights)
    pub only : (v : ℕ) → Has b m 1 v → ¬ ((1 ≤ page_of b v) × (page_of b v ≤ flat_pages b (pages b m))) → mapping b m 1 v ≡ 0
    pub shadow2_words : (v : ℕ) → Has b m 1 v → above b m 1 v ≡ 0

  -- ---- 3. "Each listed three stands at one directory index, and each index that has tables is listed once."

  -- three j of d's list stands at index i: page table, shadow 1 table, shadow 2 table
  abbrev pub Stands : ℕ → ℕ → ℕ → Type 0
  Stands d j i =
      (word b m (directory b m d) i ≡ word b m (list b m d) (2 + 6 * j) + 1)
      × (word b m (shadow1 b m d) i ≡ word b m (list b m d) (4 + 6 * j) + 1)
      × (word b m (shadow2 b m d) i ≡ word b m (list b m d) (6 + 6 * j) + 1)

  pub record Threes (d : ℕ) : Type 0 where
    pub stand : (j : ℕ) → j < threes b m d → One (λ i. (i < page_words b) × Stands d j i)
    pub listed : (i : ℕ) → i < page_words b → word b m (directory b m d) i ≢ 0 → One (λ j. (j < threes b m d) × Stands d j i)

  -- ---- 4. "Every shadow 1 word 1 leads to a partition whose parent is this one and whose ten descriptor words agree with the parent's tables; so does
  -- each list pair."

  -- the pair of v and a agrees with d's tables: d maps the page of a at v
  abbrev pub Agrees : ℕ → ℕ → ℕ → Type 0
  Agrees d v a = (mapping b m d v ≢ 0) × (address b (page_of b (mapping b m d v)) ≡ a)

  pub record ChildRight (d v c : ℕ) : Type 0 where
    pub stands : word b m c 0 ≡ v
    pub itself : word b m c 1 ≡ address b c
    pub parent : word b m c 11 ≡ address b d
    pub five : (j : ℕ) → j < 5 → Agrees d (word b m c (2 * j)) (word b m c (2 * j + 1))
    pub listed : (j : ℕ) → j < 3 * threes b m c → Agrees d (word b m (list b m c) (1 + 2 * j)) (word b m (list b m c) (2 + 2 * j))

  pub record Children (d : ℕ) : Type 0 where
    pub leads : (v : ℕ) → Has b m d v → lent b m d v ≡ 1 → mapping b m d v ≢ 0
    pub right : (v c : ℕ) → Child b m d v c → ChildRight d v c

  -- ---- 6. "Every page mapped in a child is mapped in its parent at the shadow 2 address, same page, same accessible bit, no right added, and the
  -- parent's shadow 1 names that child; conversely each lent page is mapped in that child once."

  -- d's child at v, c, maps a page at u
  pub record FromParent (d v c u : ℕ) : Type 0 where
    pub mapped : mapping b m d (above b m c u) ≢ 0
    pub page : page_of b (mapping b m c u) ≡ page_of b (mapping b m d (above b m c u))
    pub bit : accessible (mapping b m c u) ≡ accessible (mapping b m d (above b m c u))
    pub no_more : holds (rights (mapping b m c u)) (mapping b m d (above b m c u)) ≡ true
    pub names : lent b m d (above b m c u) ≡ v

  -- the page of d at v is lent
  abbrev pub Lent : ℕ → ℕ → Type 0
  Lent d v = (mapping b m d v ≢ 0) × (1 < lent b m d v)

  pub record Lending (d : ℕ) : Type 0 where
    pub down : (v c : ℕ) → Child b m d v c → (u : ℕ) → Has b m c u → mapping b m c u ≢ 0 → FromParent d v c u
    pub back : (v : ℕ) → Has b m d v → Lent d v
        → (c : ℕ) × Child b m d (lent b m d v) c × One (λ u. Has b m c u × ((mapping b m c u ≢ 0) × (above b m c u ≡ v)))

  -- ---- 7. "A child's kernel pages are mapped inaccessible in its parent, not lent; no other page that isn't lent is inaccessible."

  -- v is the address, in the parent, of a kernel page of c
  abbrev pub KernelAddress : ℕ → ℕ → Type 0
  KernelAddress c v =
      ((j : ℕ) × (j < 5) × (word b m c (2 * j) ≡ v)) ⊎ ((j : ℕ) × (j < 3 * threes b m c) × (word b m (list b m c) (1 + 2 * j) ≡ v))

  pub record Kernel (d : ℕ) : Type 0 where
    pub shut : (v c : ℕ) → Child b m d v c → (x : ℕ) → KernelAddress c x → (mapping b m d x ≢ 0) × (accessible (mapping b m d x) ≡ 0) × (lent b m d x ≤ 1)
    pub others : (x : ℕ) → Has b m d x → mapping b m d x ≢ 0 → lent b m d x ≤ 1 → accessible (mapping b m d x) ≡ 0
        → (v : ℕ) × (c : ℕ) × Child b m d v c × KernelAddress c x

  -- ---- 8. "Pages 1 to N−1 are each in exactly one hand or one kernel use."

  pub record Uses : Type 0 where
    pub some : (p : ℕ) → 0 < p → p < pages b m → Use b m p
    pub one : (p : ℕ) → 0 < p → p < pages b m → (u w : Use b m p) → (u.part ≡ w.part) × (u.way ≡ w.way)

  -- ---- 12, by document 02, L7. "no add-on hold a page both writable and executable"

  abbrev pub WriteAndExecute : ℕ → ℕ → Type 0
  WriteAndExecute d v = (holds write_right (mapping b m d v) ≡ true) × (holds execute_right (mapping b m d v) ≡ true)

  -- ---- all of them

  pub record Sound : Type 0 where
    pub header : Header
    pub forms : (k d : ℕ) → InTree b m k d → Forms d
    pub root_as_formatted : Root
    pub threes : (k d : ℕ) → InTree b m k d → Threes d
    pub children : (k d : ℕ) → InTree b m k d → Children d
    -- 5. "The tree is at most 8 below the root; current is in it."
    pub depth : (k d : ℕ) → InTree b m k d → k ≤ most_depth
    pub current_in : (k : ℕ) × InTree b m k (current b m)
    pub lending : (k d : ℕ) → InTree b m k d → Lending d
    pub kernel : (k d : ℕ) → InTree b m k d → Kernel d
    pub uses : Uses
    -- 9. "An absent mapping has 0 in all three table words."
    pub absent : (k d : ℕ) → InTree b m k d → (v : ℕ) → Has b m d v → mapping b m d v ≡ 0 → (lent b m d v ≡ 0) × (above b m d v ≡ 0)
    -- 12. "the rule for every mapping, accessible or not, in every partition but the root": the one whose descriptor is page 1. An absent mapping has no
    -- rights.
    pub never_both : (k d : ℕ) → InTree b m k d → d ≢ 1 → (v : ℕ) → Has b m d v → ¬ WriteAndExecute d v
