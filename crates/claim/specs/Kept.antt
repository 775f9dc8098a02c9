-- What demand 3 asks of a memory, part by part, in document 01's terms. Assumes nothing.
use Rattle.std.specs.Prelude.{◌≡◌, List, ◌≢◌, ℕ, ◌+◌, ◌*◌, ◌≤◌, ◌<◌}
use Rattle.memory.specs.Geometry.{page_of, threes_for, flat_pages, most_depth}
use Rattle.memory.specs.Entry.{accessible}
use Rattle.memory.specs.Partition.{current, mapping}
use Rattle.memory.specs.Tree.{Has, Child, InTree}
use Rattle.memory.specs.Uses.{Use, KernelPage}
use Rattle.memory.specs.Sound.{WriteAndExecute, Sound}
use Rattle.memory.specs.Counts.{in_hand_count, kernel_count}
use Rattle.rules.specs.Row.{no}
use Rattle.rules.specs.Call.{load, store}
use Rattle.rules.specs.Calls.{answer}

module _ (b : ℕ) (m : List ℕ) where
  -- partition d maps page p
  pub record Maps (d p : ℕ) : Type 0 where
    pub at : ℕ
    pub has : Has b m d at
    pub present : mapping b m d at ≢ 0
    pub page : page_of b (mapping b m d at) ≡ p

  -- n is the number of pages by the last format that passed
  pub record Kept (n : ℕ) : Type 0 where
    pub sound : Sound b m
    -- each page mapped in a child is mapped in its parent
    pub vertical : (k d v c : ℕ) → InTree b m k d → Child b m d v c → (p : ℕ) → Maps c p → Maps d p
    -- "siblings are those with the same parent": no two of them share a page
    pub siblings : (k d u v c e : ℕ) → InTree b m k d → Child b m d u c → Child b m d v e → c ≢ e → (p : ℕ) → Maps c p → Maps e p → ⊥
    -- "No kernel page is accessible in any of them."
    pub closed : (k d v : ℕ) → InTree b m k d → Has b m d v → mapping b m d v ≢ 0 → KernelPage b m (page_of b (mapping b m d v))
        → accessible (mapping b m d v) ≡ 0
    -- so the current partition can neither load nor store a kernel page: it is refused by some number
    pub no_load : (a : ℕ) → KernelPage b m (page_of b (mapping b m (current b m) a)) → (r : ℕ) × (answer b m (load a) ≡ no r)
    pub no_store : (a x : ℕ) → KernelPage b m (page_of b (mapping b m (current b m) a)) → (r : ℕ) × (answer b m (store a x) ≡ no r)
    -- "no add-on hold a page both writable and executable" (document 02, L7): no partition but the root, whose descriptor is page 1, maps a page so
    pub never_both : (k d v : ℕ) → InTree b m k d → d ≢ 1 → Has b m d v → ¬ WriteAndExecute b m d v
    -- "The pages handed to the root are 6+3T to N−1, F of them."
    pub handed : 6 + 3 * threes_for b n + flat_pages b n ≡ n
    -- each of them is in exactly one hand or serves as exactly one kernel page
    pub one_use : (p : ℕ) → 6 + 3 * threes_for b n ≤ p → p < n → (u : Use b m p) × ((w : Use b m p) → (w.part ≡ u.part) × (w.way ≡ u.way))
    -- "In hand + kernel = F"
    pub counted : in_hand_count b m + kernel_count b m ≡ flat_pages b n
    -- "never deeper than eight"
    pub depth : (k d : ℕ) → InTree b m k d → k ≤ most_depth
