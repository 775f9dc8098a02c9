-- What delete_partition leaves of the pages that come back from the child: document 02, L3. Proved in proofs/state/Promises and proofs/Accessible.
-- Assumes nothing.
use Rattle.std.specs.Prelude.{◌≡◌, ◌⊎◌, List, true, ℕ, suc, ◌<◌}
use Rattle.memory.specs.Edition.{width}
use Rattle.memory.specs.Geometry.{page_words, page_of, most_depth}
use Rattle.memory.specs.Words.{word}
use Rattle.memory.specs.Entry.{accessible, write_right, holds}
use Rattle.memory.specs.Partition as P
use Rattle.memory.specs.Partition.{current, mapping, lent}
use Rattle.memory.specs.Tree.{Virtual, Has, InTree}
use Rattle.memory.specs.Uses.{KernelPage}
use Rattle.memory.specs.Sound.{Sound, KernelAddress}
use Rattle.rules.specs.Call.{delete_partition}
use Rattle.rules.specs.Moves.{mark}
use Rattle.rules.specs.Conditions.{child}
use Rattle.rules.specs.Refusals.{refusal}
use Rattle.rules.specs.Calls.{after}

-- m is the memory before the call, c the child's address in the caller
module _ (b : ℕ) (m : List ℕ) (c : ℕ) where
  -- the memory after it
  abbrev left : List ℕ
  left = after b m (delete_partition c)

  -- the page that the caller has at v
  abbrev page_at : ℕ → ℕ
  page_at v = page_of b (mapping b m (current b m) v)

  -- the page at v was lent to the child: "the virtual address of the child's descriptor if the page is lent"
  abbrev pub LentTo : ℕ → Type 0
  LentTo v = Virtual b v × (lent b m (current b m) v ≡ c)

  -- "the caller holds write on it"
  abbrev pub Writes : ℕ → Type 0
  Writes v = holds write_right (mapping b m (current b m) v) ≡ true

  abbrev pub Wiped : ℕ → Type 0
  Wiped p = (i : ℕ) → i < page_words b → word b left p i ≡ 0

  abbrev pub Unchanged : ℕ → Type 0
  Unchanged p = (i : ℕ) → i < page_words b → word b left p i ≡ word b m p i

  pub record Deleted : Type 0 where
    -- "deletePartition now wipes every page that was lent to the child .., provided the caller holds write on it"
    pub written : (v : ℕ) → LentTo v → Writes v → Wiped (page_at v)
    -- "wipe it if it was a kernel page", of a partition below the child: with write or without
    pub kernel : (v : ℕ) → LentTo v → KernelPage b m (page_at v) → Wiped (page_at v)
    -- "a page without write that was no kernel page keeps its words"
    pub kept : (v : ℕ) → LentTo v → ¬ Writes v → ¬ KernelPage b m (page_at v) → Unchanged (page_at v)
    -- the child's own kernel pages
    pub own : (v : ℕ) → KernelAddress b m (child b m c) v → Wiped (page_at v)
    -- all of them are in the caller's hand
    pub in_hand : (v : ℕ) → LentTo v ⊎ KernelAddress b m (child b m c) v → P.in_hand b left (current b m) v ≡ true

-- "set it accessible as before": of a page that a partition has accessible no word changes by that, on sound memory of every edition. `return_page` leaves
-- it out there.
abbrev pub AccessibleAlready : Type 0
AccessibleAlready =
    (m : List ℕ) → Sound (width m) m → (k d v : ℕ) → InTree (width m) m k d → Has (width m) m d v → accessible (mapping (width m) m d v) ≡ 1
    → mark (width m) (suc most_depth) 1 m d v ≡ m

-- of every sound memory, and every delete_partition that passes on it
abbrev pub EveryDelete : Type 0
EveryDelete = (m : List ℕ) → Sound (width m) m → (c : ℕ) → refusal (width m) m (delete_partition c) ≡ 0 → Deleted (width m) m c
