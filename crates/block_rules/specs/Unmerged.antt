-- What refusal 7 tells, of every sound memory. Document 02, L10: "removing a block that the child has cut and not merged". docs/BLOCKS.md: "link always names
-- the first piece ..; two blocks were cut apart exactly where one is the other's next; and a child has cut what was lent to it, and not merged it, exactly
-- where the first piece doesn't end where the lent block ends". Assumes nothing.
use Rattle.std.specs.Prelude.{◌≡◌, List, ◌≢◌, ◌↔◌, ℕ}
use Rattle.block_memory.specs.Partition.{current, used, child, link, source, previous, next, place}
use Rattle.block_memory.specs.Sound.{Sound}
use Rattle.block_rules.specs.Refusal.{number, UNMERGED}
use Rattle.block_rules.specs.Call.{serve, remove}
use Rattle.block_rules.specs.Refusals.{refusal}

-- block n of the caller is lent to its child of the number c, which stands at t; f is its link
pub record FirstPiece (m : List ℕ) (n c t f : ℕ) : Type 0 where
  -- "link always names the first piece": one that comes from this block, with no piece before it
  pub of_this : source m t f ≡ n
  pub first : previous m t f ≡ 0
  -- the child has cut it and not merged it exactly where that piece has a next, and exactly then 7 is given
  pub refused : (refusal m (serve (remove c n)) ≡ number UNMERGED) ↔ (next m t f ≢ 0)

-- every block that the caller has lent
abbrev pub EveryUnmerged : Type 0
EveryUnmerged = (m : List ℕ) → Sound m → (n : ℕ) → used m (current m) n ≡ 2
    → FirstPiece m n (child m (current m) n) (place m (current m) (child m (current m) n)) (link m (current m) n)
