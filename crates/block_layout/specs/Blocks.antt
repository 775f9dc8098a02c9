-- A slot whole. Assumes nothing.
use Rattle.std.specs.Prelude.{◌≡◌, ◌≢◌, List, ℕ, ◌/◌}
use Rattle.block_memory.specs.Partition as P
use Rattle.block_layout.specs.declared.blocks.Block.{Block}

-- b has the nine words of block n of d
pub record ReadAs (m : List ℕ) (d n : ℕ) (b : Block) : Type 0 where
  pub start : b.start ≡ P.start m d n
  pub end : b.end ≡ P.end m d n
  pub rights : b.rights ≡ P.rights m d n
  pub used : b.used ≡ P.used m d n
  pub child : b.child ≡ P.child m d n
  pub link : b.link ≡ P.link m d n
  pub source : b.source ≡ P.source m d n
  pub previous : b.previous ≡ P.previous m d n
  pub next : b.next ≡ P.next m d n

-- b has the nine words of block n of any partition that has the slot in the structure at s
abbrev pub ReadIn : (m : List ℕ) (s n : ℕ) (b : Block) → Type 0
ReadIn m s n b = (d : ℕ) → s ≡ P.structure m d (n / 8) → s ≢ 0 → ReadAs m d n b
