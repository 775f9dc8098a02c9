-- What stays from memory m to memory m', by the words that the sentences of soundness look at. Assumes nothing.
use mathlib.Core.Path.{◌≡◌, sym, ap, ◌∙◌}
use mathlib.Core.List.{List}
use mathlib.Core.Logic.{◌≢◌}
use Prim.Native.Nat.{ℕ, ◌+◌, ◌≤◌, ◌<◌}
use native.Mathlib.Omega.{arith}
use native.Mathlib.Nat.{add-zero}
use Rattle.block_memory.specs.Words.{word}
use Rattle.block_memory.specs.Partition.{root, Partition, parent, number, level, structure, field, used, child, link, source, previous, next, place, named}

module _ (m m' : List ℕ) where
  -- word g of block n of d stays; word g of block o is what that of block n was
  abbrev pub Same : ℕ → ℕ → ℕ → Type 0
  Same d n g = field m' d n g ≡ field m d n g

  abbrev pub Was : ℕ → ℕ → ℕ → ℕ → Type 0
  Was d o n g = field m' d o g ≡ field m d n g

  -- all nine words, and all but use, child and link
  abbrev pub SameAll : ℕ → ℕ → Type 0
  SameAll d n = (g : ℕ) → g < 9 → Same d n g

  abbrev pub SameButUse : ℕ → ℕ → Type 0
  SameButUse d n = (g : ℕ) → g < 9 → ¬ ((3 ≤ g) × (g < 6)) → Same d n g

  -- the first eight words of d's descriptor, and the first two of the structure at index i
  abbrev pub Words8 : ℕ → Type 0
  Words8 d = (i : ℕ) → i < 8 → word m' (d + i) ≡ word m (d + i)

  abbrev pub Words2 : ℕ → Type 0
  Words2 i = (g : ℕ) → g < 2 → word m' (i + g) ≡ word m (i + g)

  zero-on : (i : ℕ) → word m' (i + 0) ≡ word m (i + 0) → word m' i ≡ word m i
  zero-on i e = ap (word m') (sym (add-zero i)) ∙ e ∙ ap (word m) (add-zero i)

  pub word0-on : (i : ℕ) → Words2 i → word m' i ≡ word m i
  word0-on i w = zero-on i (w 0 (omega arith))

  pub parent-on : (d : ℕ) → Words8 d → parent m' d ≡ parent m d
  parent-on d w = zero-on d (w 0 (omega arith))

  pub number-on : (d : ℕ) → Words8 d → number m' d ≡ number m d
  number-on d w = w 1 (omega arith)

  pub level-on : (d : ℕ) → Words8 d → level m' d ≡ level m d
  level-on d w = w 2 (omega arith)

  -- ---- sentence 3: the parent, and the block of its pool that d stands in

  pub record Above (d : ℕ) : Type 0 where
    pub listed : Partition m' (parent m d)
    pub words : Words8 (parent m d)
    pub starts : Same (parent m d) (number m d) 0
    pub uses : Same (parent m d) (number m d) 3

  -- ---- sentence 5: use, child and link of block n of h, that a structure stands in

  abbrev pub Held : ℕ → ℕ → Type 0
  Held h n = Same h n 3 × Same h n 4 × Same h n 5

  -- ---- sentence 7: what a block of use 2, 3 or 4 names

  abbrev pub FirstStays : ℕ → ℕ → Type 0
  FirstStays d n = used m d n ≡ 2 → Same (place m d (child m d n)) (link m d n) 6 × Same (place m d (child m d n)) (link m d n) 7

  pub record Named (d n : ℕ) : Type 0 where
    -- the child, and there the first piece
    pub kid : used m d (child m d n) ≡ 3 → Same d (child m d n) 0 × Same d (child m d n) 3
    pub first : FirstStays d n
    -- the descriptor or the structure that stands in it
    pub desc : used m d n ≡ 3 → Partition m' (place m d n) × Words8 (place m d n)
    pub struct : used m d n ≡ 4
        → (structure m' (named m d (child m d n)) (link m d n) ≡ structure m (named m d (child m d n)) (link m d n)) × Words2 (place m d n)

  -- ---- sentences 8 and 9: the source, and the pieces before and after

  abbrev pub SourceStays : ℕ → ℕ → Type 0
  SourceStays d n = d ≢ root m → (g : ℕ) → g < 6 → Same (parent m d) (source m d n) g

  abbrev pub PriorStays : ℕ → ℕ → Type 0
  PriorStays d n = previous m d n ≢ 0 → Same d (previous m d n) 8

  abbrev pub LaterStays : ℕ → ℕ → Type 0
  LaterStays d n = next m d n ≢ 0 → Same d (next m d n) 0 × Same d (next m d n) 2 × Same d (next m d n) 6 × Same d (next m d n) 7

  pub later-from : (d n : ℕ) → (next m d n ≢ 0 → (g : ℕ) → (g < 8) × (g ≢ 1) × ¬ ((3 ≤ g) × (g < 6)) → Same d (next m d n) g) → LaterStays d n
  later-from d n same z = (same z 0 (omega arith), same z 2 (omega arith), same z 6 (omega arith), same z 7 (omega arith))

  pub record Beside (d n : ℕ) : Type 0 where
    pub prior : PriorStays d n
    pub later : LaterStays d n
