-- Words written into one record: every word of another record stays, and so do header and table. Assumes nothing.
use mathlib.Core.Path.{◌≡◌, sym, ap, ◌∙◌, subst}
use mathlib.Core.List.{List, [], ◌∷◌}
use Prim.Native.Nat.{ℕ, ◌+◌, ◌-◌, ◌≤◌, ◌<◌}
use native.Mathlib.Omega.{arith}
use native.Mathlib.Decide.{dec_lt, dec_le}
use lib.ListN.{length, get_or}
use Rattle.common.specs.Words.{overwrite}
use Rattle.block_memory.specs.Words.{word, put}
use Rattle.block_memory.specs.Partition.{root}
use Rattle.common.proofs.Overwrite.{length-overwrite, overwrite-before, overwrite-after, overwrite-at, overwrite-one}
use Rattle.block_soundness.proofs.Records.{Record, words, base, Valid}
use Rattle.block_soundness.proofs.Disjoint.{Layout}

-- y is x with the words ws written from word i of record r on; records and where they are, are those of m
pub record Write (m x y : List ℕ) (r : Record) (i : ℕ) (ws : List ℕ) : Type 0 where
  pub size : length y ≡ length m
  pub low : (j : ℕ) → j < root m → word y j ≡ word x j
  pub at : (t : ℕ) → t < length ws → word y (base m r + (i + t)) ≡ get_or ws t 0
  pub other : (q : Record) → Valid m q → (j : ℕ) → j < words q → ¬ ((q ≡ r) × (i ≤ j) × (j < i + length ws)) → word y (base m q + j) ≡ word x (base m q + j)

module _ (m : List ℕ) (lay : Layout m) (r : Record) (v : Valid m r) (x : List ℕ) (size : length x ≡ length m)
    (i : ℕ) (ws : List ℕ) (fits : i + length ws ≤ words r) where
  abbrev pub written : List ℕ
  written = overwrite x (base m r + i) ws

  written-size : length written ≡ length m
  written-size = length-overwrite x (base m r + i) ws ∙ size

  pub below_stays : (j : ℕ) → j < root m → word written j ≡ word x j
  below_stays j h = overwrite-before x (base m r + i) ws j (omega (arith, lay.low r v))

  pub at-written : (t : ℕ) → t < length ws → word written (base m r + (i + t)) ≡ get_or ws t 0
  at-written t h =
      ap (λ (j : ℕ). word written j) (omega arith) ∙ overwrite-at x (base m r + i) ws t h (omega (arith, lay.inside r v))

  pub other-stays : (q : Record) → Valid m q → (j : ℕ) → j < words q → ¬ ((q ≡ r) × (i ≤ j) × (j < i + length ws))
      → word written (base m q + j) ≡ word x (base m q + j)
  other-stays q w j h n = go (dec_lt (base m q + j) (base m r + i)) (dec_le (base m r + i + length ws) (base m q + j))
    where
      go : Dec (base m q + j < base m r + i) → Dec (base m r + i + length ws ≤ base m q + j) → word written (base m q + j) ≡ word x (base m q + j)
      go (yes a) b = overwrite-before x (base m r + i) ws (base m q + j) a
      go (no a) (yes b) = overwrite-after x (base m r + i) ws (base m q + j) b
      go (no a) (no b) =
          let t = base m q + j - base m r in
          let e : q ≡ r = lay.distinct q r j t w v h (omega arith) (omega arith) in
          let f : base m q ≡ base m r = ap (base m) e in
          absurd (n (e, omega arith, omega arith))

  -- the four together, a being that index in the effect's words
  pub write : (a : ℕ) → a ≡ base m r + i → Write m x (overwrite x a ws) r i ws
  write a e = subst (λ (j : ℕ). Write m x (overwrite x j ws) r i ws) (sym e) (record {
    size = written-size;
    low = below_stays;
    at = at-written;
    other = other-stays;
  })

-- .. of one word
pub write-one : (m : List ℕ) → Layout m → (r : Record) → Valid m r → (x : List ℕ) → length x ≡ length m → (i w : ℕ) → i < words r
    → (a : ℕ) → a ≡ base m r + i → Write m x (put x a w) r i (w ∷ [])
write-one m lay r v x size i w fits a e =
    subst (λ (y : List ℕ). Write m x y r i (w ∷ [])) (overwrite-one x a w) (write m lay r v x size i (w ∷ []) (omega arith) a e)
