-- The partitions that stand in a block, each marked in the place of its table word: a block's own places hold them all. Assumes nothing.
use mathlib.Core.Path.{◌≡◌, refl, sym, ap, ◌∙◌}
use mathlib.Core.Logic.{◌≢◌}
use mathlib.Core.List.{List}
use mathlib.Core.Bool.{Bool, false, cond}
use Prim.Native.Nat.{ℕ, zero, suc, ◌+◌, ◌*◌, ◌/◌, ◌≤◌, ◌<◌}
use native.Mathlib.Nat.{not-suc-le-zero, le_of_suc-le-suc}
use native.Mathlib.Omega.{arith}
use native.Mathlib.Decide.{dec_lt}
use lib.ListN.{length, get_or, take, drop, drop_of_length-le, replicate}
use lib.Seq.{ext_get_or}
use Rattle.walk.specs.Reflect.{Tells, both, eq?, le?, lt?, isn't}
use Rattle.walk.specs.Finite.{from, image-at, length-image}
use Rattle.block_memory.specs.Words.{word}
use Rattle.block_memory.specs.Sound.{Table}
use Rattle.block_making.specs.Deleting.{marked, inside, Marks, stands_in, gone}
use Rattle.block_making.proofs.Marking.{fails}
use Rattle.block_making.proofs.Turns.{length_from}

pub inside? : (a e t : ℕ) → Tells (inside a e t) (((t ≢ 0) × (a ≤ 4 * t)) × (4 * t < e))
unfolding inside
inside? a e t = both (both (isn't eq?) le?) lt?

-- ---- a block's places, from a / 128 on

module _ (m : List ℕ) (a e : ℕ) (table : Table m) (i : ℕ) (l : i < length m / 32) where
  pub below : i < a / 128 → inside a e (word m (8 + i)) ≡ false
  below h = fails _ (λ t.
      let ((z, k), u) = (inside? a e (word m (8 + i))).0 t in
      let g = table.words i l z in
      omega arith)

  pub above : e ≤ 128 * i → inside a e (word m (8 + i)) ≡ false
  above h = fails _ (λ t.
      let ((z, k), u) = (inside? a e (word m (8 + i))).0 t in
      let g = table.words i l z in
      omega arith)

-- what place i gets
abbrev pub mark : List ℕ → ℕ → ℕ → List ℕ → ℕ → ℕ
mark m a e before i = cond (inside a e (word m (8 + i))) (word m (8 + i)) (get_or before i 0)

module _ (m : List ℕ) (a e : ℕ) (before out : List ℕ) (j : ℕ) where
  -- the places from a / 128 up to j are marked
  pub record Upto : Type 0 where
    pub size : length out ≡ length before
    pub done : (i : ℕ) → i < j → i < length before → get_or out i 0 ≡ mark m a e before i
    pub left : (i : ℕ) → j ≤ i → get_or out i 0 ≡ get_or before i 0

-- outside the block's places nothing is marked
same-mark : (m : List ℕ) (a e : ℕ) (before : List ℕ) (i : ℕ) → inside a e (word m (8 + i)) ≡ false → get_or before i 0 ≡ mark m a e before i
same-mark m a e before i h = sym (ap (λ (b : Bool). cond b (word m (8 + i)) (get_or before i 0)) h)

module _ (m : List ℕ) (a e : ℕ) (before : List ℕ) (table : Table m) (short : length before ≤ length m / 32) where
  pub upto_start : Upto m a e before before (a / 128)
  upto_start = record {
    size = refl;
    done = λ i h l. same-mark m a e before i (below m a e table i (omega arith) h);
    left = λ i h. refl;
  }

  pub upto_end : (out : List ℕ) (j : ℕ) → Upto m a e before out j → ((i : ℕ) → j ≤ i → i < length before → e ≤ 128 * i) → Marks m a e before out
  upto_end out j u past i l = elim (dec_lt i j) [
    | yes h ↦ u.done i h l
    | no h ↦ u.left i (omega arith) ∙ same-mark m a e before i (above m a e table i (omega arith) (past i (omega arith) l))
  ]

-- ---- all blocks of a list, one after the other

-- the partition of table word j is marked if one of the blocks from place i on has it
abbrev pub still : List ℕ → ℕ → List ℕ → ℕ → ℕ → ℕ → ℕ
still m d ns i j v = cond (stands_in m d (drop i ns) (word m (8 + j))) (word m (8 + j)) v

pub still-none : (m : List ℕ) (d : ℕ) (ns : List ℕ) (i j v : ℕ) → length ns ≤ i → v ≡ still m d ns i j v
still-none m d ns i j v l = sym (ap (λ (xs : List ℕ). cond (stands_in m d xs (word m (8 + j))) (word m (8 + j)) v) (drop_of_length-le ns l))

from_at : (n i j : ℕ) → j < n → get_or (from n i) j 0 ≡ i + j
unfolding from
from_at zero i j l = absurd (not-suc-le-zero l)
from_at (suc n) i zero l = omega arith
from_at (suc n) i (suc j) l = from_at n (suc i) j (le_of_suc-le-suc l) ∙ omega arith

-- place by place
pub all-marked : (m : List ℕ) (d : ℕ) (ns out : List ℕ) (n : ℕ) → length out ≡ n → ((j : ℕ) → j < n → get_or out j 0 ≡ still m d ns 0 j 0) → out ≡ gone m d ns n
all-marked m d ns out n q h =
    let g : ℕ → ℕ = λ j. marked (stands_in m d ns) (word m (8 + j)) in
    let size : length (from n 0) ≡ n = length_from n 0 in
    ext_get_or 0 out (gone m d ns n) (q ∙ sym (length-image g (from n 0) ∙ size)) (λ j l.
    let zero-on : 0 + j ≡ j = omega arith in
    h j (omega arith) ∙ sym (image-at g (from n 0) j (omega arith) ∙ ap g (from_at n 0 j (omega arith) ∙ zero-on)))

-- places that are not marked yet
pub unmarked : (k n j : ℕ) → get_or {A = ℕ} (take k (replicate n 0)) j 0 ≡ 0
unmarked zero n j = refl
unmarked (suc k) zero j = refl
unmarked (suc k) (suc n) zero = refl
unmarked (suc k) (suc n) (suc j) = unmarked k n j
