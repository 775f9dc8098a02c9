-- A record is laid into a block that is taken, from its first whole word on, and the index of that word is entered where nothing was: what the words are
-- then. Assumes nothing.
use mathlib.Core.Path.{◌≡◌, sym, ap, ◌∙◌}
use mathlib.Core.List.{List, [], ◌∷◌}
use mathlib.Core.Logic.{◌≢◌, inl, inr}
use Prim.Native.Nat.{ℕ, ◌+◌, ◌*◌, ◌/◌, ◌≤◌, ◌<◌}
use native.Mathlib.Omega.{arith}
use native.Mathlib.Decide.{ℕ_discrete, dec_lt}
use lib.ListN.{length, get_or, length-set}
use lib.Seq.{get_or-set_same, get_or-set_other}
use Rattle.common.specs.Words.{overwrite}
use Rattle.common.proofs.Overwrite.{length-overwrite, overwrite-before, overwrite-after, overwrite-at}
use Rattle.block_memory.specs.Geometry.{table_index}
use Rattle.block_memory.specs.Words.{word, put}
use Rattle.block_memory.specs.Partition.{root, Partition, entry, structure, Has, field, end, used, place}
use Rattle.block_memory.specs.Sound.{Sound}
use Rattle.block_memory.proofs.Lookups.{in_structure, entry-same, structure-same, field-same}
use Rattle.block_soundness.proofs.Ranges.{table-has}
use Rattle.block_soundness.proofs.Blocks.{field-has}
use Rattle.block_soundness.proofs.Records.{Record, desc, struct, words, base, Valid}
use Rattle.block_rules.specs.Effects.{take_as}
use Rattle.block_rules.proofs.Frame.{Placed, structure-stays}
use Rattle.block_rules.proofs.Disabled.{FewerEntries}
use Rattle.block_rules.proofs.Trail.{Trail, trail}
use Rattle.block_rules.proofs.Stays.{Same}
use Rattle.block_rules.proofs.Grown.{Grown}
use Rattle.block_rules.proofs.Framed.{placed}
use Rattle.block_rules.proofs.Taken.{Taken, take}
use Rattle.block_rules.proofs.Room.{above-own, in_memory, clear_of}

-- ---- index j, at which nothing is said: no word of the header, of a partition in the table, or of a record but for a structure that isn't there

module _ (m : List ℕ) where
  -- word 15+k of a descriptor without structure k
  abbrev pub Spare : Record → ℕ → Type 0
  Spare (desc t) i = (k : ℕ) × (1 ≤ k) × (i ≡ 15 + k) × (structure m t k ≡ 0)
  Spare (struct t k) i = ⊥

  pub record Unused (j : ℕ) : Type 0 where
    pub late : 8 ≤ j
    pub inside : j < length m
    pub table : (u : ℕ) → Partition m u → table_index u ≢ j
    pub spare : (r : Record) → Valid m r → (i : ℕ) → i < words r → base m r + i ≡ j → Spare r i

-- ---- what is so afterwards, in memory `now`: block b of d has the words `three` from word 3 on, and ws stand in it

pub record Laid (m now : List ℕ) (d b : ℕ) (three ws : List ℕ) (j : ℕ) : Type 0 where
  pub late : 8 ≤ j
  -- the partitions: those that were there, and no other unless j is its table word
  pub grown : Grown m now
  pub back : {u : ℕ} → Partition now u → table_index u ≢ j → Partition m u
  -- the words of header and table, and those that are new
  pub low : (i : ℕ) → i < root m → i ≢ j → word now i ≡ word m i
  pub index : word now j ≡ place m d b
  pub filled : (i : ℕ) → i < length ws → place m d b + i ≢ j → word now (place m d b + i) ≡ get_or ws i 0
  -- structures, slots and entries
  pub structures : (u k : ℕ) → Partition m u → (1 ≤ k → k ≤ 16 → u + (15 + k) ≢ j) → structure now u k ≡ structure m u k
  pub others : (u o g : ℕ) → Partition m u → Has m u o → g < 9 → ¬ ((u ≡ d) × (o ≡ b) × (3 ≤ g) × (g < 6)) → Same m now u o g
  pub starts : Same m now d b 0
  pub ends : Same m now d b 1
  pub changed : (g : ℕ) → g < 3 → field now d b (3 + g) ≡ get_or three g 0
  pub entries : FewerEntries m now
  pub off : (e : ℕ) → entry now d e ≢ 0 → entry now d e ≢ b

-- header and table stay where slots and entries alone are written to
low_same : (m w : List ℕ) → Trail m w → (i : ℕ) → i < root m → word w i ≡ word m i
low_same m w a i h = go (dec_lt i 8) (ℕ_discrete i 3)
  where
    go : Dec (i < 8) → Dec (i ≡ 3) → word w i ≡ word m i
    go x (yes e) = ap (word w) e ∙ a.now ∙ ap (word m) (sym e)
    go (yes x) (no e) = a.frame.header i x e
    go (no x) (no e) = a.frame.table i (omega arith) h

module _ (m : List ℕ) (s : Sound m) (d b u c l : ℕ) (p : Partition m d) (hand : used m d b ≡ 1) (ws : List ℕ)
    (room : 4 * (place m d b + length ws) ≤ end m d b) (j : ℕ) (unused : Unused m j) where
  abbrev i₀ : ℕ
  i₀ = place m d b

  abbrev w : List ℕ
  w = take_as m d b u c l

  abbrev x : List ℕ
  x = overwrite w i₀ ws

  abbrev pub entered : List ℕ
  entered = put x j i₀

  q : Placed m
  q = placed m s

  has-b : Has m d b
  has-b = field-has m d b 3 (λ z. omega (arith, z, hand))

  t : Taken m m w d b (u ∷ c ∷ l ∷ [])
  t = take q (trail m q) p has-b

  x-size : length x ≡ length m
  x-size = length-overwrite w i₀ ws ∙ t.trail.frame.size

  size : length entered ≡ length m
  size = simp length-set x-size

  low : (i : ℕ) → i < root m → i ≢ j → word entered i ≡ word m i
  low i h n =
      get_or-set_other x j i i₀ 0 n ∙ overwrite-before w i₀ ws i (omega (arith, above-own m s d b (length ws) p hand room))
      ∙ low_same m w t.trail i h

  -- a word of a record
  at : (r : Record) → Valid m r → (i : ℕ) → i < words r → base m r + i ≢ j → word entered (base m r + i) ≡ word w (base m r + i)
  at r v i h n = get_or-set_other x j (base m r + i) i₀ 0 n ∙ go (dec_lt (base m r + i) i₀) (dec_lt (base m r + i) (i₀ + length ws))
    where
      go : Dec (base m r + i < i₀) → Dec (base m r + i < i₀ + length ws) → word x (base m r + i) ≡ word w (base m r + i)
      go (yes y) z = overwrite-before w i₀ ws (base m r + i) y
      go (no y) (yes z) = absurd (clear_of m s d b (length ws) p hand room r v i h (omega arith) z)
      go (no y) (no z) = overwrite-after w i₀ ws (base m r + i) (omega arith)

  unless-spare : (r : Record) → Valid m r → (i : ℕ) → i < words r → ¬ (Spare m r i) → word entered (base m r + i) ≡ word w (base m r + i)
  unless-spare r v i h n = at r v i h (λ e. n (unused.spare r v i h e))

  structures : (v k : ℕ) → Partition m v → (1 ≤ k → k ≤ 16 → v + (15 + k) ≢ j) → structure entered v k ≡ structure m v k
  structures v k h n = structure-same m entered v k (λ y z.
      at (desc v) h (15 + k) (omega arith) (n y z) ∙ t.trail.frame.descriptor v (15 + k) h (omega arith) (inr (omega arith)))

  old-structure : (v k : ℕ) → Partition m v → structure m v k ≢ 0 → structure entered v k ≡ structure m v k
  old-structure v k h z = structures v k h (λ y y' e.
      let (k', a, f, g) = unused.spare (desc v) h (15 + k) (omega arith) e in
      z (ap (structure m v) (omega arith) ∙ g))

  fields : (v o g : ℕ) → Partition m v → Has m v o → g < 9 → Same w entered v o g
  fields v o g h z i =
      let f = structure-stays m w q.permits t.trail.frame v (o / 8) h in
      let e = ap (λ (x : ℕ). x + in_structure o g) f in
      field-same w entered v o g (old-structure v (o / 8) h z ∙ sym f) (λ n.
      ap (word entered) e ∙ unless-spare (struct v (o / 8)) (h, z) (in_structure o g) (omega arith) (λ y. y) ∙ ap (word w) (sym e))

  others : (v o g : ℕ) → Partition m v → Has m v o → g < 9 → ¬ ((v ≡ d) × (o ≡ b) × (3 ≤ g) × (g < 6)) → Same m entered v o g
  others v o g h z i away = fields v o g h z i ∙ t.others v o g h i away

  entries : (v e : ℕ) → Partition m v → entry entered v e ≡ entry w v e
  entries v e h = entry-same w entered v e (λ y z. unless-spare (desc v) h (7 + e) (omega arith) (omega arith))

  grown : Grown m entered
  grown = record {
    size = size;
    to = λ {d = v} h. record {
      some = h.some;
      inside = omega (arith, h.inside, size);
      listed = low (table_index v) (omega (arith, table-has m q.permits v h)) (unused.table v h) ∙ h.listed;
    };
    words = λ v i h n.
        unless-spare (desc v) h i (omega arith) (omega arith) ∙ t.trail.frame.descriptor v i h (omega arith) (inl n);
    structures = old-structure;
    two = λ v k i h z n. unless-spare (struct v k) (h, z) i (omega arith) (λ y. y) ∙ t.trail.frame.two v k i h z n;
  }

  pub lay : Laid m entered d b (u ∷ c ∷ l ∷ []) ws j
  lay = record {
    late = unused.late;
    grown = grown;
    back = λ {u = v} h n.
        let i : v < length m = omega (arith, h.inside, size) in
        record { some = h.some; inside = i; listed = sym (low (table_index v) (omega (arith, q.permits.whole)) n) ∙ h.listed };
    low = low;
    index = get_or-set_same x j i₀ 0 (omega (arith, x-size, unused.inside));
    filled = λ i h n.
        get_or-set_other x j (i₀ + i) i₀ 0 n
        ∙ overwrite-at w i₀ ws i h (omega (arith, t.trail.frame.size, in_memory m s d b (length ws) p hand room));
    structures = structures;
    others = others;
    starts = others d b 0 p has-b (omega arith) (omega arith);
    ends = others d b 1 p has-b (omega arith) (omega arith);
    changed = λ g i. fields d b (3 + g) p has-b (omega arith) ∙ t.changed g i;
    entries = λ v e h z. let k = entries v e h in k ∙ t.trail.entries v e h (λ y. z (k ∙ y));
    off = λ e z f. let k = entries d e p in t.off e (λ y. z (k ∙ y)) (sym k ∙ f);
  }
