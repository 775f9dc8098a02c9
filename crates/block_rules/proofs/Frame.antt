-- A change of slots, entries and the current partition alone: header, table, the other words of descriptors and the first two of structures stay. Assumes
-- nothing.
use mathlib.Core.Path.{◌≡◌, refl, sym, ap, ◌∙◌, subst}
use mathlib.Core.List.{List}
use mathlib.Core.Logic.{◌≢◌, ◌⊎◌, inr}
use Prim.Native.Nat.{ℕ, ◌+◌, ◌/◌, ◌≤◌, ◌<◌}
use native.Mathlib.Omega.{arith}
use lib.ListN.{length}
use Rattle.block_memory.specs.Geometry.{table_index}
use Rattle.block_memory.specs.Words.{word}
use Rattle.block_memory.specs.Partition.{root, Partition, structure}
use Rattle.block_memory.proofs.Lookups.{structure-same}
use Rattle.block_soundness.proofs.Ranges.{Permitted}
use Rattle.block_soundness.proofs.Records.{Record, desc, struct, base, Valid}
use Rattle.block_soundness.proofs.Disjoint.{Layout}

-- a permitted length, and records that share no word
pub record Placed (m : List ℕ) : Type 0 where
  pub permits : Permitted (length m)
  pub lay : Layout m

pub record Frame (m m' : List ℕ) : Type 0 where
  pub size : length m' ≡ length m
  pub header : (i : ℕ) → i < 8 → i ≢ 3 → word m' i ≡ word m i
  pub table : (i : ℕ) → 8 ≤ i → i < root m → word m' i ≡ word m i
  pub descriptor : (d i : ℕ) → Partition m d → i < 32 → (i < 8) ⊎ (16 ≤ i) → word m' (d + i) ≡ word m (d + i)
  pub two : (d k i : ℕ) → Partition m d → structure m d k ≢ 0 → i < 2 → word m' (structure m d k + i) ≡ word m (structure m d k + i)

pub frame_self : (m : List ℕ) → Frame m m
frame_self m = record { size = refl; header = λ i a b. refl; table = λ i a b. refl; descriptor = λ d i p a b. refl; two = λ d k i p a b. refl }

module _ (m m' : List ℕ) (p : Permitted (length m)) (f : Frame m m') where
  pub root-same : root m' ≡ root m
  root-same = ap (λ (w : ℕ). 8 + w / 32) f.size

  table-word : (d : ℕ) → d < length m → word m' (table_index d) ≡ word m (table_index d)
  table-word d h = f.table (8 + d / 32) (omega arith) (omega (arith, p.whole))

  pub to : {d : ℕ} → Partition m d → Partition m' d
  to {d} h = record { some = h.some; inside = omega (arith, h.inside, f.size); listed = table-word d h.inside ∙ h.listed }

  pub back : {d : ℕ} → Partition m' d → Partition m d
  back {d} h =
      let i : d < length m = omega (arith, h.inside, f.size) in
      record { some = h.some; inside = i; listed = sym (table-word d i) ∙ h.listed }

  pub structure-stays : (d k : ℕ) → Partition m d → structure m' d k ≡ structure m d k
  structure-stays d k h = structure-same m m' d k (λ a b. f.descriptor d (15 + k) h (omega arith) (inr (omega arith)))

  valid-back : (r : Record) → Valid m' r → Valid m r
  valid-back (desc t) v = back v
  valid-back (struct t k) v = (back v.0, λ z. v.1 (structure-stays t k (back v.0) ∙ z))

  base_same : (r : Record) → Valid m' r → base m' r ≡ base m r
  base_same (desc t) v = refl
  base_same (struct t k) v = structure-stays t k (back v.0)

  layout-kept : Layout m → Layout m'
  layout-kept l = record {
    inside = λ r v. omega (arith, l.inside r (valid-back r v), base_same r v, f.size);
    low = λ r v. omega (arith, l.low r (valid-back r v), base_same r v, root-same);
    distinct = λ r q i j v w a b e. l.distinct r q i j (valid-back r v) (valid-back q w) a b (omega (arith, base_same r v, base_same q w, e));
  }

pub placed-kept : (m m' : List ℕ) → Placed m → Frame m m' → Placed m'
placed-kept m m' p f = record { permits = subst Permitted (sym f.size) p.permits; lay = layout-kept m m' p.permits f p.lay }

pub frame_then : (m m₁ m₂ : List ℕ) → Permitted (length m) → Frame m m₁ → Frame m₁ m₂ → Frame m m₂
frame_then m m₁ m₂ p f g = record {
  size = g.size ∙ f.size;
  header = λ i a b. g.header i a b ∙ f.header i a b;
  table = λ i a b. g.table i a (omega (arith, root-same m m₁ p f)) ∙ f.table i a b;
  descriptor = λ d i h a b. g.descriptor d i (to m m₁ p f h) a b ∙ f.descriptor d i h a b;
  two = λ d k i h a b.
      let e = structure-stays m m₁ p f d k h in
      ap (λ (s : ℕ). word m₂ (s + i)) (sym e) ∙ g.two d k i (to m m₁ p f h) (λ z. a (sym e ∙ z)) b ∙ ap (λ (s : ℕ). word m₁ (s + i)) e ∙ f.two d k i h a b;
}
