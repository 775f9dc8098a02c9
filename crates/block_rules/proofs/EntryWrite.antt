-- What a write to an entry changes: that entry, and no word of a slot. Assumes nothing.
use mathlib.Core.Path.{◌≡◌, refl, sym, ap, ◌∙◌}
use mathlib.Core.List.{List, [], ◌∷◌}
use mathlib.Core.Logic.{◌≢◌, ◌⊎◌, inl, inr}
use Prim.Native.Nat.{ℕ, ◌+◌, ◌/◌, ◌≤◌, ◌<◌}
use native.Mathlib.Omega.{arith}
use lib.ListN.{length, length-set}
use lib.Seq.{get_or-set_same}
use Rattle.common.proofs.Overwrite.{overwrite-one}
use Rattle.block_memory.specs.Words.{word, put}
use Rattle.block_memory.specs.Partition.{root, current, Partition, entry, field}
use Rattle.block_memory.proofs.Lookups.{in_structure, entry-same, entry-at, field-same}
use Rattle.block_soundness.proofs.Records.{Record, desc, struct, desc-is, not-desc, words, base, Valid}
use Rattle.block_rules.proofs.Writes as W
use Rattle.block_rules.proofs.Frame.{Placed, Frame, structure-stays}

abbrev pub SameFields : List ℕ → List ℕ → Type 0
SameFields m m' = (d n f : ℕ) → Partition m d → f < 9 → field m' d n f ≡ field m d n f

module _ (m : List ℕ) (p : Placed m) (d e x : ℕ) (h : Partition m d) (a : 1 ≤ e) (b : e ≤ 8) where
  abbrev now : List ℕ
  now = put m (d + 7 + e) x

  entry-fits : 7 + e + length (x ∷ []) ≤ 32
  entry-fits = omega arith

  put-entry : now ≡ W.written m p.lay (desc d) h m refl (7 + e) (x ∷ []) entry-fits
  put-entry = ap (λ (i : ℕ). put m i x) (omega arith) ∙ sym (overwrite-one m (d + (7 + e)) x)

  entry-stays : (q : Record) → Valid m q → (j : ℕ) → j < words q → ¬ ((q ≡ desc d) × (j ≡ 7 + e)) → word now (base m q + j) ≡ word m (base m q + j)
  entry-stays q v j i away =
      ap (λ (w : List ℕ). word w (base m q + j)) put-entry
      ∙ W.other-stays m p.lay (desc d) h m refl (7 + e) (x ∷ []) entry-fits q v j i (λ (u, y, z). away (u, omega arith))

  entry-low : (j : ℕ) → j < root m → word now j ≡ word m j
  entry-low j i = ap (λ (w : List ℕ). word w j) put-entry ∙ W.below_stays m p.lay (desc d) h m refl (7 + e) (x ∷ []) entry-fits j i

  outside : {i : ℕ} → (i < 8) ⊎ (16 ≤ i) → i ≢ 7 + e
  outside (inl y) z = omega arith
  outside (inr y) z = omega arith

  entry_frame : Frame m now
  entry_frame = record {
    size = simp length-set;
    header = λ i c g. entry-low i (omega arith);
    table = λ i c g. entry-low i g;
    descriptor = λ t i v c g. entry-stays (desc t) v i c (λ (u, y). outside g y);
    two = λ t k i v z c. entry-stays (struct t k) (v, z) i (omega arith) (λ (u, y). not-desc u);
  }

  entry-current : current now ≡ current m
  entry-current = entry-low 3 (omega arith)

  entry-fields : SameFields m now
  entry-fields t o g v i =
      field-same m now t o g (structure-stays m now p.permits entry_frame t (o / 8) v) (λ z.
      entry-stays (struct t (o / 8)) (v, z) (in_structure o g) (omega arith) (λ (u, y). not-desc u))

  entry_other : (t k : ℕ) → Partition m t → ¬ ((t ≡ d) × (k ≡ e)) → entry now t k ≡ entry m t k
  entry_other t k v away = entry-same m now t k (λ i j. entry-stays (desc t) v (7 + k) (omega arith) (λ (u, y). away (desc-is u, omega arith)))

  entry-now : entry now d e ≡ x
  entry-now = entry-at now d e a b ∙ get_or-set_same m (d + 7 + e) x 0 (omega (arith, p.lay.inside (desc d) h))

-- ---- all of it: entry e of d is x now

pub record EntryPut (m m' : List ℕ) (d e x : ℕ) : Type 0 where
  pub frame : Frame m m'
  pub now : current m' ≡ current m
  pub fields : SameFields m m'
  pub others : (t k : ℕ) → Partition m t → ¬ ((t ≡ d) × (k ≡ e)) → entry m' t k ≡ entry m t k
  pub at : entry m' d e ≡ x

pub entry-put : (m : List ℕ) → Placed m → (d e x : ℕ) → Partition m d → 1 ≤ e → e ≤ 8 → EntryPut m (put m (d + 7 + e) x) d e x
entry-put m p d e x h a b = record {
  frame = entry_frame m p d e x h a b;
  now = entry-current m p d e x h a b;
  fields = entry-fields m p d e x h a b;
  others = entry_other m p d e x h a b;
  at = entry-now m p d e x h a b;
}
