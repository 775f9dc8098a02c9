-- What a write to a slot changes: words of that slot, and no entry. Assumes nothing.
use mathlib.Core.Path.{◌≡◌, refl, sym, ap, ◌∙◌, subst}
use mathlib.Core.List.{List}
use mathlib.Core.Bool.{Bool, cond}
use Prim.Native.Nat.{ℕ, ◌+◌, ◌/◌, ◌≤◌, ◌<◌}
use native.Mathlib.Omega.{arith}
use native.Mathlib.Decide.{ℕ_discrete}
use lib.ListN.{length, get_or}
use borrow.Author.Tests.{eq-eqb, ne_eqb}
use Rattle.common.specs.Words.{overwrite}
use Rattle.common.proofs.Overwrite.{length-overwrite}
use Rattle.block_memory.specs.Words.{word}
use Rattle.block_memory.specs.Partition.{root, current, Partition, entry, structure, Has, slot, field, put_slot}
use Rattle.block_memory.proofs.Lookups.{in_structure, entry-same, field_at, field-same}
use Rattle.block_soundness.proofs.Records.{Record, desc, struct, struct_is, not_struct, words, base, Valid}
use Rattle.block_rules.proofs.Writes as W
use Rattle.block_rules.proofs.Frame.{Placed, Frame, frame_self, structure-stays}

abbrev pub SameEntries : List ℕ → List ℕ → Type 0
SameEntries m m' = (d e : ℕ) → Partition m d → entry m' d e ≡ entry m d e

-- word g of slot o of t isn't among the words ws, written to slot n of d from its word f on
abbrev pub Unwritten : ℕ → ℕ → ℕ → List ℕ → ℕ → ℕ → ℕ → Type 0
Unwritten d n f ws t o g = ¬ ((t ≡ d) × (o ≡ n) × (f ≤ g) × (g < f + length ws))

-- ---- a slot that is there

module _ (m : List ℕ) (p : Placed m) (d n f : ℕ) (ws : List ℕ) (h : Partition m d) (has : Has m d n) (fits : f + length ws ≤ 9) where
  abbrev now : List ℕ
  now = put_slot m d n f ws

  abbrev record_of : Record
  record_of = struct d (n / 8)

  in_record : in_structure n f + length ws ≤ 74
  in_record = omega arith

  put_is : now ≡ W.written m p.lay record_of (h, has) m refl (in_structure n f) ws in_record
  unfolding put_slot
  put_is =
      ap (λ (t : Bool). cond t m (overwrite m (slot m d n + f) ws)) (ne_eqb (structure m d (n / 8)) 0 has)
      ∙ ap (λ (i : ℕ). overwrite m i ws) (omega arith)

  stays : (q : Record) → Valid m q → (j : ℕ) → j < words q
      → ¬ ((q ≡ record_of) × (in_structure n f ≤ j) × (j < in_structure n f + length ws)) → word now (base m q + j) ≡ word m (base m q + j)
  stays q v j i away =
      ap (λ (w : List ℕ). word w (base m q + j)) put_is
      ∙ W.other-stays m p.lay record_of (h, has) m refl (in_structure n f) ws in_record q v j i away

  low-stays : (j : ℕ) → j < root m → word now j ≡ word m j
  low-stays j i =
      ap (λ (w : List ℕ). word w j) put_is
      ∙ W.below_stays m p.lay record_of (h, has) m refl (in_structure n f) ws in_record j i

  slot-frame : Frame m now
  slot-frame = record {
    size = ap length put_is ∙ length-overwrite m (structure m d (n / 8) + in_structure n f) ws;
    header = λ i a b. low-stays i (omega arith);
    table = λ i a b. low-stays i b;
    descriptor = λ t i v a b. stays (desc t) v i a (λ (e, x, y). not_struct e);
    two = λ t k i v z a. stays (struct t k) (v, z) i (omega arith) (omega arith);
  }

  slot-current : current now ≡ current m
  slot-current = low-stays 3 (omega arith)

  slot-entries : SameEntries m now
  slot-entries t e v = entry-same m now t e (λ a b. stays (desc t) v (7 + e) (omega arith) (λ (x, y, z). not_struct x))

  slot-other : (t o g : ℕ) → Partition m t → g < 9 → Unwritten d n f ws t o g → field now t o g ≡ field m t o g
  slot-other t o g v i away =
      field-same m now t o g (structure-stays m now p.permits slot-frame t (o / 8) v) (λ z.
      stays (struct t (o / 8)) (v, z) (in_structure o g) (omega arith) same)
    where
      same : (struct t (o / 8) ≡ record_of) × (in_structure n f ≤ in_structure o g) × (in_structure o g < in_structure n f + length ws) → ⊥
      same (e, x, y) =
          let (a, b) = struct_is e in
          away (a, omega arith, omega arith, omega arith)

  slot_at : (t : ℕ) → t < length ws → field now d n (f + t) ≡ get_or ws t 0
  slot_at t i =
      let e = structure-stays m now p.permits slot-frame d (n / 8) h in
      field_at now d n (f + t) (λ z. has (sym e ∙ z))
      ∙ ap (word now) (omega (arith, e))
      ∙ ap (λ (w : List ℕ). word w (structure m d (n / 8) + (in_structure n f + t))) put_is
      ∙ W.at-written m p.lay record_of (h, has) m refl (in_structure n f) ws in_record t i

-- ---- a slot that may not be there: then there is nothing to write to

module _ (m : List ℕ) (p : Placed m) (d n f : ℕ) (ws : List ℕ) (h : Partition m d) (fits : f + length ws ≤ 9) where
  none_is : structure m d (n / 8) ≡ 0 → put_slot m d n f ws ≡ m
  unfolding put_slot
  none_is z = ap (λ (t : Bool). cond t m (overwrite m (slot m d n + f) ws)) (eq-eqb (structure m d (n / 8)) 0 z)

  pub record Put (m' : List ℕ) : Type 0 where
    pub frame : Frame m m'
    pub now : current m' ≡ current m
    pub entries : SameEntries m m'
    pub others : (t o g : ℕ) → Partition m t → g < 9 → Unwritten d n f ws t o g → field m' t o g ≡ field m t o g
    pub at : Has m d n → (t : ℕ) → t < length ws → field m' d n (f + t) ≡ get_or ws t 0

  pub slot-put : Put (put_slot m d n f ws)
  slot-put = elim (ℕ_discrete (structure m d (n / 8)) 0) [
    | yes z ↦ subst Put (sym (none_is z)) (record {
      frame = frame_self m;
      now = refl;
      entries = λ t e v. refl;
      others = λ t o g v i away. refl;
      at = λ x. absurd (x z);
    })
    | no z ↦ record {
      frame = slot-frame m p d n f ws h z fits;
      now = slot-current m p d n f ws h z fits;
      entries = slot-entries m p d n f ws h z fits;
      others = slot-other m p d n f ws h z fits;
      at = λ x. slot_at m p d n f ws h z fits;
    }
  ]
