-- What a write to the header's word 3, the current partition, changes: no entry, and no word of a slot. Assumes nothing.
use mathlib.Core.Path.{◌≡◌}
use mathlib.Core.List.{List}
use mathlib.Core.Logic.{◌≢◌}
use Prim.Native.Nat.{ℕ, ◌+◌, ◌/◌}
use native.Mathlib.Omega.{arith}
use lib.ListN.{length-set}
use lib.Seq.{get_or-set_same, get_or-set_other}
use Rattle.block_memory.specs.Words.{word, put}
use Rattle.block_memory.specs.Partition.{current, structure}
use Rattle.block_memory.proofs.Lookups.{in_structure, entry-same, field-same}
use Rattle.block_soundness.proofs.Records.{desc, struct}
use Rattle.block_rules.proofs.Frame.{Placed, Frame, structure-stays}
use Rattle.block_rules.proofs.SlotWrite.{SameEntries}
use Rattle.block_rules.proofs.EntryWrite.{SameFields}

module _ (m : List ℕ) (q : Placed m) (x : ℕ) where
  abbrev now : List ℕ
  now = put m 3 x

  other_word : (j : ℕ) → j ≢ 3 → word now j ≡ word m j
  other_word j h = get_or-set_other m 3 j x 0 h

  pub current-now : current now ≡ x
  current-now = get_or-set_same m 3 x 0 (omega (arith, q.permits.whole, q.permits.least))

  pub current-frame : Frame m now
  current-frame = record {
    size = simp length-set;
    header = λ i a b. other_word i b;
    table = λ i a b. other_word i (omega arith);
    descriptor = λ d i p a b. other_word (d + i) (omega (arith, q.lay.low (desc d) p));
    two = λ d k i p z a. other_word (structure m d k + i) (omega (arith, q.lay.low (struct d k) (p, z)));
  }

  pub current-entries : SameEntries m now
  current-entries d e p = entry-same m now d e (λ a b. other_word (d + (7 + e)) (omega (arith, q.lay.low (desc d) p)))

  pub current-fields : SameFields m now
  current-fields d n g p i = field-same m now d n g (structure-stays m now q.permits current-frame d (n / 8) p) (λ z.
      other_word (structure m d (n / 8) + in_structure n g) (omega (arith, q.lay.low (struct d (n / 8)) (p, z))))
