-- The test decides soundness. Assumes nothing.
use mathlib.Core.Path.{◌≡◌, ap, subst}
use mathlib.Core.List.{List}
use mathlib.Core.Logic.{◌≢◌}
use Prim.Native.Nat.{ℕ, ◌+◌, ◌/◌, ◌<◌}
use native.Mathlib.Omega.{arith}
use lib.ListN.{length}
use Rattle.walk.specs.Reflect.{Tells, via, eq?, both, unless}
use Rattle.walk.specs.Finite.{from, all?, below}
use Rattle.block_memory.specs.Geometry.{header_words, table_words}
use Rattle.block_memory.specs.Words.{word}
use Rattle.block_memory.specs.Partition.{Partition, root}
use Rattle.block_memory.specs.Sound.{Header, Sound}
use Rattle.block_soundness.specs.Test.{sound_test}
use Rattle.block_soundness.proofs.Ranges.{permitted?, table-has}
use Rattle.block_soundness.proofs.Agree.{partition?, header?, Whole, whole?}

module _ (m : List ℕ) where
  abbrev Listed : Type 0
  Listed = (j : ℕ) → j < table_words (length m) → word m (header_words + j) ≢ 0 → (word m (header_words + j) / 32 ≡ j) × Whole m (word m (header_words + j))

  each : Header m → Listed → (d : ℕ) → Partition m d → Whole m d
  each h l d p =
      subst (λ (x : ℕ). Whole m x) p.listed
      (l (d / 32) (table-has m ((permitted? (length m)).0 h.permits) d p) (λ z. omega (arith, p.listed, p.some))).1

  parts : Header m × Partition m (root m) × Listed → Sound m
  parts (h, r, l) = record {
    header = h;
    table = record { words = λ j i n. (l j i n).0; root_listed = r };
    descriptors = λ d p. (each h l d p).descriptor;
    entries = λ d p. (each h l d p).entries;
    structures = λ d p. (each h l d p).structures;
    slots = λ d n p. (each h l d p).slots n;
  }

  whole : Sound m → (d : ℕ) → Partition m d → Whole m d
  whole s d p = record { descriptor = s.descriptors d p; entries = s.entries d p; structures = s.structures d p; slots = λ n. s.slots d n p }

  listed : Sound m → (j : ℕ) → j < table_words (length m) → word m (header_words + j) ≢ 0 → Partition m (word m (header_words + j))
  listed s j i n =
      let e = s.table.words j i n in
      record { some = omega arith; inside = omega (arith, e); listed = ap (λ (x : ℕ). word m (header_words + x)) e }

  -- the theorem
  pub sound? : Tells (sound_test m) (Sound m)
  unfolding sound_test
  sound? =
      let w = table_words (length m) in
      via (both (both (header? m) (partition? m)) (all? (from w 0) (below w) (λ j. unless eq? (both eq? (whole? m _)))))
      (λ ((h, r), l). parts (h, r, l))
      (λ s. ((s.header, s.table.root_listed), λ j i n. (s.table.words j i n, whole s _ (listed s j i n))))
