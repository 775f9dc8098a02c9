-- Sentences 1, 2, 3 and 5 stay where slots, entries and the current partition alone change, and no block with use 3 or 4 does. Assumes nothing.
use mathlib.Core.Path.{◌≡◌, sym, ap, ◌∙◌, subst}
use mathlib.Core.List.{List}
use mathlib.Core.Logic.{◌≢◌, inl}
use Prim.Native.Nat.{ℕ, ◌+◌, ◌/◌}
use native.Mathlib.Omega.{arith}
use lib.ListN.{length}
use Rattle.block_memory.specs.Words.{word}
use Rattle.block_memory.specs.Partition.{root, current, Partition, parent, number, Has, used, previous}
use Rattle.block_memory.specs.Sound.{Sound, Table, Entries, Structures, Slot}
use Rattle.block_soundness.proofs.Ranges.{Permitted, permitted-now}
use Rattle.block_soundness.proofs.Disjoint.{layout}
use Rattle.block_rules.proofs.Frame.{Placed, Frame, to, back, structure-stays}
use Rattle.block_rules.proofs.Stays.{parent-on, number-on}
use Rattle.block_rules.proofs.Ground.{root-now, header-on}
use Rattle.block_rules.proofs.Grown.{KernelStays, Grown, words8, descriptor, structure-kept, root-structure}

pub placed : (m : List ℕ) → Sound m → Placed m
placed m s = record { permits = permitted-now m s; lay = layout m s }

module _ (m m' : List ℕ) (s : Sound m) (f : Frame m m') where
  abbrev per : Permitted (length m)
  per = permitted-now m s

  abbrev pub grown : Grown m m'
  grown = record {
    size = f.size;
    to = λ p. to m m' per f p;
    words = λ d i p h. f.descriptor d i p (omega arith) (inl h);
    structures = λ d k p z. structure-stays m m' per f d k p;
    two = f.two;
  }

  pub parent-same : (d : ℕ) → Partition m d → parent m' d ≡ parent m d
  parent-same d p = parent-on m m' d (words8 m m' s grown d p)

  pub number_same : (d : ℕ) → Partition m d → number m' d ≡ number m d
  number_same d p = number-on m m' d (words8 m m' s grown d p)

  rt : root m' ≡ root m
  rt = root-now m m' s f.size

  table : Table m'
  table = record {
    words = λ j i n.
        let e : word m' (8 + j) ≡ word m (8 + j) = f.table (8 + j) (omega arith) (omega (arith, f.size)) in
        ap (λ (x : ℕ). x / 32) e ∙ s.table.words j (omega (arith, f.size)) (λ z. n (e ∙ z));
    root_listed = subst (Partition m') (sym rt) (to m m' per f s.table.root_listed);
  }

  module _ (kernel : KernelStays m m') where
    structures : used m' (root m) 8 ≢ 0 → previous m' (root m) 8 ≡ 0 → (d : ℕ) → Partition m d → Structures m' d
    structures b8 p8 d p = record {
      of_root = λ e. root-structure m m' s grown kernel b8 p8;
      others = λ k z g. structure-kept m m' s grown kernel d k p (λ w. z (structure-stays m m' per f d k p ∙ w)) (λ (x, y). g (x ∙ sym rt, y));
    }

    pub framed : Partition m (current m') → used m' (root m) 8 ≢ 0 → previous m' (root m) 8 ≡ 0 → ((d : ℕ) → Partition m d → Entries m' d)
        → ((d n : ℕ) → Partition m d → Has m d n → Slot m' d n) → Sound m'
    framed c b8 p8 en sl = record {
      header = header-on m m' s f.size f.header (to m m' per f c);
      table = table;
      descriptors = λ d p. descriptor m m' s grown kernel d (back m m' per f p);
      entries = λ d p. en d (back m m' per f p);
      structures = λ d p. structures b8 p8 d (back m m' per f p);
      slots = λ d n p h. let q = back m m' per f p in sl d n q (λ z. h (structure-stays m m' per f d (n / 8) q ∙ z));
    }
