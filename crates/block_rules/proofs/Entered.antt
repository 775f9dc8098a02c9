-- A record is laid into a block that is taken (Laid): what was there keeps its sentences. Assumes nothing.
use mathlib.Core.Path.{◌≡◌, sym, ap, ap₂, ◌∙◌, subst}
use mathlib.Core.List.{List, [], ◌∷◌}
use mathlib.Core.Logic.{◌≢◌}
use Prim.Native.Nat.{ℕ, ◌+◌, ◌/◌, ◌≤◌, ◌<◌}
use native.Mathlib.Omega.{arith}
use native.Mathlib.Decide.{ℕ_discrete}
use lib.ListN.{length}
use Rattle.block_memory.specs.Geometry.{table_words}
use Rattle.block_memory.specs.Words.{word}
use Rattle.block_memory.specs.Partition.{root, Partition, structure, Has, used, place}
use Rattle.block_memory.specs.Sound.{Sound, Header, Table, Descriptor, Entries, Structure, Structures, Slot, Use}
use Rattle.block_soundness.proofs.Blocks.{used_as, field-has}
use Rattle.block_rules.proofs.Ground.{root-now, header-on}
use Rattle.block_rules.proofs.Grown.{KernelStays, descriptor, structure-kept, root-structure}
use Rattle.block_rules.proofs.Kept.{entries-off}
use Rattle.block_rules.proofs.Turned.{Turned, kernel, slot, root-there, root-first}
use Rattle.block_rules.proofs.Laid.{Laid}

-- the sentences of what was there in m; block b of d is taken, and its first whole word's index is entered at j
pub record Entered (m now : List ℕ) (d b j : ℕ) : Type 0 where
  pub header : Header now
  -- if the index is entered in the table, then in its place there
  pub table : ((i : ℕ) → i < table_words (length m) → 8 + i ≡ j → place m d b / 32 ≡ i) → Table now
  pub descriptors : (v : ℕ) → Partition m v → Descriptor now v
  pub entries : (v : ℕ) → Partition m v → Entries now v
  -- if structures that weren't there have theirs
  pub structures : (v : ℕ) → Partition m v → ((k : ℕ) → structure now v k ≢ 0 → structure m v k ≡ 0 → Structure now v k (structure now v k)) → Structures now v
  -- if the taken block has sentence 7
  pub slots : Use now d b → (v o : ℕ) → Partition m v → Has m v o → Slot now v o
  pub kernel : KernelStays m now

module _ (m now : List ℕ) (s : Sound m) (d b u c l : ℕ) (ws : List ℕ) (j : ℕ) (p : Partition m d) (hand : used m d b ≡ 1) (some : u ≢ 0) (known : u ≤ 4)
    (e : Laid m now d b (u ∷ c ∷ l ∷ []) ws j) where
  turns : Turned m now d b
  turns = record {
    hand = hand;
    some = λ z. some (sym (e.changed 0 (omega arith)) ∙ z);
    known = omega (arith, e.changed 0 (omega arith));
    others = λ v o g x i away. e.others v o g x.partition (field-has m v o 3 x.block) i away;
  }

  kernel-stays : KernelStays m now
  kernel-stays = kernel m now s e.grown d b p turns

  rt : root now ≡ root m
  rt = root-now m now s e.grown.size

  pub enter : Entered m now d b j
  enter = record {
    header = header-on m now s e.grown.size (λ i x n. e.low i (omega arith) (omega (arith, e.late)))
        (subst (Partition now) (sym (e.low 3 (omega arith) (omega (arith, e.late)))) (e.grown.to s.header.current_word));
    table = λ h. record {
      words = λ i x n. elim (ℕ_discrete (8 + i) j) [
        | yes z ↦ ap (λ (y : ℕ). y / 32) (ap (word now) z ∙ e.index) ∙ h i (omega (arith, e.grown.size)) z
        | no z ↦
            let k = e.low (8 + i) (omega (arith, e.grown.size)) z in
            ap (λ (y : ℕ). y / 32) k ∙ s.table.words i (omega (arith, e.grown.size)) (λ y. n (k ∙ y))
      ];
      root_listed = subst (Partition now) (sym rt) (e.grown.to s.table.root_listed);
    };
    descriptors = descriptor m now s e.grown kernel-stays;
    entries = entries-off m now s d b (used_as p hand) e.entries e.off
        (λ v o x y n. turns.others v o 3 x (omega arith) (λ (a, f, g, k). n (a, f)) ∙ y);
    structures = λ v h new. record {
      of_root = λ x. root-structure m now s e.grown kernel-stays (root-there m now s e.grown d b p turns) (root-first m now s e.grown d b p turns);
      others = λ k z g. elim (ℕ_discrete (structure m v k) 0) [
        | yes n ↦ new k z n
        | no n ↦ structure-kept m now s e.grown kernel-stays v k h n (λ (x, y). g (x ∙ sym rt, y))
      ];
    };
    slots = λ uses v o h x. slot m now s e.grown d b p turns uses v o h x (λ z g i.
        e.others v o g h x i (λ (a, f, n, k). omega (arith, z, hand, ap₂ (λ (y w : ℕ). used m y w) a f)));
    kernel = kernel-stays;
  }
