-- Partitions and structures that were there stay, and so do blocks with use 3 or 4: then descriptors, structures and what blocks name stay too. Assumes
-- nothing.
use mathlib.Core.Path.{◌≡◌, refl, sym, subst}
use mathlib.Core.List.{List}
use mathlib.Core.Logic.{◌≢◌}
use Prim.Native.Nat.{ℕ, suc, ◌+◌, ◌≤◌, ◌<◌}
use native.Mathlib.Omega.{arith}
use lib.ListN.{length}
use Rattle.block_memory.specs.Words.{word}
use Rattle.block_memory.specs.Partition.{root, Partition, parent, structure, used, previous, place}
use Rattle.block_memory.specs.Bytes.{Live}
use Rattle.block_memory.specs.Sound.{Sound, Descriptor, Structure, RootStructure}
use Rattle.block_soundness.proofs.Blocks.{used_as, block}
use Rattle.block_soundness.proofs.Records.{structure_of}
use Rattle.block_rules.proofs.Stays.{Same, FirstStays, Words8, Words2, Held, Named}
use Rattle.block_rules.proofs.Ground.{descriptor-on, structure-on, root-structure-on}

-- blocks with use 3 or 4 keep their words 0 to 6
abbrev pub KernelStays : List ℕ → List ℕ → Type 0
KernelStays m m' = (d n g : ℕ) → Live m d n → 3 ≤ used m d n → g < 7 → Same m m' d n g

pub record Grown (m m' : List ℕ) : Type 0 where
  pub size : length m' ≡ length m
  pub to : {d : ℕ} → Partition m d → Partition m' d
  pub words : (d i : ℕ) → Partition m d → i < 8 → word m' (d + i) ≡ word m (d + i)
  pub structures : (d k : ℕ) → Partition m d → structure m d k ≢ 0 → structure m' d k ≡ structure m d k
  pub two : (d k i : ℕ) → Partition m d → structure m d k ≢ 0 → i < 2 → word m' (structure m d k + i) ≡ word m (structure m d k + i)

module _ (m m' : List ℕ) (s : Sound m) (f : Grown m m') where
  pub words8 : (d : ℕ) → Partition m d → Words8 m m' d
  words8 d p i h = f.words d i p h

  words2 : (d k : ℕ) → Partition m d → structure m d k ≢ 0 → Words2 m m' (structure m d k)
  words2 d k p z i h = f.two d k i p z h

  module _ (kernel : KernelStays m m') where
    kernel_use : (d n g : ℕ) {k : ℕ} → Partition m d → used m d n ≡ suc (suc (suc k)) → g < 7 → Same m m' d n g
    kernel_use d n g p e i = kernel d n g (used_as p e) (omega (arith, e)) i

    pub descriptor : (d : ℕ) → Partition m d → Descriptor m' d
    descriptor d p = descriptor-on m m' s f.size d p (words8 d p) (λ e. let h = (s.descriptors d p).of_other e in record {
      listed = f.to h.parent_listed;
      words = words8 (parent m d) h.parent_listed;
      starts = kernel_use _ _ 0 h.parent_listed h.stands (omega arith);
      uses = kernel_use _ _ 3 h.parent_listed h.stands (omega arith);
    })

    held : (h n : ℕ) → Partition m h → used m h n ≡ 4 → Held m m' h n
    held h n p e = (kernel_use h n 3 p e (omega arith), kernel_use h n 4 p e (omega arith), kernel_use h n 5 p e (omega arith))

    pub structure-kept : (d k : ℕ) → Partition m d → structure m d k ≢ 0 → ¬ ((d ≡ root m) × (k ≡ 1)) → Structure m' d k (structure m' d k)
    structure-kept d k p z g =
        let o = (s.structures d p).others k z g in
        subst (λ (x : ℕ). Structure m' d k x) (sym (f.structures d k p z))
        (structure-on m m' s f.size d k (structure m d k) o (words8 d p) (words2 d k p z)
        (λ e. held d _ p (o.in_own e).use4)
        (λ e. held (parent m d) _ ((s.descriptors d p).of_other (λ r. e (o.of_root r))).parent_listed (o.in_parent e).use4))

    pub root-structure : used m' (root m) 8 ≢ 0 → previous m' (root m) 8 ≡ 0 → RootStructure m'
    root-structure b8 p8 =
        let r = s.table.root_listed in
        let o = (s.structures (root m) r).of_root refl in
        let z : structure m (root m) 1 ≢ 0 = λ w. omega (arith, w, o.at) in
        root-structure-on m m' s f.size (f.structures (root m) 1 r z) (words2 (root m) 1 r z) b8 p8

    -- what a block of use 2, 3 or 4 names, but for the first piece
    pub names : (d n : ℕ) → Live m d n → FirstStays m m' d n → Named m m' d n
    names d n l first = record {
      kid = λ u. (kernel_use d _ 0 l.partition u (omega arith), kernel_use d _ 3 l.partition u (omega arith));
      first = first;
      desc = λ u. let h = ((block m s l).uses.use3 u).listed in (f.to h, words8 (place m d n) h);
      struct = λ u.
          let (p, z) = structure_of m s d n l u in
          (f.structures _ _ p z, subst (Words2 m m') ((block m s l).uses.use4 u).there (words2 _ _ p z));
    }
