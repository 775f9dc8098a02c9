-- One block in hand is taken, block b of d: no other block that was there changes, and of its own words only use, child and link. Then what blocks name
-- stays. Assumes nothing.
use mathlib.Core.Path.{◌≡◌, refl, sym, ap₂, ◌∙◌}
use mathlib.Core.List.{List}
use mathlib.Core.Logic.{◌≢◌}
use Prim.Native.Nat.{ℕ, ◌≤◌, ◌<◌}
use native.Mathlib.Omega.{arith}
use native.Mathlib.Decide.{ℕ_discrete}
use Rattle.block_memory.specs.Partition.{root, Partition, Has, used, child, link, previous, place}
use Rattle.block_memory.specs.Bytes.{Live}
use Rattle.block_memory.specs.Sound.{Sound, Slot, Use}
use Rattle.block_soundness.proofs.Blocks.{used_as, first_in_root}
use Rattle.block_soundness.proofs.Up.{up}
use Rattle.block_rules.proofs.Stays.{Same, SameAll, SameButUse, SourceStays, Beside}
use Rattle.block_rules.proofs.Keep.{this_or}
use Rattle.block_rules.proofs.SlotStays.{beside-on, turned, still-on}
use Rattle.block_rules.proofs.Grown.{KernelStays, Grown, words8, names}
use Rattle.block_rules.proofs.Kept.{first_piece}

pub record Turned (m now : List ℕ) (d b : ℕ) : Type 0 where
  pub hand : used m d b ≡ 1
  pub some : used now d b ≢ 0
  pub known : used now d b ≤ 4
  pub others : (u o g : ℕ) → Live m u o → g < 9 → ¬ ((u ≡ d) × (o ≡ b) × (3 ≤ g) × (g < 6)) → Same m now u o g

module _ (m now : List ℕ) (s : Sound m) (f : Grown m now) (d b : ℕ) (p : Partition m d) (t : Turned m now d b) where
  -- a word other than use, child and link
  pub same : (u o : ℕ) → Live m u o → SameButUse m now u o
  same u o l g i h = t.others u o g l i (λ (x, y, z, k). h (z, k))

  -- a block that isn't in hand
  unless-hand : (u o g : ℕ) → Live m u o → g < 9 → used m u o ≢ 1 → Same m now u o g
  unless-hand u o g l i h = t.others u o g l i (λ (x, y, z, k). h (ap₂ (λ (e c : ℕ). used m e c) x y ∙ t.hand))

  pub kernel : KernelStays m now
  kernel u o g l h i = unless-hand u o g l (omega arith) (λ z. omega (arith, z))

  first : (u o : ℕ) → Live m u o → used m u o ≡ 2 → Same m now (place m u (child m u o)) (link m u o) 6 × Same m now (place m u (child m u o)) (link m u o) 7
  first u o l e =
      let x = first_piece m s u o l e in
      (same _ _ x 6 (omega arith) (omega arith), same _ _ x 7 (omega arith) (omega arith))

  lent : (u o : ℕ) → Live m u o → SourceStays m now u o
  lent u o l e g i = let x = up m s l e in unless-hand _ _ g x.alive (omega arith) (λ z. omega (arith, z, x.lent))

  beside : (u o : ℕ) (l : Live m u o) → Beside m now u o
  beside u o l = beside-on m now s f.size l (same u)

  -- ---- the slots

  this : Use now d b → Slot now d b
  this uses =
      let l = used_as p t.hand in
      turned m now s f.size l (words8 m now s f d p) (same d b l) t.some t.known uses (lent d b l) (beside d b l)

  -- a slot that was there, and whose words stay if it was free
  pub slot : Use now d b → (u o : ℕ) → Partition m u → Has m u o → (used m u o ≡ 0 → SameAll m now u o) → Slot now u o
  slot uses u o v h free = this_or (Slot now) d b u o (this uses) (λ n.
      still-on m now s f.size u o v h (words8 m now s f u v) (words n) (λ l.
      (names m now s f kernel u o l (first u o l), lent u o l, beside u o l)))
    where
      words : ¬ ((u ≡ d) × (o ≡ b)) → SameAll m now u o
      words n g i = elim (ℕ_discrete (used m u o) 0) [
        | yes z ↦ free z g i
        | no z ↦ t.others u o g (record { partition = v; block = z }) i (λ (x, y, c, k). n (x, y))
      ]

  -- ---- the root's block 8

  pub root-there : used now (root m) 8 ≢ 0
  root-there = this_or (λ u o. used now u o ≢ 0) d b (root m) 8 t.some
      (λ n z. (first_in_root m s).block (sym (t.others (root m) 8 3 (first_in_root m s) (omega arith) (λ (x, y, c, k). n (x, y))) ∙ z))

  pub root-first : previous now (root m) 8 ≡ 0
  root-first = same (root m) 8 (first_in_root m s) 7 (omega arith) (omega arith) ∙ ((s.structures (root m) s.table.root_listed).of_root refl).first
