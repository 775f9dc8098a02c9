-- A block is disabled and its slot wiped, in the midst of other writes to slots and entries. Assumes nothing.
use mathlib.Core.Path.{◌≡◌, sym, ap, ◌∙◌}
use mathlib.Core.List.{List}
use mathlib.Core.Logic.{◌≢◌}
use Prim.Native.Nat.{ℕ, ◌<◌}
use native.Mathlib.Omega.{arith}
use lib.ListN.{replicate, get_or-replicate}
use Rattle.block_memory.specs.Partition.{Partition, entry, Has, field}
use Rattle.block_rules.specs.Effects.{disable, free_slot}
use Rattle.block_rules.proofs.Frame.{Placed}
use Rattle.block_rules.proofs.Trail.{Trail, Wrote, wrote, Off, off}
use Rattle.block_rules.proofs.Stays.{Same}

-- in w slot n of d is free and not enabled; every other field is as in m₁
pub record Freed (m m₁ w : List ℕ) (d n : ℕ) : Type 0 where
  pub trail : Trail m w
  pub others : (u o g : ℕ) → Partition m u → g < 9 → ¬ ((u ≡ d) × (o ≡ n)) → Same m₁ w u o g
  pub wiped : (g : ℕ) → g < 9 → field w d n g ≡ 0
  pub off : (e : ℕ) → entry w d e ≢ 0 → entry w d e ≢ n

pub free : {m m₁ : List ℕ} {d n : ℕ} → Placed m → Trail m m₁ → Partition m d → Has m d n → Freed m m₁ (free_slot (disable m₁ d n) d n) d n
free {m} {m₁} {d} {n} q a p has =
    let x : Off m m₁ d n = off q a p in
    let y : Wrote m (disable m₁ d n) d n 0 (replicate 9 0) = wrote q x.trail p (omega arith) in
    record {
      trail = y.trail;
      others = λ t o g v i away. y.others t o g v i (λ (e, f, z, k). away (e, f)) ∙ x.fields t o g v i;
      wiped = λ g i. ap (field (free_slot (disable m₁ d n) d n) d n) (omega arith) ∙ y.at has g (omega arith) ∙ get_or-replicate 9 g 0 0 i;
      off = λ e z f. let k = y.entries d e p in x.entries e (λ w. z (k ∙ w)) (sym k ∙ f);
    }
