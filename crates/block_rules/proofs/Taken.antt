-- "Take b as (u, c, l): disable it; its words 3, 4, 5 become u, c, l", in the midst of other writes to slots and entries. Assumes nothing.
use mathlib.Core.Path.{◌≡◌, sym, ◌∙◌}
use mathlib.Core.List.{List, [], ◌∷◌}
use mathlib.Core.Logic.{◌≢◌}
use Prim.Native.Nat.{ℕ, ◌+◌, ◌≤◌, ◌<◌}
use native.Mathlib.Omega.{arith}
use lib.ListN.{get_or}
use Rattle.block_memory.specs.Partition.{Partition, entry, Has, field}
use Rattle.block_rules.specs.Effects.{disable, take_as}
use Rattle.block_rules.proofs.Frame.{Placed}
use Rattle.block_rules.proofs.Trail.{Trail, Wrote, wrote, Off, off}
use Rattle.block_rules.proofs.Stays.{Same}

-- in w block b of d has the words `three` from word 3 on and isn't enabled; every other field is as in m₁
pub record Taken (m m₁ w : List ℕ) (d b : ℕ) (three : List ℕ) : Type 0 where
  pub trail : Trail m w
  pub others : (u o g : ℕ) → Partition m u → g < 9 → ¬ ((u ≡ d) × (o ≡ b) × (3 ≤ g) × (g < 6)) → Same m₁ w u o g
  pub changed : (g : ℕ) → g < 3 → field w d b (3 + g) ≡ get_or three g 0
  pub off : (e : ℕ) → entry w d e ≢ 0 → entry w d e ≢ b

pub take : {m m₁ : List ℕ} {d b u c l : ℕ} → Placed m → Trail m m₁ → Partition m d → Has m d b → Taken m m₁ (take_as m₁ d b u c l) d b (u ∷ c ∷ l ∷ [])
take {m} {m₁} {d} {b} {u} {c} {l} q a p has =
    let x : Off m m₁ d b = off q a p in
    let y : Wrote m (disable m₁ d b) d b 3 (u ∷ c ∷ l ∷ []) = wrote q x.trail p (omega arith) in
    record {
      trail = y.trail;
      others = λ t o g v i away. y.others t o g v i away ∙ x.fields t o g v i;
      changed = y.at has;
      off = λ e z f. let k = y.entries d e p in x.entries e (λ w. z (k ∙ w)) (sym k ∙ f);
    }
