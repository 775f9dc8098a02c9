-- Blocks given back, one after the other. Records and where they are, are those of m. Assumes nothing.
use mathlib.Core.Path.{◌≡◌, refl, sym, ◌∙◌, subst}
use mathlib.Core.List.{List, [], ◌∷◌}
use mathlib.Core.Bool.{Bool, cond}
use Prim.Native.Nat.{ℕ, ◌+◌, ◌/◌, ◌≤◌, ◌<◌}
use native.Mathlib.Omega.{arith}
use native.Mathlib.Decide.{ℕ_discrete, dec_lt}
use lib.ListN.{length, get_or}
use borrow.Author.Tests.{ne_eqb}
use Rattle.walk.specs.Lists.{count, count_nil, count_cons, hit_eq, hit_other}
use Rattle.common.specs.Words.{overwrite}
use Rattle.block_memory.specs.Words.{word, over}
use Rattle.block_memory.specs.Partition.{root, Partition, structure, Has, slot, put_slot}
use Rattle.block_memory.proofs.Lookups.{in_structure}
use Rattle.block_soundness.proofs.Records.{Record, desc, struct, struct_is, not_struct, words, base, Valid}
use Rattle.block_rules.specs.Effects.{give_back}
use Rattle.block_rules.proofs.Writes.{Write, write}
use Rattle.block_rules.proofs.Frame.{Placed}
use Rattle.block_rules.proofs.Leaving.{back_words}
use Rattle.block_rules.proofs.Wiped.{AsIn, structure_in}

module _ (m : List ℕ) (q : Placed m) where
  pub one-given : (x : List ℕ) (d n : ℕ) → length x ≡ length m → Partition m d → structure x d (n / 8) ≡ structure m d (n / 8) → Has m d n
      → Write m x (give_back x d n) (struct d (n / 8)) (in_structure n 3) back_words
  unfolding put_slot
  one-given x d n size p e h =
      subst (λ (t : Bool). Write m x (cond t x (overwrite x (slot x d n + 3) back_words)) (struct d (n / 8)) (in_structure n 3) back_words)
      (sym (ne_eqb (structure x d (n / 8)) 0 (λ z. h (sym e ∙ z))))
      (write m q.lay (struct d (n / 8)) (p, h) x size (in_structure n 3) back_words (omega arith) (slot x d n + 3) (omega (arith, e)))

  module _ (d : ℕ) (p : Partition m d) where
    -- word i of record r is written where block n is given back
    abbrev pub InBack : Record → ℕ → ℕ → Type 0
    InBack r i n = (r ≡ struct d (n / 8)) × (in_structure n 3 ≤ i) × (i < in_structure n 3 + 3)

    -- y is x with the blocks of the numbers ns given back
    pub record Given (x y ns : List ℕ) : Type 0 where
      pub size : length y ≡ length m
      pub kept : (r : Record) → Valid m r → (i : ℕ) → i < words r → ((n : ℕ) → 0 < count n ns → ¬ (InBack r i n))
          → word y (base m r + i) ≡ word x (base m r + i)
      pub low : (j : ℕ) → j < root m → word y j ≡ word x j
      pub given : (n : ℕ) → 0 < count n ns → (g : ℕ) → g < 3 → word y (structure m d (n / 8) + (in_structure n 3 + g)) ≡ get_or back_words g 0

    pub all-given : (ns x : List ℕ) → length x ≡ length m → AsIn m q x d → ((n : ℕ) → 0 < count n ns → Has m d n)
        → Given x (over (λ w n. give_back w d n) x ns) ns
    unfolding over
    all-given [] x size own h = record { size = size; kept = λ r v i j a. refl; low = λ j i. refl; given = λ n c. absurd (omega (arith, count_nil n)) }
    all-given (n ∷ ns) x size own h =
        let first : 0 < count n (n ∷ ns) = omega (arith, count_cons n n ns, hit_eq n n refl) in
        let more : (o : ℕ) → 0 < count o ns → 0 < count o (n ∷ ns) = λ o c. omega (arith, count_cons o n ns) in
        let hn = h n first in
        let a = one-given x d n size p (structure_in m q x d (n / 8) own) hn in
        let b = all-given ns (give_back x d n) a.size (λ i j. a.other (desc d) p i j (λ (c, f, g). not_struct c) ∙ own i j) (λ o c. h o (more o c)) in
        record {
          size = b.size;
          kept = λ r v i j away. b.kept r v i j (λ o c. away o (more o c)) ∙ a.other r v i j (away n first);
          low = λ j i. b.low j i ∙ a.low j i;
          given = λ o c g i. elim (dec_lt 0 (count o ns)) [
            | yes f ↦ b.given o f g i
            | no f ↦ elim (ℕ_discrete o n) [
              | no e ↦ absurd (f (omega (arith, count_cons o n ns, hit_other o n e)))
              | yes e ↦ b.kept (struct d (o / 8)) (p, h o c) (in_structure o 3 + g) (omega arith)
                  (λ k j (u, v, w). f (subst (λ (z : ℕ). 0 < count z ns) (omega (arith, (struct_is u).1)) j))
                  ∙ subst (λ (u : ℕ). word (give_back x d n) (structure m d (u / 8) + (in_structure u 3 + g)) ≡ get_or back_words g 0) (sym e) (a.at g i)
            ]
          ];
        }
