-- Collect keeps memory sound: one structure goes, and its block is given back. Assumes nothing.
use mathlib.Core.Path.{◌≡◌, refl, sym, ap, ap₂, ◌∙◌, subst}
use mathlib.Core.List.{List, [], ◌∷◌}
use mathlib.Core.Logic.{◌≢◌}
use Prim.Native.Nat.{ℕ, ◌+◌, ◌/◌, ◌≤◌, ◌<◌}
use native.Mathlib.Omega.{arith}
use native.Mathlib.Nat.{add-zero}
use native.Mathlib.Decide.{ℕ_discrete}
use lib.ListN.{get_or, replicate}
use Rattle.block_memory.specs.Words.{word, put, wipe}
use Rattle.block_memory.specs.Partition.{root, Partition, structure, Has, used, holder, empty_structure}
use Rattle.block_memory.specs.Bytes.{Live}
use Rattle.block_memory.specs.Sound.{Sound}
use Rattle.block_memory.proofs.Lookups.{in_structure, structure-at, structure-same}
use Rattle.block_memory.proofs.Lowest.{empty-structure}
use Rattle.block_soundness.proofs.Ranges.{structure-range}
use Rattle.block_soundness.proofs.Blocks.{used_as, field-has, first_in_root}
use Rattle.block_soundness.proofs.Once.{once}
use Rattle.block_soundness.proofs.Records.{Record, desc, struct, desc-is, struct_is, not-desc, not_struct, words, owner, base, Valid, InBlock}
use Rattle.block_soundness.proofs.Records.{standing-struct, in_bytes, struct_in, struct-held}
use Rattle.block_rules.specs.Effects.{give_back, collect_from}
use Rattle.block_rules.proofs.Writes.{Write, write, write-one}
use Rattle.block_rules.proofs.Frame.{Placed}
use Rattle.block_rules.proofs.Framed.{placed}
use Rattle.block_rules.proofs.Leaving.{back_words, Back, lent, holds_descriptor, holds_structure, Leaving}
use Rattle.block_rules.proofs.Shrunk.{Shrunk, shrunk-sound}
use Rattle.block_rules.proofs.Given.{one-given}

module _ (m : List ℕ) (s : Sound m) (t : ℕ) (pt : Partition m t) (some : empty_structure m t ≢ 0) where
  abbrev k : ℕ
  k = empty_structure m t

  -- structure k is at i₀ and stands in block n of h
  abbrev i₀ : ℕ
  i₀ = structure m t k

  abbrev n : ℕ
  n = word m i₀

  abbrev h : ℕ
  h = holder m t i₀

  q : Placed m
  q = placed m s

  there : i₀ ≢ 0
  there = (empty-structure m t some).0

  k-range : (1 ≤ k) × (k < 1 + 16)
  k-range = structure-range m t k there

  -- no block has a slot in it
  not_in : {u o : ℕ} → Live m u o → ¬ ((u ≡ t) × (o / 8 ≡ k))
  not_in {u} {o} l (x, y) = l.block (ap (λ (z : ℕ). used m z o) x ∙ (empty-structure m t some).1 o y)

  not_first : ¬ ((t ≡ root m) × (k ≡ 1))
  not_first (x, y) = not_in (first_in_root m s) (sym x, sym y)

  use_h : used m h n ≡ 4
  use_h = (struct-held m s t k pt there not_first).0

  in_h : InBlock m h n (struct t k)
  in_h = (struct-held m s t k pt there not_first).1

  ph : Partition m h
  ph = in_h.alive.partition

  has_h : Has m h n
  has_h = field-has m h n 3 in_h.alive.block

  -- ---- the three writes

  abbrev m₁ : List ℕ
  m₁ = wipe m i₀ 74

  w₁ : Write m m m₁ (struct t k) 0 (replicate 74 0)
  w₁ = write m q.lay (struct t k) (pt, there) m refl 0 (replicate 74 0) (omega arith) i₀ (sym (add-zero i₀))

  abbrev m₂ : List ℕ
  m₂ = put m₁ (t + 15 + k) 0

  w₂ : Write m m₁ m₂ (desc t) (15 + k) (0 ∷ [])
  w₂ = write-one m q.lay (desc t) pt m₁ w₁.size (15 + k) 0 (omega (arith, k-range.1)) (t + 15 + k) (omega arith)

  stay₂ : (r : Record) → Valid m r → (i : ℕ) → i < words r → r ≢ struct t k → ¬ ((r ≡ desc t) × (i ≡ 15 + k)) → word m₂ (base m r + i) ≡ word m (base m r + i)
  stay₂ r v i j a b = w₂.other r v i j (λ (x, y, z). b (x, omega arith)) ∙ w₁.other r v i j (λ (x, y, z). a x)

  -- the block's own structure is another one
  own₂ : structure m₂ h (n / 8) ≡ structure m h (n / 8)
  own₂ = structure-same m m₂ h (n / 8) (λ x y.
      stay₂ (desc h) ph (15 + n / 8) (omega arith) not_struct (λ (a, b). not_in in_h.alive (desc-is a, omega arith)))

  abbrev m₃ : List ℕ
  m₃ = give_back m₂ h n

  w₃ : Write m m₂ m₃ (struct h (n / 8)) (in_structure n 3) back_words
  w₃ = one-given m q m₂ h n w₂.size ph own₂ has_h

  structure-gone : structure m₃ t k ≡ 0
  structure-gone =
      structure-at m₃ t k k-range.0 (omega (arith, k-range.1))
      ∙ ap (word m₃) (omega arith)
      ∙ w₃.other (desc t) pt (15 + k) (omega (arith, k-range.1)) (λ (x, y, z). not_struct x)
      ∙ ap (λ (j : ℕ). word m₂ (t + j)) (omega arith)
      ∙ w₂.at 0 (omega arith)

  -- ---- what goes, and what is given back

  abbrev Gone : Record → Type 0
  Gone r = r ≡ struct t k

  gone? : (r : Record) → Partition m (owner r) → Dec (Gone r)
  gone? (desc u) v = no not_struct
  gone? (struct u j) v = elim (ℕ_discrete u t) [
    | yes x ↦ elim (ℕ_discrete j k) [ yes y ↦ yes (ap₂ (λ (a b : ℕ). struct a b) x y) | no y ↦ no (λ e. y (struct_is e).1) ]
    | no x ↦ no (λ e. x (struct_is e).0)
  ]

  leaving : Leaving m Gone
  leaving = record {
    decide = gone?;
    whole = λ u j g. absurd (not_struct g);
    below = λ u v r g. absurd (not_struct g);
    root_stays = not_struct;
    caller_stays = not_struct;
    empty = λ u o l a g. not_in l (struct_is g);
  }

  h-back : Back m Gone h n
  h-back = holds_structure use_h (sym (standing-struct m s h n use_h) ∙ in_h.is)

  -- no other block is: two don't have the same byte
  only-h : (u o : ℕ) → Partition m u → Back m Gone u o → (u ≡ h) × (o ≡ n)
  only-h u o v (lent e g) = absurd (not_struct g)
  only-h u o v (holds_descriptor e g) = absurd (not_struct g)
  only-h u o v (holds_structure e g) =
      let l = used_as v e in
      let (x, y) = struct_is g in
      once m s u h o n _ (in_bytes m s (struct_in m s t k u o l e y x) 0 (omega arith)) (in_bytes m s in_h 0 (omega arith))

  shrunk : Shrunk m Gone m₃
  shrunk = record {
    size = w₃.size;
    low = λ j i a. w₃.low j i ∙ w₂.low j i ∙ w₁.low j i;
    unlisted = λ u v g. absurd (not_struct g);
    in_descriptor = λ u i v a j b.
        w₃.other (desc u) v i j (λ (x, y, z). not_struct x)
        ∙ stay₂ (desc u) v i j not_struct (λ (x, y). b k k-range.0 y (ap (λ (z : ℕ). struct z k) (desc-is x)));
    unnamed = λ u j v a g. let (x, y) = struct_is g in ap₂ (λ (b c : ℕ). structure m₃ b c) x y ∙ structure-gone;
    in_struct = λ u j i v z a b c.
        w₃.other (struct u j) (v, z) i b (λ (x, y, e). let (d, f) = struct_is x in c n (sym f) y e (subst (λ (w : ℕ). Back m Gone w n) (sym d) h-back))
        ∙ stay₂ (struct u j) (v, z) i b a (λ (x, y). not-desc x);
    given = λ u o v a b g i.
        let (x, y) = only-h u o v b in
        let at : ℕ → ℕ → Type 0 = λ c e. word m₃ (structure m c (e / 8) + (in_structure e 3 + g)) ≡ get_or back_words g 0 in
        subst (λ (c : ℕ). at c o) (sym x) (subst (at h) (sym y) (w₃.at g i));
  }

  pub collect-sound : Sound (collect_from m t)
  unfolding collect_from
  collect-sound = shrunk-sound m m₃ s Gone leaving shrunk
