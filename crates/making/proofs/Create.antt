-- create_partition, in the terms of the functions that it calls. Assumes nothing.
use mathlib.Core.Path.{◌≡◌, refl, ap, ◌∙◌, subst}
use mathlib.Core.Bool.{true, false}
use mathlib.Core.List.{List, [], ◌∷◌, ◌++◌}
use Prim.Native.Nat.{ℕ, ◌≤◌, ◌<◌}
use native.Mathlib.Omega.{arith}
use borrow.Author.Tests.{le-leb, lt-leb}
use lib.Dec.{leb}
use lib.ListN.{length, get_or}
use Rattle.walk.specs.Finite.{any}
use Rattle.memory.specs.Geometry.{address, page_of}
use Rattle.memory.specs.Words.{word, put, fill}
use Rattle.memory.specs.Entry.{write_right}
use Rattle.memory.specs.Partition.{current, mapping, set_lent}
use Rattle.rules.specs.Refusal.{TWICE, HAND, RIGHTS, DEPTH}
use Rattle.rules.specs.Row.{Check, ◌when◌, first}
use Rattle.rules.specs.Call.{create_partition}
use Rattle.rules.specs.Moves.{take_all, depth}
use Rattle.rules.specs.Conditions.{twice, lacks, not_in_hand, too_deep}
use Rattle.rules.specs.Refusals.{refusals, refusal}
use Rattle.rules.specs.Effects.{create, effect}
use Rattle.moves.specs.Rows.{page_checks}
use Rattle.making.specs.Group.{creating, descriptor}

-- what is said of five numbers written out is said of a list of five
five_elim : (F : List ℕ → Type 0) → ((p d s t l : ℕ) → F (p ∷ d ∷ s ∷ t ∷ l ∷ [])) → (v : List ℕ) → length v ≡ 5 → F v
five_elim F f [] e = absurd (omega arith)
five_elim F f (p ∷ []) e = absurd (omega arith)
five_elim F f (p ∷ d ∷ []) e = absurd (omega arith)
five_elim F f (p ∷ d ∷ s ∷ []) e = absurd (omega arith)
five_elim F f (p ∷ d ∷ s ∷ t ∷ []) e = absurd (omega arith)
five_elim F f (p ∷ d ∷ s ∷ t ∷ l ∷ []) e = f p d s t l
five_elim F f (p ∷ d ∷ s ∷ t ∷ l ∷ x ∷ xs) e = absurd (omega arith)

-- the refusals, of the five as one group
abbrev row : ℕ → List ℕ → List ℕ → List Check
row b m five =
    page_checks b m five
    ++ (TWICE when twice five ∷ HAND when any (not_in_hand b m) five ∷ RIGHTS when any (lacks b write_right m) five ∷ DEPTH when too_deep b m ∷ [])

module _ (b : ℕ) (m : List ℕ) where
  pub refusal_is : (five : List ℕ) → length five ≡ 5 → {r : ℕ} → r ≡ first (row b m five) → r ≡ refusal b m (creating five)
  unfolding refusals
  refusal_is five e {r} = five_elim (λ v. r ≡ first (row b m v) → r ≡ refusal b m (creating v)) (λ p d s t l h. h) five e

  pub deep : (x d : ℕ) → x ≡ depth b 8 m d → d ≡ current b m → 8 ≤ x → too_deep b m ≡ true
  deep x d e f h = subst (λ (y : ℕ). leb 8 y ≡ true) (e ∙ ap (λ (z : ℕ). depth b 8 m z) f) (le-leb 8 x h)

  pub shallow : (x d : ℕ) → x ≡ depth b 8 m d → d ≡ current b m → x < 8 → too_deep b m ≡ false
  shallow x d e f h = subst (λ (y : ℕ). leb 8 y ≡ false) (e ∙ ap (λ (z : ℕ). depth b 8 m z) f) (lt-leb 8 x h)

  module _ (d own a₀ a₁ a₂ a₃ a₄ : ℕ) where
    -- the descriptor's words, of which every second is a frame
    abbrev pub frames : List ℕ → Type 0
    frames v =
        a₀ ≡ address b (page_of b (mapping b m d (get_or v 0 0))) → a₁ ≡ address b (page_of b (mapping b m d (get_or v 1 0)))
        → a₂ ≡ address b (page_of b (mapping b m d (get_or v 2 0))) → a₃ ≡ address b (page_of b (mapping b m d (get_or v 3 0)))
        → a₄ ≡ address b (page_of b (mapping b m d (get_or v 4 0)))
        → (get_or v 0 0 ∷ a₀ ∷ get_or v 1 0 ∷ a₁ ∷ get_or v 2 0 ∷ a₂ ∷ get_or v 3 0 ∷ a₃ ∷ get_or v 4 0 ∷ a₄ ∷ 0 ∷ own ∷ []) ≡ descriptor b m d own v

    frames-five : (p q s t l : ℕ) → frames (p ∷ q ∷ s ∷ t ∷ l ∷ [])
    unfolding descriptor
    frames-five p q s t l h₀ h₁ h₂ h₃ h₄ = rw (h₀, h₁, h₂, h₃, h₄)

    pub descriptor-is : (v : List ℕ) → length v ≡ 5 → frames v
    descriptor-is v e = five_elim frames frames-five v e

  -- the effect, with the five as one group
  made : List ℕ → List ℕ
  made v =
      set_lent b (put b (fill b (take_all b m (current b m) v) (page_of b (mapping b m (current b m) (get_or v 0 0)))
      (descriptor b m (current b m) (address b (current b m)) v)) (page_of b (mapping b m (current b m) (get_or v 4 0))) 0 1) (current b m) (get_or v 0 0) 1

  made-is : (p d s t l : ℕ) → made (p ∷ d ∷ s ∷ t ∷ l ∷ []) ≡ effect b m (create_partition p d s t l)
  unfolding effect create descriptor made
  made-is p d s t l = refl

  module _ {d x own w₀ w₄ p l : ℕ} {ws m₁ m₂ m₃ m₄ : List ℕ} where
    pub effect_is : (v : List ℕ) → length v ≡ 5
        → d ≡ current b m → x ≡ word b m 0 4 → own ≡ address b (page_of b x) → ws ≡ descriptor b m d own v
        → w₀ ≡ mapping b m d (get_or v 0 0) → p ≡ page_of b w₀ → w₄ ≡ mapping b m d (get_or v 4 0) → l ≡ page_of b w₄
        → m₁ ≡ take_all b m d v → m₂ ≡ fill b m₁ p ws → m₃ ≡ put b m₂ l 0 1 → m₄ ≡ set_lent b m₃ d (get_or v 0 0) 1
        → m₄ ≡ effect b m (creating v)
    unfolding made
    effect_is v e hd hx ho hws h₀ hp h₄ hl k₁ k₂ k₃ k₄ =
        rw (k₄, k₃, k₂, k₁, hws, ho, hx, hp, h₀, hl, h₄, hd) (five_elim (λ v. made v ≡ effect b m (creating v)) made-is v e)
