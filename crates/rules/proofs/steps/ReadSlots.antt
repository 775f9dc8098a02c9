-- What notify, dispatch and resume read: their refusals, and the words that a resume answers, in two memories that have the same words there. Assumes
-- nothing.
use mathlib.Core.Path.{◌≡◌, refl, sym, ap, ap₂, ◌∙◌, subst}
use mathlib.Core.List.{List, [], ◌∷◌, ◌++◌}
use mathlib.Core.Bool.{Bool, true, false, not, cond, ◌&&◌}
use Prim.Native.Nat.{ℕ, zero, suc, ◌+◌, ◌*◌, ◌≤◌, ◌<◌}
use native.Mathlib.Omega.{arith}
use borrow.Author.Tests.{ltb-false, eqb-true, not-false}
use lib.Dec.{ltb, eqb}
use Rattle.memory.specs.Geometry.{width_of, edition_of, page_words}
use Rattle.memory.specs.Words.{tabulate}
use Rattle.memory.specs.Partition.{current, parent}
use Rattle.memory.specs.Contexts.{most_slot, slot_words, saved_words, to_child_slot, no_slots, slot_word, valid, saved_in}
use Rattle.rules.specs.Refusal.{DAMAGED, ADDRESS, CHILD, ROOT, EDITION, SLOT-PAGE, SLOT, EMPTY-SLOT}
use Rattle.rules.specs.Row.{Check, ◌when◌, first, pass}
use Rattle.rules.specs.Call.{Registers, notify, dispatch, resume, resumption}
use Rattle.rules.specs.Conditions.{bad_page, no_child, child, target, toward, bad_slot, no_such_child, empty_slot}
use Rattle.rules.specs.Refusals.{refusals, refusal}
use Rattle.rules.specs.Calls.{no_context, resumed, context}
use Rattle.rules.specs.Reads.{SameSlots, SameRead, SameParent}
use Rattle.rules.proofs.Rows.{Passed, passed, split, first-passed}
use Rattle.rules.proofs.steps.Checks.{false_or}
use Rattle.rules.proofs.steps.ReadRows.{row, last_row, below_end}

-- the old edition's pages have room for four slots
old-pages : (b : ℕ) → eqb (edition_of b) 0 ≡ true → page_words b ≡ 64
unfolding edition_of
old-pages b h = ap page_words (eqb-true b (width_of 0) (go (eqb b (width_of 0)) h))
  where
    go : (t : Bool) → eqb (cond t 0 1) 0 ≡ true → t ≡ true
    go true h = refl
    go false h = let z : ◌≡◌ {A = ℕ} 0 1 = cc in absurd (omega arith)

-- words that are read one by one
tabulate-same : (i k : ℕ) (f g : ℕ → ℕ) → ((j : ℕ) → j < i + k → f j ≡ g j) → tabulate i k f ≡ tabulate i k g
unfolding tabulate
tabulate-same i zero f g h = refl
tabulate-same i (suc k) f g h = ap₂ (λ (x : ℕ) (xs : List ℕ). x ∷ xs) (h i (omega arith)) (tabulate-same (suc i) k f g (λ j l. h j (omega arith)))

-- 21 is not given for the parent: the slot is 2
pub child-slot : (t s : ℕ) → bad_slot t s ≡ false → eqb t 0 ≡ true → s ≡ to_child_slot
child-slot t s h z =
    let x = (false_or (ltb most_slot s) (eqb t 0 && not (eqb s to_child_slot)) h).1 in
    let y : not (eqb s to_child_slot) ≡ false = rw z at x in
    eqb-true s to_child_slot (not-false _ y)

module _ (b : ℕ) (m n : List ℕ) (same : SameRead b m n) where
  -- ---- the target

  child-test : (t : ℕ) → not (eqb t 0) && bad_page b t ≡ false → no_such_child b m t ≡ no_such_child b n t
  child-test t = go (eqb t 0)
    where
      go : (z : Bool) → not z && bad_page b t ≡ false → not z && no_child b m t ≡ not z && no_child b n t
      go true g = refl
      go false g = rw (same.caller.lent t (below_end b _ t g)) refl

  toward-row : (t : ℕ) (cs ds : List Check) → (Passed (toward b m t) → first cs ≡ first ds) → first (toward b m t ++ cs) ≡ first (toward b n t ++ ds)
  toward-row t cs ds h =
      row DAMAGED _ _ _ _ same.damaged (λ x₁.
      row EDITION _ _ _ _ refl (λ x₂.
      row ADDRESS _ _ _ _ refl (λ x₃.
      row CHILD _ _ _ _ (child-test t x₃) (λ x₄.
      row ROOT _ _ cs ds (ap (λ (x : ℕ). eqb t 0 && eqb x 0) same.parent) (λ x₅. h (x₁, (x₂, (x₃, (x₄, (x₅, tt))))))))))

  pub dispatch-same : (t : ℕ) → refusal b m (dispatch t) ≡ refusal b n (dispatch t)
  unfolding refusals
  dispatch-same t = toward-row t [] [] (λ x. refl)

  pub notify-same : (t p q : ℕ) (r : Registers) → refusal b m (notify t p q r) ≡ refusal b n (notify t p q r)
  unfolding refusals
  notify-same t p q r = toward-row t _ _ (λ x. last_row SLOT-PAGE _ _ same.slots.no_slots)

  -- ---- resume

  module _ (t s : ℕ) (up : SameParent b m n (resume t s)) where
    target-slots : Passed (toward b m t) → bad_slot t s ≡ false → SameSlots b m n (target b m t) (target b n t)
    unfolding target resumption
    target-slots x h = go (eqb t 0) refl x.1.1.0 x.1.1.1.0
      where
        asked : eqb t 0 ≡ true → SameSlots b m n (parent b m (current b m)) (parent b n (current b n))
        asked z =
            let e : t ≡ 0 = eqb-true t 0 z in
            let f : s ≡ to_child_slot = child-slot t s h z in
            up (record { resumes = rw (e, f) refl; passes = first-passed (toward b m 0) (subst (λ (u : ℕ). Passed (toward b m u)) e x) })

        go : (z : Bool) → eqb t 0 ≡ z → not z && bad_page b t ≡ false → not z && no_child b m t ≡ false
            → SameSlots b m n (cond z (parent b m (current b m)) (child b m t)) (cond z (parent b n (current b n)) (child b n t))
        go true z g c = asked z
        go false z g c = (same.children t g (eqb-true _ _ (not-false _ c))).slots

    -- the words of a slot that is asked for
    module _ (x : Passed (toward b m t)) (h : bad_slot t s ≡ false) (p : no_slots b m (target b m t) ≡ false) where
      slot_same : (k : ℕ) → k < slot_words → slot_word b m (target b m t) s k ≡ slot_word b n (target b n t) s k
      slot_same k l =
          let few : s ≤ most_slot = ltb-false most_slot s (false_or (ltb most_slot s) _ h).0 in
          (target-slots x h).words p (slot_words * s + k) (omega (arith, old-pages b (not-false _ x.1.0)))

      valid_same : valid b m (target b m t) s ≡ valid b n (target b n t) s
      valid_same = ap (λ (w : ℕ). eqb w 1) (slot_same 11 (omega arith))

      saved-same : saved_in b m (target b m t) s ≡ saved_in b n (target b n t) s
      saved-same = tabulate-same 0 saved_words _ _ (λ k l. slot_same k (omega arith))

    pub resume-same : refusal b m (resume t s) ≡ refusal b n (resume t s)
    unfolding refusals
    resume-same =
        toward-row t _ _ (λ x.
        row SLOT _ _ _ _ refl (λ h.
        row SLOT-PAGE _ _ _ _ (target-slots x h).no_slots (λ p.
        last_row EMPTY-SLOT _ _ (ap (λ (v : Bool). not (eqb t 0) && not v) (valid_same x h p)))))

    -- the checks behind those of the target
    abbrev rest : List Check
    rest = SLOT when bad_slot t s ∷ SLOT-PAGE when no_slots b m (target b m t) ∷ EMPTY-SLOT when empty_slot b m t s ∷ []

    -- what a resume answers beside, by its refusal
    abbrev beside : List ℕ → ℕ → List ℕ
    beside w r = resumed b w r (resumption (resume t s))

    pub context-same : context b m (resume t s) ≡ context b n (resume t s)
    unfolding context resumption resumed pass refusals
    context-same = go (refusal b m (resume t s)) refl
      where
        go : (r : ℕ) → refusal b m (resume t s) ≡ r → beside m (refusal b m (resume t s)) ≡ beside n (refusal b n (resume t s))
        go zero z =
            let (x, y) = split (toward b m t) rest (passed (toward b m t ++ rest) z) in
            ap (beside m) z
            ∙ ap₂ (λ (u : Bool) (ws : List ℕ). cond u ws no_context) (valid_same x y.0 y.1.0) (saved-same x y.0 y.1.0)
            ∙ ap (beside n) (sym z ∙ resume-same)
        go (suc r) z = ap (beside m) z ∙ ap (beside n) (sym z ∙ resume-same)
