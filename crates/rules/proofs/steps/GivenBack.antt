-- Resume of the parent's slot 2, where the parent's slot page is in its hand and the slot has saved words: it gives them back. Assumes an index width of
-- 6 or more.
use mathlib.Core.Path.{◌≡◌, refl, sym, ap, ◌∙◌, subst}
use mathlib.Core.Logic.{◌≢◌}
use mathlib.Core.Bool.{Bool, true, false, cond}
use mathlib.Core.List.{List, ◌∷◌}
use Prim.Native.Nat.{ℕ, ◌+◌, ◌*◌, ◌≤◌, ◌<◌}
use native.Mathlib.Omega.{arith}
use borrow.Author.Tests.{eq-eqb, ne_eqb}
use lib.ListN.{get_or}
use Rattle.memory.specs.Words.{tabulate}
use Rattle.memory.specs.Partition
use Rattle.memory.specs.Contexts.{slot_words, to_child_slot, valid_place, pipflags_place, valid, slot_page, no_slots, slot_word, saved_in, clear_valid}
use Rattle.rules.specs.Row.{ok, pass}
use Rattle.rules.specs.Call.{Call, Registers, register_words, resume, resumption}
use Rattle.rules.specs.Conditions.{other_edition, target}
use Rattle.rules.specs.Refusals.{refusals}
use Rattle.rules.specs.Effects.{switch, restore, effect}
use Rattle.rules.specs.Calls.{result, answer, resumed, context, after, no_context}
use Rattle.rules.proofs.Rows.{First, none, on, first-is, answer_ok, after-ok}
use Rattle.rules.proofs.model.Words.{Sized, page_of, word, put, put-sized}
use Rattle.rules.proofs.model.Abs.{is_hand}
use Rattle.rules.proofs.model.Inv.{Inv, live}
use Rattle.rules.proofs.sound.Words.{kernel-fits}
use Rattle.rules.proofs.sound.All.{inv-whole}
use Rattle.rules.proofs.steps.KeepMove.{parent_live}
use Rattle.rules.proofs.steps.Switch.{switch-current, switch-flag}
use Rattle.rules.proofs.steps.Saved.{saved}

-- d is the parent's descriptor page, x the saved flag; behind tells the slot's words behind valid
module _ {b : ℕ} (wide : 6 ≤ b) (m : List ℕ) (i : Inv b m) (d eip x eflags : ℕ) (r : Registers) (behind : ℕ → ℕ)
    (edition : other_edition b ≡ false) (some : d ≢ 0) (small : x < 2) (parent : Partition.parent b m (Partition.current b m) ≡ d)
    (hands : no_slots b m d ≡ false) (words : (j : ℕ) → j < slot_words → slot_word b m d to_child_slot j ≡ get_or (saved eip x eflags r) j (behind j)) where
  abbrev back : Call
  back = resume 0 to_child_slot

  target_is : target b m 0 ≡ d
  unfolding target
  target_is = parent

  some-parent : Partition.parent b m (Partition.current b m) ≢ 0
  some-parent z = some (sym parent ∙ z)

  is-valid : valid b m (target b m 0) to_child_slot ≡ true
  is-valid = eq-eqb _ _ (ap (λ (z : ℕ). slot_word b m z to_child_slot valid_place) target_is ∙ words valid_place (omega arith))

  passes : First (refusals b m back) 0
  unfolding refusals
  passes =
      on (inv-whole wide m i)
      (on edition (on refl (on refl (on (ne_eqb _ _ some-parent) (on refl (on (ap (no_slots b m) target_is ∙ hands) (on refl none)))))))

  -- ---- the words that it answers

  listed : saved_in b m d to_child_slot ≡ eip ∷ x ∷ eflags ∷ register_words r
  unfolding tabulate
  listed =
      rw (
        words 0 (omega arith),
        words 1 (omega arith),
        words 2 (omega arith),
        words 3 (omega arith),
        words 4 (omega arith),
        words 5 (omega arith),
        words 6 (omega arith),
        words 7 (omega arith),
        words 8 (omega arith),
        words 9 (omega arith),
        words 10 (omega arith),
      ) refl

  back-words : context b m back ≡ eip ∷ x ∷ eflags ∷ register_words r
  unfolding context resumption resumed pass
  back-words =
      ap (λ (n : ℕ). resumed b m n (resumption back)) (first-is passes)
      ∙ ap (λ (u : Bool). cond u (saved_in b m (target b m 0) to_child_slot) no_context) is-valid
      ∙ ap (λ (z : ℕ). saved_in b m z to_child_slot) target_is ∙ listed

  -- ---- the memory after it

  abbrev m₁ : List ℕ
  m₁ = clear_valid b m d to_child_slot

  after_is : after b m back ≡ switch b m₁ (Partition.current b m) d 0 x
  unfolding effect restore
  after_is =
      after-ok b m back passes
      ∙ rw (is-valid, target_is, words pipflags_place (omega arith)) (ap (switch b m₁ (Partition.current b m) d 0) (omega arith))

  sized : Sized b i.N m₁
  unfolding put
  sized = put-sized wide i.N m (slot_page b m d) (slot_words * to_child_slot + valid_place) 0 i.words.sized

  fits : (q : ℕ) → is_hand (i.state.role q) ≡ false → q < i.N
  fits = kernel-fits wide m i

  parent-fits : d < i.N
  unfolding word page_of
  parent-fits = subst (λ (z : ℕ). z < i.N) parent (fits _ (ap is_hand (parent_live wide m i (Partition.current b m) (live wide m i) some-parent)))

  -- the answer, the words beside it, and in the memory after it d's flag and the current partition
  pub gives_back :
      (answer b m back ≡ ok 0) × (context b m back ≡ eip ∷ x ∷ eflags ∷ register_words r) × (Partition.flag b (after b m back) d ≡ x)
      × (Partition.current b (after b m back) ≡ d)
  unfolding result
  gives_back = (
    answer_ok b m back passes,
    back-words,
    ap (λ (z : List ℕ). Partition.flag b z d) after_is ∙ switch-flag wide m₁ (Partition.current b m) d 0 x i.N sized parent-fits,
    ap (Partition.current b) after_is ∙ switch-current wide m₁ (Partition.current b m) d 0 x i.N sized (fits 0 (ap is_hand i.wf.head_role)),
  )
