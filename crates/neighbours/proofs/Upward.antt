-- One memory: B resumes its parent's slot. Where nothing refuses it the parent or the root becomes current, so B is left; where B stays current, and nothing
-- before the slot page refuses it, the parent's slot page does. Assumes an index width of 6 or more.
use mathlib.Core.Path.{◌≡◌, refl, sym, ap, ◌∙◌, subst}
use mathlib.Core.List.{List, [], ◌∷◌}
use mathlib.Core.Logic.{◌⊎◌, inl, inr}
use mathlib.Core.Bool.{Bool, true, false, cond}
use Prim.Native.Nat.{ℕ, ◌%◌, ◌≤◌, ◌<◌}
use native.Mathlib.Omega.{arith}
use borrow.Author.Tests.{eqb-false}
use Rattle.common.specs.Row
use Rattle.memory.specs.Partition.{current, parent}
use Rattle.memory.specs.Tree.{InTree, root, child}
use Rattle.memory.specs.Sound.{Sound}
use Rattle.memory.specs.Contexts.{to_child_slot, pipflags_place, no_slots, slot_word, valid, clear_valid}
use Rattle.soundness.proofs.Root.{root-parent}
use Rattle.rules.specs.Refusal.{SLOT-PAGE, SLOT, EMPTY-SLOT}
use Rattle.rules.specs.Row.{Check, ◌when◌, first}
use Rattle.rules.specs.Call.{resume}
use Rattle.rules.specs.Conditions.{target, toward, bad_slot, empty_slot}
use Rattle.rules.specs.Refusals.{refusals, refusal}
use Rattle.rules.specs.Effects.{switch, restore, effect}
use Rattle.rules.specs.Calls.{after}
use Rattle.rules.proofs.Rows.{First, passed, goes_on, after-ok, first-self}
use Rattle.rules.proofs.model.Words.{put, Sized, put-sized}
use Rattle.rules.proofs.model.Inv.{Inv, cur-is}
use Rattle.rules.proofs.sound.Tree.{in_tree-is}
use Rattle.rules.proofs.steps.KeepContexts.{resumed}
use Rattle.rules.proofs.steps.Switch.{switch-current}
use Rattle.rules.proofs.state.Tree.{room}
use Rattle.rules.proofs.state.Tree as Tree
use Rattle.rules.proofs.state.Represented.{sound-inv}
use Rattle.neighbours.specs.Neighbours.{Within}
use Rattle.neighbours.proofs.Levels.{deep, here, Kept}
use Rattle.neighbours.proofs.Twin.{within-deep}
use Rattle.neighbours.proofs.After.{tree-kept}
use Rattle.neighbours.proofs.Lives.{live-kept}

module _ {b : ℕ} (wide : 6 ≤ b) {m : List ℕ} (s : Sound b m) where
  abbrev i : Inv b m
  i = sound-inv wide m s

  abbrev o : ℕ
  o = current b m

  -- ---- who is current afterwards

  switched-to : (m' : List ℕ) → Sized b i.N m' → (d k x y : ℕ) → current b (switch b m' d k x y) ≡ k
  switched-to m' z d k x y = switch-current wide m' d k x y i.N z (omega (arith, i.least))

  resumed-to : (d k e : ℕ) → (current b (restore b m d k e) ≡ k) ⊎ (current b (restore b m d k e) ≡ 1)
  unfolding restore put
  resumed-to d k e = go (valid b m k e) (slot_word b m k e pipflags_place % 2)
    where
      go : (z : Bool) (f : ℕ) → let m₁ = cond z (switch b (clear_valid b m k e) d k 0 f) (switch b m d 1 0 1) in (current b m₁ ≡ k) ⊎ (current b m₁ ≡ 1)
      go true f = inl (switched-to _ (put-sized wide i.N m _ _ 0 i.words.sized) d k 0 f)
      go false f = inr (switched-to m i.words.sized d 1 0 1)

  -- ---- it passes

  abbrev m₁ : List ℕ
  m₁ = effect b m (resume 0 to_child_slot)

  module _ (e : refusal b m (resume 0 to_child_slot) ≡ 0) (s₁ : Sound b m₁) where
    kept : Kept i m₁
    kept = live-kept wide m i (resumed wide m i 0 to_child_slot e)

    -- a partition that is less deep than B is not within B
    apart : {B j k d : ℕ} → o ≡ B → InTree b m j d → InTree b m k B → j < k → Within b m₁ B d → ⊥
    apart {B} {j} {k} {d} q u t l w =
        let h : k ≤ here i = omega (arith, (in_tree-is wide m i k B t).1, ap (deep i) (sym (cur-is wide m i) ∙ q)) in
        let t₁ : InTree b m₁ k B = tree-kept wide s kept t h in
        let u₁ : InTree b m₁ j d = tree-kept wide s kept u (omega arith) in
        omega (arith, within-deep wide B m₁ s₁ t₁ w, (in_tree-is wide m₁ (sound-inv wide m₁ s₁) j d u₁).1)

    leaves : {B k : ℕ} → o ≡ B → InTree b m k B → Within b m₁ B (current b m₁) → ⊥
    unfolding refusals effect target
    leaves q root w =
        let n = (passed (refusals b m (resume 0 to_child_slot)) e).1.1.1.1.0 in
        eqb-false _ _ n (ap (parent b m) q ∙ root-parent b m s.root_as_formatted (room wide))
    leaves {B} q (child u a) w = go (resumed-to o (parent b m o) to_child_slot)
      where
        go : (current b m₁ ≡ parent b m o) ⊎ (current b m₁ ≡ 1) → ⊥
        go (inl x) = apart q u (child u a) (omega arith) (subst (Within b m₁ B) (x ∙ ap (parent b m) q ∙ Tree.parent_is wide m s u a) w)
        go (inr x) = apart q root (child u a) (omega arith) (subst (Within b m₁ B) x w)

  -- ---- it does not

  -- the checks behind those of the target
  abbrev rest : List Check
  rest = SLOT when bad_slot 0 to_child_slot ∷ SLOT-PAGE when no_slots b m (target b m 0) ∷ EMPTY-SLOT when empty_slot b m 0 to_child_slot ∷ []

  passes : first (toward b m 0) ≡ 0 → no_slots b m (parent b m o) ≡ false → refusal b m (resume 0 to_child_slot) ≡ 0
  unfolding refusals target Row.first
  passes h n = sym (goes_on (toward b m 0) rest (first (toward b m 0)) refl h) ∙ ap (λ (z : Bool). cond z 20 0) n

  pub refused-above : {B k : ℕ} → o ≡ B → InTree b m k B → first (toward b m 0) ≡ 0 → Sound b (after b m (resume 0 to_child_slot))
      → Within b (after b m (resume 0 to_child_slot)) B (current b (after b m (resume 0 to_child_slot))) → no_slots b m (parent b m o) ≡ true
  refused-above {B} q t h s₁ w = go (no_slots b m (parent b m o)) refl
    where
      go : (z : Bool) → no_slots b m (parent b m o) ≡ z → no_slots b m (parent b m o) ≡ true
      go true n = n
      go false n =
          let e = passes h n in
          let g = subst (First (refusals b m (resume 0 to_child_slot))) e (first-self (refusals b m (resume 0 to_child_slot))) in
          let f = after-ok b m (resume 0 to_child_slot) g in
          absurd (leaves e (subst (Sound b) f s₁) q t (subst (λ (y : List ℕ). Within b y B (current b y)) f w))
