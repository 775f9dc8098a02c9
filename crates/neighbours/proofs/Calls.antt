-- One call in both memories, refused or not: what it leaves agrees again on what B sees. Assumes an index width of 6 or more.
use mathlib.Core.Path.{◌≡◌, refl, sym, ap, ◌∙◌, subst, subst₂}
use mathlib.Core.List.{List, [], ◌∷◌, ◌++◌}
use mathlib.Core.Logic.{◌≢◌, ◌⊎◌, inl, inr}
use mathlib.Core.Bool.{Bool, true, false, cond, not, ◌&&◌}
use mathlib.Core.Option.{none}
use Prim.Native.Nat.{ℕ, zero, suc}
use native.Mathlib.Omega.{arith}
use borrow.Author.Tests.{eqb-true, not-false}
use lib.Dec.{eqb}
use Rattle.memory.specs.Partition.{current, parent}
use Rattle.memory.specs.Contexts.{no_slots}
use Rattle.rules.specs.Refusal.{SLOT-PAGE, SLOT, EMPTY-SLOT}
use Rattle.rules.specs.Call.{Call, format_all, create_partition, delete_partition, add_vaddr, remove_vaddr, page_count, prepare, collect, mapped_in_child}
use Rattle.rules.specs.Call.{enter, leave, load, store, notify, dispatch, resume, choice, resumption}
use Rattle.rules.specs.Row.{Check, ◌when◌, pass}
use Rattle.rules.specs.Conditions.{bad_page, no_child, child, target, toward, bad_slot, empty_slot}
use Rattle.rules.specs.Refusals.{refusals, refusal}
use Rattle.rules.specs.Effects.{effect}
use Rattle.rules.specs.Calls.{after}
use Rattle.rules.specs.Reads.{SameSlots, AsksParent, SameParent}
use Rattle.rules.proofs.Rows.{Passed, passed, split, first-passed}
use Rattle.rules.proofs.steps.ReadSlots.{child-slot}
use Rattle.rules.proofs.steps.Reading.{refused-same}
use Rattle.neighbours.specs.Neighbours.{Within}
use Rattle.neighbours.proofs.Twin.{Twin, within-up}
use Rattle.neighbours.proofs.Near.{Near, near-start}
use Rattle.neighbours.proofs.Slots.{same-slots}
use Rattle.neighbours.proofs.Lookups.{good-virtual, cur-parent, child-is, child-within, same_read}
use Rattle.neighbours.proofs.StoreEnter.{near_store, near-enter, near-leave}
use Rattle.neighbours.proofs.AddRemove.{near_add, near-remove}
use Rattle.neighbours.proofs.CreateDelete.{near-create, near-delete}
use Rattle.neighbours.proofs.Prepare.{near-prepare}
use Rattle.neighbours.proofs.Collect.{near-collect}
use Rattle.neighbours.proofs.Switch.{near-dispatch, near-notify, near-resume}

module _ {b B : ℕ} {m n : List ℕ} (t : Twin b B m n) where
  open t use {wide, sound₁, same, inside, depth₁}

  -- the caller
  abbrev c : ℕ
  c = current b m

  -- ---- the parent's slots

  -- a call that asks for them is not B's, or is refused in both since the slot page is not in the parent's hand
  abbrev pub Reaches : Call → Type 0
  Reaches x = AsksParent b m n x → (c ≢ B) ⊎ ((no_slots b m (parent b m c) ≡ true) × (no_slots b n (parent b n (current b n)) ≡ true))

  parent-within : c ≢ B → Within b m B (parent b m c)
  parent-within n = within-up wide B m sound₁ depth₁ inside n

  pub same-parent : (x : Call) → Reaches x → SameParent b m n x
  same-parent x r a = go (r a)
    where
      go : (c ≢ B) ⊎ ((no_slots b m (parent b m c) ≡ true) × (no_slots b n (parent b n (current b n)) ≡ true))
          → SameSlots b m n (parent b m c) (parent b n (current b n))
      go (inl o) = same-slots t (parent-within o) (cur-parent t)
      go (inr (y, z)) = record { no_slots = y ∙ sym z; words = λ h. let w : ◌≡◌ {A = ℕ} 0 1 = cc in absurd (omega arith) }

  refused : (x : Call) → choice x ≡ none → Reaches x → refusal b m x ≡ refusal b n x
  refused x f r = refused-same b m n (same_read t) x f (same-parent x r)

  -- the target of a resume that passes is within B
  target-within : (u s : ℕ) → Reaches (resume u s) → refusal b m (resume u s) ≡ 0 → Within b m B (target b m u)
  unfolding refusals target resumption
  target-within u s r e =
      let rest : List Check = SLOT when bad_slot u s ∷ SLOT-PAGE when no_slots b m (target b m u) ∷ EMPTY-SLOT when empty_slot b m u s ∷ [] in
      let (x, y) = split (toward b m u) rest (passed (toward b m u ++ rest) e) in
      go (eqb u 0) refl x.1.1.0 x.1.1.1.0 x y.0 y.1.0
    where
      go : (z : Bool) → eqb u 0 ≡ z → not z && bad_page b u ≡ false → not z && no_child b m u ≡ false → Passed (toward b m u) → bad_slot u s ≡ false
          → no_slots b m (cond z (parent b m c) (child b m u)) ≡ false → Within b m B (cond z (parent b m c) (child b m u))
      go true z g k x y p = up (r (record {
        resumes = rw (eqb-true u 0 z, child-slot u s y z) refl;
        passes = first-passed (toward b m 0) (subst (λ (v : ℕ). Passed (toward b m v)) (eqb-true u 0 z) x);
      }))
        where
          up : (c ≢ B) ⊎ ((no_slots b m (parent b m c) ≡ true) × (no_slots b n (parent b n (current b n)) ≡ true)) → Within b m B (parent b m c)
          up (inl o) = parent-within o
          up (inr (v, w)) = let q : ◌≡◌ {A = ℕ} 0 1 = cc in absurd (omega arith)
      go false z g k x y p = child-within t (child-is t u (good-virtual wide u g) (eqb-true _ _ (not-false _ k)))

  -- ---- a call that passes

  near-effect : (x : Call) → choice x ≡ none → Reaches x → refusal b m x ≡ 0 → refusal b n x ≡ 0 → Near t (effect b m x) (effect b n x)
  unfolding effect choice
  near-effect (format_all g) f r e e' = let z : ◌≡◌ {A = ℕ} 0 1 = cc in absurd (omega arith)
  near-effect (create_partition p d s v l) f r e e' = near-create t p d s v l e
  near-effect (delete_partition u) f r e e' = near-delete t u e
  near-effect (add_vaddr p u v w) f r e e' = near_add t p u v w e
  near-effect (remove_vaddr u v) f r e e' = near-remove t u v e
  near-effect (page_count u v) f r e e' = near-start t
  near-effect (prepare u v p) f r e e' = near-prepare t u v p e
  near-effect (collect u v) f r e e' = near-collect t u v e
  near-effect (mapped_in_child p) f r e e' = near-start t
  near-effect (enter u) f r e e' = near-enter t u e
  near-effect leave f r e e' = near-leave t
  near-effect (load a) f r e e' = near-start t
  near-effect (store a x) f r e e' = near_store t a x e
  near-effect (notify u p q w) f r e e' = near-notify t u p q w e e'
  near-effect (dispatch u) f r e e' = near-dispatch t u e e'
  near-effect (resume u s) f r e e' = near-resume t u s (target-within u s r e) e e'

  -- ---- refused or not

  pub near-after : (x : Call) → choice x ≡ none → Reaches x → Near t (after b m x) (after b n x)
  unfolding after pass
  near-after x f r = go (refusal b m x) refl
    where
      both : (k : ℕ) → refusal b m x ≡ k → Near t (pass k (effect b m x) m) (pass k (effect b n x) n)
          → Near t (pass (refusal b m x) (effect b m x) m) (pass (refusal b n x) (effect b n x) n)
      both k e = subst₂ (Near t) (ap (λ (y : ℕ). pass y (effect b m x) m) (sym e)) (ap (λ (y : ℕ). pass y (effect b n x) n) (sym e ∙ refused x f r))

      go : (k : ℕ) → refusal b m x ≡ k → Near t (pass (refusal b m x) (effect b m x) m) (pass (refusal b n x) (effect b n x) n)
      go zero e = both zero e (near-effect x f r e (sym (refused x f r) ∙ e))
      go (suc k) e = both (suc k) e (near-start t)
