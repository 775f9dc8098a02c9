-- notify, dispatch and resume in both memories: what they leave agrees again on what B sees. Assumes an index width of 6 or more.
use mathlib.Core.Path.{◌≡◌, ap, ◌∙◌, subst}
use mathlib.Core.List.{List, [], ◌∷◌, ◌++◌}
use mathlib.Core.Bool.{Bool, true, false, cond, not, ◌&&◌}
use Prim.Native.Nat.{ℕ, ◌+◌, ◌*◌, ◌%◌, ◌≤◌, ◌<◌}
use native.Mathlib.Omega.{arith}
use borrow.Author.Tests.{ltb-false}
use lib.Dec.{ltb, eqb}
use Rattle.memory.specs.Geometry.{address}
use Rattle.memory.specs.Partition.{current, parent, flag}
use Rattle.memory.specs.Contexts.{most_slot, slot_words, pipflags_place, valid_place, to_child_slot, to_parent_slot, slot_page, no_slots, slot_word, valid, clear_valid}
use Rattle.rules.specs.Refusal.{SLOT-PAGE, SLOT, EMPTY-SLOT}
use Rattle.rules.specs.Row.{Check, ◌when◌}
use Rattle.rules.specs.Call.{Registers, register_words, notify, dispatch, resume}
use Rattle.rules.specs.Conditions.{bad_target, bad_page, child, target, toward, bad_slot, empty_slot}
use Rattle.rules.specs.Refusals.{refusals, refusal}
use Rattle.rules.specs.Effects.{switch, caller_flag, save, restore, effect}
use Rattle.rules.proofs.Rows.{Passed, passed, split}
use Rattle.rules.proofs.model.Words.{W, put, put_l, twelve-lt, sixty_one}
use Rattle.rules.proofs.sound.Words.{virtual-fits}
use Rattle.rules.proofs.steps.Checks.{false_or}
use Rattle.rules.proofs.steps.Live.{Live}
use Rattle.rules.proofs.steps.KeepContexts.{dispatched, notified, resumed}
use Rattle.neighbours.specs.Neighbours.{Within}
use Rattle.neighbours.proofs.Twin.{Twin, inv₁, inv₂}
use Rattle.neighbours.proofs.Agree.{Agree, agree-start, agree-put, agree-put_l}
use Rattle.neighbours.proofs.Near.{Near}
use Rattle.neighbours.proofs.Slots.{flag_same, slot_page-same, same-slots}
use Rattle.neighbours.proofs.Lookups.{good-virtual, child-same, cur-parent}
use Rattle.neighbours.proofs.Lives.{live-kept}

module _ {b B : ℕ} {m n : List ℕ} (t : Twin b B m n) where
  open t use {wide, same, inside}

  -- the caller
  abbrev c : ℕ
  c = current b m

  near-live : {m₁ n₁ : List ℕ} → Live wide m (inv₁ t) m₁ → Live wide n (inv₂ t) n₁ → Agree t m₁ n₁ → Near t m₁ n₁
  near-live x y a = record { kept₁ = live-kept wide m (inv₁ t) x; kept₂ = live-kept wide n (inv₂ t) y; same = a.same }

  pub target-same : (u : ℕ) → bad_target b u ≡ false → target b m u ≡ target b n u
  unfolding target
  target-same u g = go (eqb u 0) g
    where
      go : (z : Bool) → not z && bad_page b u ≡ false → cond z (parent b m c) (child b m u) ≡ cond z (parent b n (current b n)) (child b n u)
      go true g = cur-parent t
      go false g = child-same t u (virtual-fits wide u (good-virtual wide u g))

  cur-flag : flag b m c ≡ flag b n (current b n)
  cur-flag = flag_same t inside ∙ ap (flag b n) same

  caller-same : (u : ℕ) → caller_flag b m u ≡ caller_flag b n u
  caller-same u = ap (λ (x : ℕ). cond (eqb u 0) x 0) cur-flag

  -- the flags of d and k become x and y, and k is current
  agree-switch : {m₁ n₁ : List ℕ} → Agree t m₁ n₁ → (d k x y : ℕ) → Agree t (switch b m₁ d k x y) (switch b n₁ d k x y)
  unfolding switch put
  agree-switch a d k x y =
      let l : 12 < W b = omega (arith, sixty_one wide) in
      agree-put t (agree-put t (agree-put t a d 12 x l) k 12 y l) 0 4 (address b k) (twelve-lt wide 4 (omega arith))

  pub near-dispatch : (u : ℕ) → refusal b m (dispatch u) ≡ 0 → refusal b n (dispatch u) ≡ 0 → Near t (effect b m (dispatch u)) (effect b n (dispatch u))
  unfolding refusals effect
  near-dispatch u e e' =
      let k = target-same u (passed (refusals b m (dispatch u)) e).1.1.0 in
      near-live (dispatched wide m (inv₁ t) u e) (dispatched wide n (inv₂ t) u e')
      (subst (Agree t (effect b m (dispatch u))) (λ s. switch b n (same s) (k s) (caller-same u s) 1)
      (agree-switch (agree-start t) c (target b m u) (caller_flag b m u) 1))

  -- ---- notify: the caller's slot

  module _ (u p q : ℕ) (r : Registers) where
    -- where the slot begins, and the words that are saved, x being the caller's flag
    abbrev at : ℕ
    at = slot_words * cond (eqb u 0) to_parent_slot to_child_slot

    abbrev saved : ℕ → List ℕ
    saved x = p ∷ x ∷ q ∷ (register_words r ++ (1 ∷ []))

    fits : at + 12 ≤ W b
    fits = go (eqb u 0)
      where
        go : (z : Bool) → slot_words * cond z to_parent_slot to_child_slot + 12 ≤ W b
        go true = omega (arith, sixty_one wide)
        go false = omega (arith, sixty_one wide)

    pub near-notify : refusal b m (notify u p q r) ≡ 0 → refusal b n (notify u p q r) ≡ 0 → Near t (effect b m (notify u p q r)) (effect b n (notify u p q r))
    unfolding refusals effect save put_l
    near-notify e e' =
        let k = target-same u (passed (refusals b m (notify u p q r)) e).1.1.0 in
        let v : slot_page b m c ≡ slot_page b n (current b n) = slot_page-same t inside ∙ ap (slot_page b n) same in
        near-live (notified wide m (inv₁ t) u p q r e) (notified wide n (inv₂ t) u p q r e')
        (subst (Agree t (effect b m (notify u p q r))) (λ s. switch b (put_l b n (v s) at (saved (cur-flag s))) (same s) (k s) (caller-same u s) 1)
        (agree-switch (agree-put_l t (agree-start t) (slot_page b m c) at (saved (flag b m c)) fits) c (target b m u) (caller_flag b m u) 1))

  -- ---- resume: a slot of the target, which is within B

  module _ (u s : ℕ) (w : Within b m B (target b m u)) where
    abbrev k : ℕ
    k = target b m u

    -- the checks behind those of the target
    abbrev rest : List Check
    rest = SLOT when bad_slot u s ∷ SLOT-PAGE when no_slots b m k ∷ EMPTY-SLOT when empty_slot b m u s ∷ []

    module _ (x : Passed (toward b m u)) (y : Passed rest) where
      there : k ≡ target b n u
      there = target-same u x.1.1.0

      few : s ≤ most_slot
      few = ltb-false most_slot s (false_or (ltb most_slot s) _ y.0).0

      word_same : (i : ℕ) → i ≤ valid_place → slot_word b m k s i ≡ slot_word b n (target b n u) s i
      unfolding W
      word_same i l = (same-slots t w there).words y.1.0 (slot_words * s + i) (omega (arith, sixty_one wide, few))

      page-same : slot_page b m k ≡ slot_page b n (target b n u)
      page-same = slot_page-same t w ∙ ap (slot_page b n) there

      cleared : Agree t (clear_valid b m k s) (clear_valid b n (target b n u) s)
      unfolding put
      cleared =
          subst (λ (q : ℕ). Agree t (clear_valid b m k s) (put b n q (slot_words * s + valid_place) 0)) page-same
          (agree-put t (agree-start t) (slot_page b m k) (slot_words * s + valid_place) 0 (omega (arith, sixty_one wide, few)))

      agree-restore : Agree t (restore b m c k s) (restore b n (current b n) (target b n u) s)
      unfolding restore
      agree-restore =
          subst (Agree t (restore b m c k s))
          (λ z. cond (valid_same z) (switch b (clear_valid b n (target b n u) s) (same z) (there z) 0 (flags-same z)) (switch b n (same z) 1 0 1))
          (go (valid b m k s))
        where
          valid_same : valid b m k s ≡ valid b n (target b n u) s
          valid_same = ap (λ (z : ℕ). eqb z 1) (word_same valid_place (omega arith))

          flags-same : slot_word b m k s pipflags_place % 2 ≡ slot_word b n (target b n u) s pipflags_place % 2
          flags-same = ap (λ (z : ℕ). z % 2) (word_same pipflags_place (omega arith))

          go : (z : Bool) → let f = slot_word b m k s pipflags_place % 2 in
              Agree t (cond z (switch b (clear_valid b m k s) c k 0 f) (switch b m c 1 0 1))
              (cond z (switch b (clear_valid b n (target b n u) s) c k 0 f) (switch b n c 1 0 1))
          go true = agree-switch cleared c k 0 _
          go false = agree-switch (agree-start t) c 1 0 1

    pub near-resume : refusal b m (resume u s) ≡ 0 → refusal b n (resume u s) ≡ 0 → Near t (effect b m (resume u s)) (effect b n (resume u s))
    unfolding refusals effect
    near-resume e e' =
        let (x, y) = split (toward b m u) rest (passed (toward b m u ++ rest) e) in
        near-live (resumed wide m (inv₁ t) u s e) (resumed wide n (inv₂ t) u s e') (agree-restore x y)
