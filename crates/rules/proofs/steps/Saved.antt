-- What notify to a child leaves: the child is current, and the caller's slot page, still in its hand, has the saved words in slot 2. Assumes an index
-- width of 6 or more.
use mathlib.Core.Path.{◌≡◌, refl, sym, ap, ◌∙◌, subst}
use mathlib.Core.Logic.{◌≢◌}
use mathlib.Core.Bool.{false}
use mathlib.Core.List.{List, [], ◌∷◌, ◌++◌}
use Prim.Native.Nat.{ℕ, ◌+◌, ◌*◌, ◌≤◌, ◌<◌}
use native.Mathlib.Omega.{arith}
use borrow.Author.Tests.{ne_eqb}
use lib.ListN.{get_or}
use Rattle.memory.specs.Partition
use Rattle.memory.specs.Contexts.{slot_words, to_child_slot, slots_at, slots_entry, slot_page, no_slots, slot_word}
use Rattle.rules.specs.Row.{pass}
use Rattle.rules.specs.Call.{Registers, register_words, notify}
use Rattle.rules.specs.Conditions.{other_edition, target}
use Rattle.rules.specs.Refusals.{refusal}
use Rattle.rules.specs.Effects.{switch, save, effect}
use Rattle.rules.specs.Calls.{after}
use Rattle.rules.proofs.model.Words.{W, Sized, page_of, word, put_l, idx, sixty_one, put_l-sized, put_l-other, put_l-at}
use Rattle.rules.proofs.model.Abs.{Kind, pt, s1, hand, tag, Abs, is_hand}
use Rattle.rules.proofs.model.Alike.{cells_same}
use Rattle.rules.proofs.model.Read.{root_page, entry_at, kernel-lt, entry-is}
use Rattle.rules.proofs.model.Inv.{Inv, named, live}
use Rattle.rules.proofs.steps.KeepMove.{parent_is}
use Rattle.rules.proofs.steps.Move.{set_live}
use Rattle.rules.proofs.steps.Live.{Live, live_state, flag_small}
use Rattle.rules.proofs.steps.Switch.{switch-other, switch-current}
use Rattle.rules.proofs.steps.KeepContexts.{slots-fit, notified}
use Rattle.rules.proofs.steps.ToChild.{ToChild, to-child}

-- the words that are saved, and valid behind them
abbrev pub saved : ℕ → ℕ → ℕ → Registers → List ℕ
saved e v f r = e ∷ v ∷ f ∷ (register_words r ++ (1 ∷ []))

-- word j of d's slot 2 with ws written over it from its first word on
abbrev pub over_slot : (b : ℕ) → List ℕ → ℕ → List ℕ → ℕ → ℕ
over_slot b m d ws j = get_or ws j (slot_word b m d to_child_slot j)

-- what notify finds in m and leaves in m'; d is the caller and k the child
pub record Saved (b : ℕ) (m m' : List ℕ) (d k eip eflags : ℕ) (r : Registers) : Type 0 where
  pub edition : other_edition b ≡ false
  pub caller : d ≢ 0
  pub flag : Partition.flag b m d < 2
  pub current : Partition.current b m' ≡ k
  pub parent : Partition.parent b m' k ≡ d
  pub in_hand : no_slots b m' d ≡ false
  pub words : (j : ℕ) → j < slot_words → slot_word b m' d to_child_slot j ≡ over_slot b m d (saved eip (Partition.flag b m d) eflags r) j

module _ {b : ℕ} (wide : 6 ≤ b) (m : List ℕ) (i : Inv b m) (t eip eflags : ℕ) (r : Registers) (away : t ≢ 0)
    (e : refusal b m (notify t eip eflags r) ≡ 0) where
  open named b i use {N, fl, f, A}

  abbrev d : ℕ
  d = Partition.current b m

  abbrev k : ℕ
  k = target b m t

  abbrev m' : List ℕ
  m' = after b m (notify t eip eflags r)

  abbrev ws : List ℕ
  ws = saved eip (Partition.flag b m d) eflags r

  x : ToChild b m i d k
  x = to-child wide m i t eip eflags r away e

  abbrev m₁ : List ℕ
  m₁ = put_l b m (slot_page b m d) (slot_words * to_child_slot) ws

  effect_is : m' ≡ effect b m (notify t eip eflags r)
  unfolding after pass
  effect_is = ap (λ (n : ℕ). pass n (effect b m (notify t eip eflags r)) m) e

  after_is : m' ≡ switch b m₁ d k 0 1
  unfolding effect save put_l
  after_is = effect_is ∙ rw (ne_eqb t 0 away) refl

  sized : Sized b N m₁
  sized = put_l-sized wide N m (slot_page b m d) (slot_words * to_child_slot) ws i.words.sized

  left-current : Partition.current b m' ≡ k
  left-current =
      ap (Partition.current b) after_is ∙ switch-current wide m₁ d k 0 1 N sized (kernel-lt wide N fl A i.wf 0 (ap is_hand i.wf.head_role))

  -- a word of another page than the slot page, but for current and the flags
  stays : (q j : ℕ) → j < W b → j ≢ 4 → j ≢ 12 → A.role q ≢ hand → word b m' q j ≡ word b m q j
  stays q j l n o h =
      ap (λ (z : List ℕ). word b z q j) after_is ∙ switch-other wide m₁ d k 0 1 q j l n o
      ∙ put_l-other wide m (slot_page b m d) (slot_words * to_child_slot) ws q j (omega (arith, sixty_one wide)) l
      (λ z. h (ap A.role z ∙ x.slot_role))

  left-parent : Partition.parent b m' k ≡ d
  unfolding word page_of
  left-parent =
      ap (page_of b) (stays k 11 (omega (arith, sixty_one wide)) (omega arith) (omega arith) (λ z. omega (arith, ap tag (sym x.child_role ∙ z))))
      ∙ parent_is wide m i k x.child_role ∙ x.child_parent

  -- its tables are those before
  abbrev B : Live wide m i m' → Abs
  B h = set_live A h.vs h.cur

  same : (κ : Kind) (v : ℕ) → idx b v < W b → entry_at b m' κ d v ≡ entry_at b m κ d v
  same κ v β =
      let h : Live wide m i m' = subst (Live wide m i) (sym effect_is) (notified wide m i t eip eflags r e) in
      entry-is wide N fl (B h) (live_state wide m i h) f m' h.words κ d v (live wide m i) β
      ∙ cells_same b A (B h) refl refl (λ q. (refl, refl)) κ d v
      ∙ sym (entry-is wide N fl A i.wf f m i.words κ d v (live wide m i) β)

  at_same : slots_at b m' d ≡ slots_at b m d
  unfolding slots_at word
  at_same =
      let z = stays 0 0 (omega (arith, sixty_one wide)) (omega arith) (omega arith) (λ z. omega (arith, ap tag (sym i.wf.head_role ∙ z))) in
      rw z refl

  entry-same : slots_entry b m' d ≡ slots_entry b m d
  unfolding entry_at root_page page_of
  entry-same = ap (Partition.mapping b m' d) at_same ∙ same pt (page_of b (slots_at b m d)) (slots-fit wide m i d)

  lent_same : Partition.lent b m' d (slots_at b m' d) ≡ Partition.lent b m d (slots_at b m d)
  unfolding entry_at root_page page_of
  lent_same = ap (Partition.lent b m' d) at_same ∙ same s1 (page_of b (slots_at b m d)) (slots-fit wide m i d)

  left-slots : no_slots b m' d ≡ false
  left-slots = rw (entry-same, lent_same) x.slots

  -- slot 2 has the words that notify was given, with the caller's old flag and valid 1
  left-words : (j : ℕ) → j < slot_words → slot_word b m' d to_child_slot j ≡ over_slot b m d ws j
  unfolding word page_of
  left-words j l =
      let β : slot_words * to_child_slot + j < W b = omega (arith, sixty_one wide) in
      let p : ℕ = slot_page b m d in
      ap (λ (z : ℕ). word b m' (page_of b z) (slot_words * to_child_slot + j)) entry-same
      ∙ ap (λ (z : List ℕ). word b z p (slot_words * to_child_slot + j)) after_is
      ∙ switch-other wide m₁ d k 0 1 p (slot_words * to_child_slot + j) β (omega arith) (omega arith)
      ∙ put_l-at wide N m p (slot_words * to_child_slot) ws j (slot_words * to_child_slot + j) i.words.sized x.slot_fits refl β

  pub notify_saves : Saved b m m' d k eip eflags r
  notify_saves = record {
    edition = x.edition;
    caller = λ z. omega (arith, ap tag (sym (live wide m i) ∙ ap A.role z ∙ i.wf.head_role));
    flag = omega (arith, flag_small wide m i d (live wide m i));
    current = left-current;
    parent = left-parent;
    in_hand = left-slots;
    words = left-words;
  }
