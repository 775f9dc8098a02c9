-- resume: its effect and the words that it answers, by whether the slot is valid. Assumes nothing.
use mathlib.Core.Path.{◌≡◌, refl, sym, ap, ap₂, ◌∙◌}
use mathlib.Core.Bool.{true, false}
use mathlib.Core.List.{List}
use mathlib.Core.Option.{some}
use Prim.Native.Nat.{ℕ, ◌+◌, ◌*◌, ◌%◌}
use lib.Dec.{eqb}
use lib.ListN.{get_or}
use Rattle.memory.specs.Geometry.{address, page_of}
use Rattle.memory.specs.Words.{tabulate, word, put}
use Rattle.memory.specs.Partition.{current}
use Rattle.memory.specs.Contexts.{slot_words, saved_words, pipflags_place, valid_place, slot_page, slot_word, valid, saved_in, clear_valid}
use Rattle.memory.proofs.Geometry.{page-address}
use Rattle.rules.specs.Row.{pass}
use Rattle.rules.specs.Call.{resume}
use Rattle.rules.specs.Conditions.{target}
use Rattle.rules.specs.Effects.{switch, restore, effect}
use Rattle.rules.specs.Calls.{no_context, resumed}

-- pipflags among the saved words
flags-saved : (f : ℕ → ℕ) → get_or (tabulate 0 saved_words f) pipflags_place 0 ≡ f pipflags_place
unfolding tabulate
flags-saved f = refl

-- d is the caller, p the page of the target's slots
module _ (b : ℕ) (m : List ℕ) (t s : ℕ) {d p : ℕ} (e : d ≡ current b m) (q : p ≡ slot_page b m (target b m t)) where
  valid-is : eqb (word b m p (slot_words * s + valid_place)) 1 ≡ valid b m (target b m t) s
  valid-is = ap (λ (x : ℕ). eqb (word b m x (slot_words * s + valid_place)) 1) q

  -- "if that isn't valid the root becomes current with flag 1, the caller's flag is 0, slot words stay and the answer is eleven zeros"
  pub to-root : {a : ℕ} {m' : List ℕ} → eqb (word b m p (slot_words * s + valid_place)) 1 ≡ false → a ≡ address b 1 → m' ≡ switch b m d (page_of b a) 0 1
      → (no_context ≡ resumed b m 0 (some (t, s))) × (m' ≡ effect b m (resume t s))
  unfolding effect restore resumed pass
  to-root n h f =
      let v : valid b m (target b m t) s ≡ false = sym valid-is ∙ n in
      (rw v refl, rw v (f ∙ ap₂ (λ (x y : ℕ). switch b m x y 0 1) e (ap (page_of b) h ∙ page-address b 1)))

  -- "answers the saved words, clears valid and sets the target's flag to bit 0 of the saved pipflags"
  pub to-target : {k : ℕ} {ws : List ℕ} (m₁ : List ℕ) {m₂ : List ℕ} → k ≡ target b m t → eqb (word b m p (slot_words * s + valid_place)) 1 ≡ true
      → ws ≡ tabulate 0 saved_words (λ i. word b m p (slot_words * s + i)) → m₁ ≡ put b m p (slot_words * s + valid_place) 0
      → m₂ ≡ switch b m₁ d k 0 (get_or ws pipflags_place 0 % 2) → (ws ≡ resumed b m 0 (some (t, s))) × (m₂ ≡ effect b m (resume t s))
  unfolding effect restore resumed pass
  to-target m₁ r h w g f =
      let v : valid b m (target b m t) s ≡ true = sym valid-is ∙ h in
      let u : _ ≡ saved_in b m (target b m t) s = w ∙ ap (λ (x : ℕ). tabulate 0 saved_words (λ i. word b m x (slot_words * s + i))) q in
      let o : m₁ ≡ clear_valid b m (target b m t) s = g ∙ ap (λ (x : ℕ). put b m x (slot_words * s + valid_place) 0) q in
      let z = ap (λ (l : List ℕ). get_or l pipflags_place 0 % 2) u ∙ ap (λ (x : ℕ). x % 2) (flags-saved (slot_word b m (target b m t) s)) in
      (rw v u, rw v (f ∙ rw (o, e, r, z) refl))
