-- What notify to a child saved the child's resume of slot 2 gives back, on every sound memory. Assumes nothing.
use mathlib.Core.Path.{◌≡◌, refl, sym, ap, ◌∙◌, subst}
use mathlib.Core.Logic.{◌≢◌}
use mathlib.Core.Bool.{false}
use mathlib.Core.List.{List, [], ◌∷◌}
use Prim.Native.Nat.{ℕ, zero, suc, ◌≤◌, ◌<◌}
use native.Mathlib.Omega.{arith}
use Rattle.memory.specs.Edition.{edition, width}
use Rattle.memory.specs.Partition as P
use Rattle.memory.specs.Contexts.{slot_words, to_child_slot, no_slots, slot_word}
use Rattle.memory.specs.Sound.{Sound}
use Rattle.memory.proofs.Editions.{wide_of, edition-known}
use Rattle.rules.specs.Row.{ok, reply}
use Rattle.rules.specs.Call.{Call, Registers, notify, choice}
use Rattle.rules.specs.Conditions.{other_edition, target}
use Rattle.rules.specs.Refusals.{refusal}
use Rattle.rules.specs.Calls as C
use Rattle.rules.specs.Editions.{answer, context, after, run, NoFormat}
use Rattle.rules.specs.GivenBack.{Untouched, Restored, EveryGivenBack}
use Rattle.rules.proofs.model.Inv.{Inv}
use Rattle.rules.proofs.steps.Saved.{saved, over_slot, Saved, notify_saves}
use Rattle.rules.proofs.steps.GivenBack.{gives_back}
use Rattle.rules.proofs.state.Represented.{sound-inv}
use Rattle.rules.proofs.state.Keeps.{one_width, stays-sound}

-- an answer that is no refusal
not-refused : (n x y : ℕ) → reply n x ≡ ok y → n ≡ 0
unfolding reply
not-refused zero x y e = refl
not-refused (suc n) x y e = let z : ◌≡◌ {A = ℕ} 0 1 = cc in absurd (omega arith)

wide : (m : List ℕ) → 6 ≤ width m
wide m = wide_of (edition m) (edition-known m)

module _ (m : List ℕ) (s : Sound (width m) m) (t eip eflags : ℕ) (r : Registers) (away : t ≢ 0) (a : answer m (notify t eip eflags r) ≡ ok 0) where
  abbrev call : Call
  call = notify t eip eflags r

  abbrev m' : List ℕ
  m' = after m call

  abbrev d : ℕ
  d = P.current (width m) m

  abbrev k : ℕ
  k = target (width m) m t

  passes : refusal (width m) m call ≡ 0
  unfolding answer C.answer C.result
  passes = not-refused (refusal (width m) m call) 0 0 a

  x : Saved (width m) m m' d k eip eflags r
  unfolding after
  x = notify_saves (wide m) m (sound-inv (wide m) m s) t eip eflags r away passes

  later-width : (cs : List Call) → NoFormat cs → width (run m' cs) ≡ width m
  unfolding run choice
  later-width cs n = (one_width m s (call ∷ cs) (refl, n)).1

  after-width : width m ≡ width m'
  unfolding run
  after-width = sym (later-width [] tt)

  -- ---- at once

  at-once : Untouched m t eip eflags r m'
  at-once = record {
    current = subst (λ (b : ℕ). P.current b m' ≡ k) after-width x.current;
    parent = subst (λ (b : ℕ). P.parent b m' k ≡ d) after-width x.parent;
    in_hand = subst (λ (b : ℕ). no_slots b m' d ≡ false) after-width x.in_hand;
    words = λ j l. refl;
  }

  -- ---- later

  abbrev flag : ℕ
  flag = P.flag (width m) m d

  abbrev written : ℕ → ℕ
  written j = over_slot (width m) m d (saved eip flag eflags r) j

  slot-words : (j : ℕ) → j < slot_words → slot_word (width m') m' d to_child_slot j ≡ written j
  slot-words j l = subst (λ (b : ℕ). slot_word b m' d to_child_slot j ≡ written j) after-width (x.words j l)

  restored : (cs : List Call) → NoFormat cs → Untouched m t eip eflags r (run m' cs) → Restored m t eip eflags r (run m' cs)
  unfolding answer context after run
  restored cs n u =
      let later : List ℕ = run m' cs in
      let b : ℕ = width later in
      let i : Inv b later = sound-inv (wide later) later (stays-sound m s (call ∷ cs)) in
      let e : other_edition b ≡ false = ap other_edition (later-width cs n) ∙ x.edition in
      let p : P.parent b later (P.current b later) ≡ d = ap (P.parent b later) u.current ∙ u.parent in
      let w : (j : ℕ) → j < slot_words → slot_word b later d to_child_slot j ≡ written j = λ j l. u.words j l ∙ slot-words j l in
      let y = gives_back (wide later) later i d eip flag eflags r (slot_word (width m) m d to_child_slot) e x.caller x.flag p u.in_hand w in
      record { answered = y.0; words = y.1; flag = y.2; current = y.3 }

pub every-given-back : EveryGivenBack
every-given-back m s t eip eflags r away a = record { at_once = at-once m s t eip eflags r away a; later = restored m s t eip eflags r away a }
