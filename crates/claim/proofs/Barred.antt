-- On memory whose length is none of any edition no call passes and no word changes. Assumes nothing.
use mathlib.Core.Path.{◌≡◌, refl, ap, ap₂, ◌∙◌}
use mathlib.Core.List.{List, [], ◌∷◌}
use mathlib.Core.Bool.{true}
use mathlib.Core.Option.{Option, none, some}
use Prim.Native.Nat.{ℕ, suc}
use Rattle.walk.specs.Reflect.{isn't}
use Rattle.soundness.specs.Test.{sound_test}
use Rattle.soundness.proofs.Whole.{test-sound}
use Rattle.memory.specs.Edition.{edition, width}
use Rattle.rules.specs.Row.{Answer, no, pass}
use Rattle.rules.specs.Call.{Call, format_all, create_partition, delete_partition, add_vaddr, remove_vaddr, page_count, prepare, collect, mapped_in_child}
use Rattle.rules.specs.Call.{enter, leave, load, store, notify, dispatch, resume, choice, resumption}
use Rattle.rules.specs.Conditions.{damaged}
use Rattle.rules.specs.Refusals.{refusals}
use Rattle.rules.specs.Calls.{resumed}
use Rattle.rules.specs.Editions.{answer, after, context, run, answers, contexts}
use Rattle.rules.specs.Permitted.{Fits}
use Rattle.rules.proofs.Rows.{First, at, answer-no, context-no, after-no}
use Rattle.rules.proofs.Size as Size
use Rattle.rules.proofs.Size.{header-permitted}
use Rattle.memory.proofs.Editions.{edition-known}
use Rattle.claim.specs.Claim.{refused_by, all_refused, refused_beside, none_resumed, Barred}

module _ (m : List ℕ) (n : (e : ℕ) → ¬ Fits e m) where
  unsound : damaged (width m) m ≡ true
  unsound = (isn't {P = sound_test (width m) m ≡ true} ((λ e. e), λ e. e)).1
      (λ e. n (edition m) (record { known = edition-known m; size = header-permitted (width m) m (test-sound (width m) m e).header }))

  abbrev Stopped : Call → ℕ → Type 0
  Stopped c r = (answer m c ≡ no r) × (after m c ≡ m) × (context m c ≡ refused_beside (resumption c))

  zeros : (r : ℕ) (o : Option (ℕ × ℕ)) → resumed (width m) m (suc r) o ≡ refused_beside o
  unfolding resumed pass
  zeros r none = refl
  zeros r (some (t, s)) = refl

  stopped : (c : Call) (r : ℕ) → First (refusals (width m) m c) (suc r) → Stopped c (suc r)
  unfolding answer after context
  stopped c r h = (answer-no (width m) m c r h, after-no (width m) m c r h, context-no (width m) m c r h ∙ zeros r (resumption c))

  refused : (c : Call) → Stopped c (refused_by (choice c))
  unfolding refusals choice
  refused (format_all e) = stopped _ 1 (Size.refused m e (width m) (n e))
  refused (create_partition p d s t l) = stopped _ 0 (at unsound)
  refused (delete_partition c) = stopped _ 0 (at unsound)
  refused (add_vaddr p c t r) = stopped _ 0 (at unsound)
  refused (remove_vaddr c t) = stopped _ 0 (at unsound)
  refused (page_count c t) = stopped _ 0 (at unsound)
  refused (prepare c t p) = stopped _ 0 (at unsound)
  refused (collect c t) = stopped _ 0 (at unsound)
  refused (mapped_in_child p) = stopped _ 0 (at unsound)
  refused (enter c) = stopped _ 0 (at unsound)
  refused leave = stopped _ 0 (at unsound)
  refused (load a) = stopped _ 0 (at unsound)
  refused (store a x) = stopped _ 0 (at unsound)
  refused (notify t e f r) = stopped _ 0 (at unsound)
  refused (dispatch t) = stopped _ 0 (at unsound)
  refused (resume t s) = stopped _ 0 (at unsound)

  same-words : (cs : List Call) → run m cs ≡ m
  unfolding run
  same-words [] = refl
  same-words (c ∷ cs) = ap (λ (x : List ℕ). run x cs) (refused c).1 ∙ same-words cs

  all-refused : (cs : List Call) → answers m cs ≡ all_refused cs
  unfolding answers all_refused
  all-refused [] = refl
  all-refused (c ∷ cs) =
      ap₂ (λ (x : Answer) (y : List Answer). x ∷ y) (refused c).0 (ap (λ (x : List ℕ). answers x cs) (refused c).1 ∙ all-refused cs)

  none-resumed : (cs : List Call) → contexts m cs ≡ none_resumed cs
  unfolding contexts none_resumed
  none-resumed [] = refl
  none-resumed (c ∷ cs) =
      ap₂ (λ (x : List ℕ) (y : List (List ℕ)). x ∷ y) (refused c).2 (ap (λ (x : List ℕ). contexts x cs) (refused c).1 ∙ none-resumed cs)

pub barred : (m : List ℕ) (cs : List Call) → ((e : ℕ) → ¬ Fits e m) → Barred m cs
barred m cs n = record { words = same-words m n cs; answered = all-refused m n cs; resumed = none-resumed m n cs }
