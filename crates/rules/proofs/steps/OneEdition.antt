-- On memory of the new edition notify, dispatch and resume answer 24, and every live flag is 0. Assumes nothing.
use mathlib.Core.Path.{◌≡◌, refl, sym, subst}
use mathlib.Core.List.{List}
use Prim.Native.Nat.{ℕ}
use native.Mathlib.Omega.{arith}
use Rattle.memory.specs.Edition.{width}
use Rattle.memory.specs.Geometry.{width_of, edition_of}
use Rattle.memory.specs.Sound.{Sound}
use Rattle.memory.proofs.Editions.{wide_of}
use Rattle.rules.specs.Call.{Call, notify, dispatch, resume}
use Rattle.rules.specs.Refusals.{refusals}
use Rattle.rules.specs.Editions.{answer, after}
use Rattle.rules.specs.OneEdition.{NotHere, OneEdition}
use Rattle.rules.proofs.Rows.{First, on, at, answer-no, after-no}
use Rattle.rules.proofs.sound.All.{inv-whole}
use Rattle.rules.proofs.steps.Editions.{Held, edition-is, held-sound}

module _ {m : List ℕ} (h : Held 1 m) where
  width_is : width m ≡ width_of 1
  width_is = rw (edition-is 1 m h) refl

  sound : Sound (width_of 1) m
  sound = held-sound h

  not-here : (c : Call) → First (refusals (width_of 1) m c) 24 → NotHere m c
  unfolding answer after
  not-here c f =
      let g : First (refusals (width m) m c) 24 = subst (λ (b : ℕ). First (refusals b m c) 24) (sym width_is) f in
      record { answered = answer-no (width m) m c 23 g; words = after-no (width m) m c 23 g }

  pub one-edition : OneEdition m
  unfolding refusals edition_of
  one-edition =
      let w = inv-whole (wide_of 1 h.known) m h.inv in
      record {
        notified = λ t e f r. not-here (notify t e f r) (on w (at refl));
        dispatched = λ t. not-here (dispatch t) (on w (at refl));
        resumed = λ t s. not-here (resume t s) (on w (at refl));
        flags = rw width_is (λ k d t. let l = (sound.forms k d t).descriptor.flag in omega arith);
      }
