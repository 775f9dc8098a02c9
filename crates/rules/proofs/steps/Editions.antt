-- The calls as they are made keep the invariant of the edition that the last format chose, and format makes it on any memory. Assumes nothing.
use mathlib.Core.Path.{◌≡◌, refl, sym, ap, ◌∙◌, subst}
use mathlib.Core.List.{List, [], ◌∷◌}
use mathlib.Core.Bool.{Bool, true, false, cond, false≢true}
use mathlib.Core.Option.{Option, none, some}
use Prim.Native.Nat.{ℕ, ◌<◌}
use lib.ListN.{length}
use Rattle.memory.specs.Edition.{edition, width}
use Rattle.memory.specs.Geometry.{widths, width_of}
use Rattle.memory.specs.Format.{format}
use Rattle.memory.specs.Sound.{Sound}
use Rattle.memory.proofs.Editions.{wide_of, edition-read}
use Rattle.rules.specs.Call.{Call, format_all, choice}
use Rattle.rules.specs.Conditions.{pages_in, unfit}
use Rattle.rules.specs.Effects.{effect}
use Rattle.rules.specs.Calls as C
use Rattle.rules.specs.Editions.{after, run, next_edition, last_edition, NoFormat}
use Rattle.rules.specs.Permitted.{Fits}
use Rattle.rules.proofs.Rows.{after-ok, after-no}
use Rattle.rules.proofs.Choices.{is-format}
use Rattle.rules.proofs.Size.{fits, fit, passes, refused}
use Rattle.rules.proofs.Lengths.{length-after}
use Rattle.rules.proofs.model.Inv.{Inv}
use Rattle.rules.proofs.sound.Forms.{sound-header}
use Rattle.rules.proofs.sound.All.{inv-sound}
use Rattle.rules.proofs.steps.Unchanged.{inv-format_all}
use Rattle.rules.proofs.steps.Step.{inv-step}

-- the memory has the invariant of edition e
pub record Held (e : ℕ) (m : List ℕ) : Type 0 where
  pub known : e < length widths
  pub inv : Inv (width_of e) m

-- it is then read as of that edition
pub edition-is : (e : ℕ) (m : List ℕ) → Held e m → edition m ≡ e
edition-is e m h = edition-read m e h.known (sound-header (wide_of e h.known) m h.inv).edition

pub held-sound : {e : ℕ} {m : List ℕ} → Held e m → Sound (width_of e) m
held-sound {e} {m} h = inv-sound (wide_of e h.known) m h.inv

-- ---- format

module _ (m : List ℕ) (e : ℕ) where
  pub format-leaves : Fits e m → after m (format_all e) ≡ format (width_of e) (pages_in (width_of e) m)
  unfolding after effect
  format-leaves f = after-ok (width m) m (format_all e) (passes m e (width m) f)

  pub format-refused : ¬ Fits e m → after m (format_all e) ≡ m
  unfolding after
  format-refused n = after-no (width m) m (format_all e) 1 (refused m e (width m) n)

  pub held-format : Fits e m → Held e (format (width_of e) (pages_in (width_of e) m))
  unfolding effect
  held-format f = record { known = f.known; inv = inv-format_all (width_of e) m e f }

-- ---- any call

-- a format that passes or is refused
pub by_format : {e : ℕ} {m : List ℕ} → Held e m → (f : ℕ) → Held (cond (unfit f m) e f) (after m (format_all f))
by_format {e} {m} h f = go (unfit f m) refl
  where
    go : (t : Bool) → unfit f m ≡ t → Held (cond t e f) (after m (format_all f))
    go true q = subst (Held e) (sym (format-refused m f (λ x. false≢true (sym (fit m f x) ∙ q)))) h
    go false q = subst (Held f) (sym (format-leaves m f (fits m f q))) (held-format m f (fits m f q))

module _ {e : ℕ} {m : List ℕ} (h : Held e m) where
  -- the call reads the memory by the width of its edition
  pub left : (c : Call) → after m c ≡ C.after (width_of e) m c
  unfolding after
  left c = ap (λ (x : ℕ). C.after (width_of x) m c) (edition-is e m h)

  pub held-step : (c : Call) → Held (next_edition m e (choice c)) (after m c)
  unfolding next_edition
  held-step c = go (choice c) refl
    where
      go : (o : Option ℕ) → choice c ≡ o → Held (next_edition m e o) (after m c)
      go none n = record { known = h.known; inv = subst (Inv (width_of e)) (sym (left c)) (inv-step (wide_of e h.known) m h.inv c n) }
      go (some f) n = subst (λ (x : Call). Held (cond (unfit f m) e f) (after m x)) (sym (is-format c f n)) (by_format h f)

-- the length alone tells whether a format passes
next-same : (m m' : List ℕ) → length m' ≡ length m → (e : ℕ) (o : Option ℕ) → next_edition m' e o ≡ next_edition m e o
unfolding next_edition
next-same m m' l e none = refl
next-same m m' l e (some f) = rw l refl

pub last-same : (m m' : List ℕ) → length m' ≡ length m → (e : ℕ) (cs : List Call) → last_edition m' e cs ≡ last_edition m e cs
unfolding last_edition
last-same m m' l e [] = refl
last-same m m' l e (c ∷ cs) = ap (λ (x : ℕ). last_edition m' x cs) (next-same m m' l e (choice c)) ∙ last-same m m' l (next_edition m e (choice c)) cs

pub held-run : (e : ℕ) (m : List ℕ) → Held e m → (cs : List Call) → Held (last_edition m e cs) (run m cs)
unfolding run last_edition after
held-run e m h [] = h
held-run e m h (c ∷ cs) =
    subst (λ (x : ℕ). Held x (run (after m c) cs)) (last-same m (after m c) (length-after (width m) m c) (next_edition m e (choice c)) cs)
    (held-run (next_edition m e (choice c)) (after m c) (held-step h c) cs)

-- ---- calls without a format stay at one width

pub held_on : {e : ℕ} {m : List ℕ} → Held e m → (c : Call) → choice c ≡ none → Held e (after m c)
unfolding next_edition
held_on {e} {m} h c n = subst (λ (o : Option ℕ). Held (next_edition m e o) (after m c)) n (held-step h c)

pub held_all : (e : ℕ) (m : List ℕ) → Held e m → (cs : List Call) → NoFormat cs → Held e (run m cs)
unfolding run
held_all e m h [] n = h
held_all e m h (c ∷ cs) (n, ns) = held_all e (after m c) (held_on h c n) cs ns

pub run_is : (e : ℕ) (m : List ℕ) → Held e m → (cs : List Call) → NoFormat cs → run m cs ≡ C.run (width_of e) m cs
unfolding run C.run
run_is e m h [] n = refl
run_is e m h (c ∷ cs) (n, ns) =
    run_is e (after m c) (held_on h c n) cs ns ∙ ap (λ (x : List ℕ). C.run (width_of e) x cs) (left h c)
