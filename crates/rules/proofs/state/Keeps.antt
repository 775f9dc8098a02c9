-- Every call keeps every sound memory sound, whatever made it: at one width every call but format, as the calls are made format too. Assumes at one
-- width that it is 6 or more.
use mathlib.Core.Path.{◌≡◌, sym, ap, subst}
use mathlib.Core.List.{List}
use mathlib.Core.Option.{none}
use Prim.Native.Nat.{ℕ, ◌≤◌}
use Rattle.memory.specs.Edition.{edition, width}
use Rattle.memory.specs.Geometry.{width_of}
use Rattle.memory.specs.Sound.{Sound}
use Rattle.memory.proofs.Editions.{wide_of, edition-known}
use Rattle.rules.specs.Call.{Call, choice}
use Rattle.rules.specs.Calls as C
use Rattle.rules.specs.Editions.{run, last_edition, OneWidth, StaysSound}
use Rattle.rules.proofs.sound.All.{inv-sound}
use Rattle.rules.proofs.steps.Step.{inv-step}
use Rattle.rules.proofs.steps.Editions.{Held, edition-is, held-sound, held-run, held_all, run_is}
use Rattle.rules.proofs.state.Represented.{sound-inv}

pub keeps-sound : {b : ℕ} (wide : 6 ≤ b) (m : List ℕ) → Sound b m → (c : Call) → choice c ≡ none → Sound b (C.after b m c)
keeps-sound wide m s c n = inv-sound wide _ (inv-step wide m (sound-inv wide m s) c n)

-- ---- the calls as they are made

module _ (m : List ℕ) (s : Sound (width m) m) where
  pub sound-held : Held (edition m) m
  sound-held = record { known = edition-known m; inv = sound-inv (wide_of (edition m) (edition-known m)) m s }

  pub runs_held : (cs : List Call) → Held (last_edition m (edition m) cs) (run m cs)
  runs_held cs = held-run (edition m) m sound-held cs

pub stays-sound : StaysSound
stays-sound m s cs = let h = runs_held m s cs in subst (λ (e : ℕ). Sound (width_of e) (run m cs)) (sym (edition-is _ (run m cs) h)) (held-sound h)

pub one_width : OneWidth
one_width m s cs n =
    let h = sound-held m s in
    (run_is (edition m) m h cs n, ap width_of (edition-is (edition m) (run m cs) (held_all (edition m) m h cs n)))
