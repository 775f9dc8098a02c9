-- No memory is sound by two editions' widths, and refusal 1 is given exactly where it is sound by none. Assumes nothing.
use mathlib.Core.Path.{◌≡◌, sym, subst}
use mathlib.Core.List.{List}
use Prim.Native.Nat.{ℕ, ◌<◌}
use native.Mathlib.Omega.{arith}
use lib.ListN.{length}
use Rattle.walk.specs.Reflect.{Tells, via, isn't}
use Rattle.memory.specs.Geometry.{widths, width_of}
use Rattle.memory.specs.Edition.{edition, width}
use Rattle.memory.specs.Sound.{Sound}
use Rattle.memory.proofs.Widths.{words-least}
use Rattle.memory.proofs.Editions.{wide_of, edition-known, edition-read}
use Rattle.soundness.specs.Test.{sound_test}
use Rattle.soundness.proofs.Whole.{sound?}
use Rattle.rules.specs.Conditions.{damaged}

-- the header names the edition by whose width the memory is sound
pub one-edition : (e : ℕ) (m : List ℕ) → e < length widths → Sound (width_of e) m → edition m ≡ e
one-edition e m l s = edition-read m e l s.header.edition

-- the test of the memory's own width tells whether it is sound by that width
pub sound_own? : (m : List ℕ) → Tells (sound_test (width m) m) (Sound (width m) m)
sound_own? m = sound? (width m) m (omega (arith, words-least (width m) (wide_of (edition m) (edition-known m))))

pub damaged? : (m : List ℕ) → Tells (damaged (width m) m) ((e : ℕ) → e < length widths → ¬ Sound (width_of e) m)
damaged? m =
    via (isn't (sound_own? m))
    (λ n e l s. n (subst (λ (x : ℕ). Sound (width_of x) m) (sym (one-edition e m l s)) s))
    (λ n. n (edition m) (edition-known m))
