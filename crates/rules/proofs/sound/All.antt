-- Memory with the invariant is sound, and the test of soundness passes.
use mathlib.Core.Path.{◌≡◌, ap}
use mathlib.Core.Bool.{false, not}
use mathlib.Core.List.{List}
use Prim.Native.Nat.{ℕ, ◌≤◌}
use Rattle.memory.specs.Sound.{Sound}
use Rattle.soundness.proofs.Whole.{sound?}
use Rattle.rules.specs.Conditions.{damaged}
use Rattle.rules.proofs.model.Words.{W, sixty_one}
use Rattle.rules.proofs.model.Inv.{Inv}
use Rattle.rules.proofs.sound.Tree.{sound-depth, sound-current}
use Rattle.rules.proofs.sound.Forms.{sound-header, sound-forms, sound-absent}
use Rattle.rules.proofs.sound.Root.{sound-root}
use Rattle.rules.proofs.sound.Threes.{sound-threes}
use Rattle.rules.proofs.sound.Children.{sound-children}
use Rattle.rules.proofs.sound.Lending.{sound-lending}
use Rattle.rules.proofs.sound.Kernel.{sound-kernel}
use Rattle.rules.proofs.sound.Uses.{sound-uses}
use Rattle.rules.proofs.sound.NeverBoth.{sound-never-both}

pub inv-sound : {b : ℕ} (wide : 6 ≤ b) (m : List ℕ) → Inv b m → Sound b m
inv-sound wide m i = record {
  header = sound-header wide m i;
  forms = sound-forms wide m i;
  root_as_formatted = sound-root wide m i;
  threes = sound-threes wide m i;
  children = sound-children wide m i;
  depth = sound-depth wide m i;
  current_in = sound-current wide m i;
  lending = sound-lending wide m i;
  kernel = sound-kernel wide m i;
  uses = sound-uses wide m i;
  absent = sound-absent wide m i;
  never_both = sound-never-both wide m i;
}

pub inv-whole : {b : ℕ} (wide : 6 ≤ b) (m : List ℕ) → Inv b m → damaged b m ≡ false
unfolding W
inv-whole {b} wide m i = ap not ((sound? b m (sixty_one wide)).1 (inv-sound wide m i))
