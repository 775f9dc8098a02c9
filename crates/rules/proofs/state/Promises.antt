-- What is promised of prepare and collect, of delete_partition, and of notify, dispatch and resume on the other edition, of every sound memory. Assumes
-- nothing.
use mathlib.Core.Path.{◌≡◌, subst}
use mathlib.Core.List.{List}
use Prim.Native.Nat.{ℕ, ◌≤◌}
use native.Mathlib.Omega.{arith}
use Rattle.memory.specs.Edition.{edition, width}
use Rattle.memory.specs.Sound.{Sound}
use Rattle.memory.proofs.Editions.{wide_of, edition-known}
use Rattle.rules.specs.SameChain.{EverySameChain, EveryThreeKept, EverySameLater}
use Rattle.rules.specs.Deleted.{EveryDelete}
use Rattle.rules.specs.OneEdition.{EveryOneEdition}
use Rattle.rules.proofs.model.Inv.{Inv}
use Rattle.rules.proofs.sound.Tree.{in_tree-live}
use Rattle.rules.proofs.steps.PrepareCollect.{same-chain}
use Rattle.rules.proofs.steps.ThreeKept.{three-step, same-later}
use Rattle.rules.proofs.steps.Deleted.{deleted-pages}
use Rattle.rules.proofs.steps.Editions.{Held}
use Rattle.rules.proofs.steps.OneEdition.{one-edition}
use Rattle.rules.proofs.state.Represented.{sound-inv}
use Rattle.rules.proofs.state.Keeps.{sound-held}

module _ (m : List ℕ) where
  wide : 6 ≤ width m
  wide = wide_of (edition m) (edition-known m)

  inv : Sound (width m) m → Inv (width m) m
  inv s = sound-inv wide m s

pub every-same-chain : EverySameChain
every-same-chain m s = same-chain (wide m) m (inv m s)

pub every-three-kept : EveryThreeKept
every-three-kept m s d i v₁ v₂ v₃ h x k =
    three-step (wide m) m (inv m s) d i (in_tree-live (wide m) m (inv m s) k.before.0 d k.before.1) h x k

pub every-same-later : EverySameLater
every-same-later m s = same-later (wide m) m (inv m s)

pub every-delete : EveryDelete
every-delete m s c h = deleted-pages (wide m) m (inv m s) c h

pub every-one-edition : EveryOneEdition
every-one-edition m s n =
    let e : edition m ≡ 1 = omega (arith, edition-known m, n) in
    one-edition (subst (λ (x : ℕ). Held x m) e (sound-held m s))
