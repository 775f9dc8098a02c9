-- Sentence 12: below the root no page is both writable and executable.
use mathlib.Core.Path.{◌≡◌, sym, ap, ◌∙◌, subst}
use mathlib.Core.Logic.{◌≢◌}
use mathlib.Core.Option.{none}
use mathlib.Core.List.{List, [], ◌∷◌}
use Prim.Native.Nat.{ℕ, ◌≤◌, ◌<◌}
use native.Mathlib.Omega.{arith}
use native.Mathlib.Decide.{ℕ_discrete}
use Rattle.memory.specs.Entry.{rights, least_both}
use Rattle.memory.specs.Partition.{mapping}
use Rattle.memory.specs.Tree.{Has, InTree}
use Rattle.memory.specs.Sound.{WriteAndExecute}
use Rattle.memory.proofs.Entry.{below_both}
use Rattle.rules.proofs.model.Abs.{desc, Hop, Abs, parts, Up}
use Rattle.rules.proofs.model.RootWords.{parts_nil}
use Rattle.rules.proofs.model.Inv.{Inv}
use Rattle.rules.proofs.model.Chains.{above}
use Rattle.rules.proofs.sound.Words.{mapping-there}
use Rattle.rules.proofs.sound.Tree.{in_tree-live}

module _ {b : ℕ} (wide : 6 ≤ b) (m : List ℕ) (i : Inv b m) where
  abbrev A : Abs
  A = i.state

  -- a mapping's hop is not the root's, so it has one above it
  mapped : (d v : ℕ) → A.role d ≡ desc → d ≢ 1 → Has b m d v → mapping b m d v ≢ 0 → rights (mapping b m d v) < least_both
  mapped d v l n h o =
      let y = mapping-there wide m i d v l h.virtual o in
      let a = above wide A y.0 none d (A.chain y.0) y.1 (i.wf.good y.0) y.2.finds in
      let up : parts a.rest ≡ parts (A.chain d) = a.hop_good.above ∙ ap (λ (z : ℕ). parts (A.chain z)) a.part in
      subst (λ (r : ℕ). r < least_both) (sym (y.2.rights ∙ a.rt)) (go a.hop a.rest up a.hop_good.rights)
    where
      go : (w : Hop) (rest : List Hop) → parts rest ≡ parts (A.chain d) → Up w rest → w.rt < least_both
      go w [] e r = absurd (n (i.wf.root_only d l (parts_nil (A.chain d) (sym e))))
      go w (u ∷ us) e r = r.1

  pub sound-never-both : (k d : ℕ) → InTree b m k d → d ≢ 1 → (v : ℕ) → Has b m d v → ¬ WriteAndExecute b m d v
  sound-never-both k d t n v h = below_both (mapping b m d v) (elim (ℕ_discrete (mapping b m d v) 0) [
    | yes z ↦ omega (arith, ap rights z)
    | no o ↦ mapped d v (in_tree-live wide m i k d t) n h o
  ])
