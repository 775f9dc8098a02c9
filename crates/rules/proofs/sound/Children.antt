-- Sentence 4: a shadow 1 word 1 leads to a partition whose parent is this one and whose descriptor and list agree with the parent's tables.
use mathlib.Core.Path.{◌≡◌, sym, ap, ◌∙◌, subst}
use mathlib.Core.List.{List}
use Prim.Native.Nat.{ℕ, ◌*◌, ◌≤◌, ◌<◌}
use native.Mathlib.Omega.{arith}
use lib.ListN.{length}
use Rattle.memory.specs.Tree.{Child, InTree}
use Rattle.memory.specs.Sound.{Agrees, ChildRight, Children}
use Rattle.rules.proofs.model.Words.{addr}
use Rattle.rules.proofs.model.Abs.{desc, Hop, Abs, head_v, head_p, Owner, desc_list}
use Rattle.rules.proofs.model.Inv.{Inv}
use Rattle.rules.proofs.model.Listing.{page_at}
use Rattle.rules.proofs.sound.Words.{virtual-back, words-none, maps_none, descriptor-word}
use Rattle.rules.proofs.sound.Tree.{IsChild, child-is, in_tree-live}
use Rattle.rules.proofs.sound.Pages.{five_page, room, five-owner, five-virtual, five-physical, pairs-are, listed-owner, listed-virtual, listed-physical}
use Rattle.rules.proofs.sound.Places.{owned-mapping}

module _ {b : ℕ} (wide : 6 ≤ b) (m : List ℕ) (i : Inv b m) where
  abbrev A : Abs
  A = i.state

  agrees : (d u c q v a : ℕ) → IsChild A d u c → Owner (A.role q) q c → v ≡ addr b (head_v (A.chain q)) → a ≡ addr b q → Agrees b m d v a
  unfolding addr
  agrees d u c q v a k o e f =
      let x = owned-mapping wide m i d u c q k o in
      subst (λ (y : ℕ). Agrees b m d y a) (sym e) (x.1.present, ap (addr b) x.1.page ∙ sym f)

  child-right : (d v c : ℕ) → A.role d ≡ desc → Child b m d v c → ChildRight b m d v c
  unfolding addr desc_list
  child-right d v c l x =
      let k = child-is wide m i d v c l x in
      let lc : A.role c ≡ desc = k.live in
      record {
        stands = five-virtual wide m i c lc 0 (omega arith) ∙ ap (λ (hs : List Hop). addr b (head_v hs)) k.is ∙ ap (addr b) k.vp ∙ virtual-back wide v x.has.virtual;
        itself = five-physical wide m i c lc 0 (omega arith);
        parent = descriptor-word wide m i c 11 lc (room wide m i 11 (omega arith)) ∙ ap (λ (hs : List Hop). addr b (head_p hs)) k.is ∙ ap (addr b) k.part;
        five = λ j n. agrees d _ c (five_page A c j) _ _ k (five-owner wide m i c lc j n) (five-virtual wide m i c lc j n) (five-physical wide m i c lc j n);
        listed = λ j n.
            let p : j < 3 * length (A.threes c) = pairs-are wide m i c lc j n in
            agrees d _ c (page_at (A.threes c) j) _ _ k (listed-owner wide m i c lc j p) (listed-virtual wide m i c lc j p) (listed-physical wide m i c lc j p);
      }

  pub sound-children : (k d : ℕ) → InTree b m k d → Children b m d
  sound-children k d t =
      let l : A.role d ≡ desc = in_tree-live wide m i k d t in
      record {
        leads = λ v h e z. omega (arith, e, (words-none wide m i d v l h.virtual (maps_none wide m i d v l z)).1);
        right = λ v c x. child-right d v c l x;
      }
