-- Sentence 7: a child's kernel pages are mapped inaccessible in its parent and not lent; no other page that is not lent is inaccessible.
use mathlib.Core.Path.{◌≡◌, sym, ap, ◌∙◌, subst}
use mathlib.Core.Logic.{◌≢◌, inl, inr}
use mathlib.Core.List.{List}
use Prim.Native.Nat.{ℕ, ◌*◌, ◌≤◌, ◌<◌}
use native.Mathlib.Omega.{arith}
use lib.ListN.{length}
use Rattle.memory.specs.Entry
use Rattle.memory.specs.Partition
use Rattle.memory.specs.Tree.{Has, Child, InTree}
use Rattle.memory.specs.Sound.{KernelAddress, Kernel}
use Rattle.rules.proofs.model.Words.{addr, page_of, bit}
use Rattle.rules.proofs.model.Abs.{Role, desc, Hop, Abs, head_v, Seen, Owner, is_hand, lent_word}
use Rattle.rules.proofs.model.Apart.{own-small}
use Rattle.rules.proofs.model.Facts.{nil_cons, Top}
use Rattle.rules.proofs.sound.Views.{owner-kernel}
use Rattle.rules.proofs.model.Inv.{Inv}
use Rattle.rules.proofs.model.Listing.{page_at}
use Rattle.rules.proofs.sound.Words.{Mapping, mapping-there, virtual-back, threes-is}
use Rattle.rules.proofs.sound.Tree.{IsChild, child-is, in_tree-live}
use Rattle.rules.proofs.sound.Pages.{five_page, five-owner, five-virtual, pairs-are, listed-owner, listed-virtual}
use Rattle.rules.proofs.sound.Places.{Place, in-hand, in_five, in_list, place, not-lent, owned-mapping, owner-child}

module _ {b : ℕ} (wide : 6 ≤ b) (m : List ℕ) (i : Inv b m) where
  abbrev A : Abs
  A = i.state

  module _ (d : ℕ) (l : A.role d ≡ desc) where
    abbrev Shut : ℕ → Type 0
    Shut x = (Partition.mapping b m d x ≢ 0) × (Entry.accessible (Partition.mapping b m d x) ≡ 0) × (Partition.lent b m d x ≤ 1)

    shut-page : (u c q : ℕ) → IsChild A d u c → Owner (A.role q) q c → Shut (addr b (head_v (A.chain q)))
    unfolding lent_word
    shut-page u c q k o =
        let x = owned-mapping wide m i d u c q k o in
        (x.1.present, x.1.accessible ∙ ap bit (owner-kernel (A.role q) q c o), omega (arith, own-small (A.role q), x.1.lent ∙ ap (lent_word b A (A.role q)) x.2))

    shut : (v c : ℕ) → Child b m d v c → (x : ℕ) → KernelAddress b m c x → Shut x
    shut v c k x (inl a) =
        let y = child-is wide m i d v c l k in
        subst Shut (sym (five-virtual wide m i c y.live a.0 a.1) ∙ a.2) (shut-page (page_of b v) c (five_page A c a.0) y (five-owner wide m i c y.live a.0 a.1))
    shut v c k x (inr a) =
        let y = child-is wide m i d v c l k in
        let n : a.0 < 3 * length (A.threes c) = pairs-are wide m i c y.live a.0 a.1 in
        subst Shut (sym (listed-virtual wide m i c y.live a.0 n) ∙ a.2) (shut-page (page_of b v) c (page_at (A.threes c) a.0) y (listed-owner wide m i c y.live a.0 n))

    -- ---- others

    abbrev Found : ℕ → Type 0
    Found x = (v : ℕ) × (c : ℕ) × Child b m d v c × KernelAddress b m c x

    module _ (x p : ℕ) (s : Seen) (h : Has b m d x) (y : Mapping b m A d x p s) (low : Partition.lent b m d x ≤ 1) (off : Entry.accessible (Partition.mapping b m d x) ≡ 0) where
      first : Top d (A.chain p) s
      first = not-lent wide m i d x p s y low

      not-zero : p ≢ 0
      not-zero e = nil_cons (sym i.wf.head_chain ∙ ap A.chain (sym e) ∙ first.is)

      address : addr b (head_v (A.chain p)) ≡ x
      address = ap (λ (hs : List Hop). addr b (head_v hs)) first.is ∙ ap (addr b) (sym first.vp ∙ y.at) ∙ virtual-back wide x h.virtual

      owned : (c : ℕ) → Owner (A.role p) p c → KernelAddress b m c x → Found x
      owned c o k =
          let z = owner-child wide m i c p first.hop first.rest first.is o in
          (z.0, c, subst (λ (e : ℕ). Child b m e z.0 c) first.part z.1, k)

      other : Place A p → Found x
      other (in-hand e) = absurd (omega (arith, off, y.accessible ∙ ap (λ (r : Role). bit (is_hand r)) e))
      other (in_five c j lc n e) =
          owned c (subst (λ (q : ℕ). Owner (A.role q) q c) e (five-owner wide m i c lc j n)) (inl (j, n, five-virtual wide m i c lc j n ∙ ap (λ (q : ℕ). addr b (head_v (A.chain q))) e ∙ address))
      other (in_list c j lc n e) =
          owned c (subst (λ (q : ℕ). Owner (A.role q) q c) e (listed-owner wide m i c lc j n))
          (inr (j, omega (arith, threes-is wide m i c lc), listed-virtual wide m i c lc j n ∙ ap (λ (q : ℕ). addr b (head_v (A.chain q))) e ∙ address))

    others : (x : ℕ) → Has b m d x → Partition.mapping b m d x ≢ 0 → Partition.lent b m d x ≤ 1 → Entry.accessible (Partition.mapping b m d x) ≡ 0 → Found x
    others x h n low off =
        let y = mapping-there wide m i d x l h.virtual n in
        other x y.0 y.1 h y.2 low off (place wide m i y.0 (not-zero x y.0 y.1 h y.2 low off))

  pub sound-kernel : (k d : ℕ) → InTree b m k d → Kernel b m d
  sound-kernel k d t = let l : A.role d ≡ desc = in_tree-live wide m i k d t in record { shut = shut d l; others = others d l }
