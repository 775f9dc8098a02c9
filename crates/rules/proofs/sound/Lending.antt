-- Sentence 6: what a child maps is mapped in its parent, and each lent page is mapped in that child once.
use mathlib.Core.Path.{◌≡◌, refl, sym, ap, ap₂, ◌∙◌, subst}
use mathlib.Core.Logic.{◌≢◌}
use mathlib.Core.Bool.{true}
use mathlib.Core.Option.{Option, none, some}
use mathlib.Core.List.{List, [], ◌∷◌}
use Prim.Native.Nat.{ℕ, ◌/◌, ◌%◌, ◌≤◌, ◌<◌}
use native.Mathlib.Omega.{arith}
use borrow.Author.Tests.{eq-eqb}
use lib.Bits.{bit_and, and_step, and_zero_l}
use Rattle.walk.specs.Finite.{One}
use Rattle.memory.specs.Geometry
use Rattle.memory.specs.Entry
use Rattle.memory.specs.Partition
use Rattle.memory.specs.Tree.{Has, Child, InTree}
use Rattle.memory.specs.Sound.{FromParent, Lent, Lending}
use Rattle.rules.proofs.model.Words.{addr, page_of}
use Rattle.rules.proofs.model.Abs.{desc, Hop, Abs, parts, head_v, Seen, seek, Sub, GoodHop, Good, Up, lent_word}
use Rattle.rules.proofs.model.Apart.{own-small}
use Rattle.rules.proofs.model.Facts.{nil_cons, none-some, some_inj, below-is}
use Rattle.rules.proofs.model.Inv.{Inv}
use Rattle.rules.proofs.model.Chains.{Above, above, Below, below}
use Rattle.rules.proofs.sound.Words.{Mapping, mapping-there, mapping-at, has-at, virtual-back}
use Rattle.rules.proofs.sound.Places.{first_part}
use Rattle.rules.proofs.sound.Tree.{IsChild, child-is, child-at, child-parts, in_tree-live}

-- a part of some rights, bit by bit
last_bit : (r s : ℕ) → r ≤ s → s < 2 → bit_and r s ≡ r
last_bit r s h n =
    let z : r / 2 ≡ 0 = omega arith in
    let x : bit_and (r / 2) (s / 2) ≡ 0 = ap (λ (y : ℕ). bit_and y (s / 2)) z ∙ and_zero_l (s / 2) in
    omega (arith, and_step r s)

more-bit : (r s : ℕ) → r % 2 ≤ s % 2 → bit_and (r / 2) (s / 2) ≡ r / 2 → bit_and r s ≡ r
more-bit r s h e = omega (arith, and_step r s)

sub_and : (r s : ℕ) → r < 8 → s < 8 → Sub r s → bit_and r s ≡ r
sub_and r s n k h =
    more-bit r s h.read (more-bit (r / 2) (s / 2) h.write (last_bit (r / 2 / 2) (s / 2 / 2) (omega (arith, h.exec)) (omega arith)))

sub_holds : (x y r s : ℕ) → Entry.rights x ≡ r → Entry.rights y ≡ s → r < 8 → s < 8 → Sub r s → Entry.holds (Entry.rights x) y ≡ true
sub_holds x y r s e f n k h = eq-eqb (bit_and (Entry.rights x) (Entry.rights y)) (Entry.rights x) (ap₂ bit_and e f ∙ sub_and r s n k h ∙ sym e)

module _ {b : ℕ} (wide : 6 ≤ b) (m : List ℕ) (i : Inv b m) where
  abbrev A : Abs
  A = i.state

  module _ (d : ℕ) (l : A.role d ≡ desc) where
    -- ---- down

    down : (v c u : ℕ) → Child b m d v c → Has b m c u → Partition.mapping b m c u ≢ 0 → FromParent b m d v c u
    unfolding lent_word
    down v c u x h n = go a.rest refl
      where
        k : IsChild A d (page_of b v) c
        k = child-is wide m i d v c l x

        y : (p : ℕ) × (s : Seen) × Mapping b m A c u p s
        y = mapping-there wide m i c u k.live h.virtual n

        p : ℕ
        p = y.0

        s : Seen
        s = y.1

        a : Above b A p none c (A.chain p) s
        a = above wide A p none c (A.chain p) s (i.wf.good p) y.2.finds

        up-parts : parts a.rest ≡ d ∷ parts (A.chain d)
        up-parts = a.hop_good.above ∙ ap (λ (z : ℕ). parts (A.chain z)) a.part ∙ child-parts wide m i d (page_of b v) c k

        go : (rest : List Hop) → a.rest ≡ rest → FromParent b m d v c u
        go [] e = nil_cons (sym (ap parts e) ∙ up-parts)
        go (w ∷ ws) e =
            let part : w.part ≡ d = first_part (sym (ap parts e) ∙ up-parts) in
            let g : GoodHop b A p w ws × Good b A p ws = subst (Good b A p) e a.rest_good in
            let t : Seen = record { vp = w.vp; rt = w.rt; up = head_v ws; below = some c } in
            let z : Mapping b m A d (addr b w.vp) p t = mapping-at wide m i d w.vp p t l (rw part at g.0.mapped) (rw part at (a.next w ws e)) refl in
            let q : Partition.above b m c u ≡ addr b w.vp = y.2.above ∙ ap (addr b) (a.up ∙ ap head_v e) in
            let r : Sub a.hop.rt w.rt = (subst (Up a.hop) e a.hop_good.rights).0 in
            record {
              mapped = rw q z.present;
              page = rw q (y.2.page ∙ sym z.page);
              bit = rw q (y.2.accessible ∙ sym z.accessible);
              no_more = rw q (sub_holds (Partition.mapping b m c u) (Partition.mapping b m d (addr b w.vp)) a.hop.rt w.rt (y.2.rights ∙ a.rt) z.rights a.hop_good.small g.0.small r);
              names = rw q (z.lent ∙ ap (λ (hs : List Hop). addr b (head_v hs)) k.is ∙ ap (addr b) k.vp ∙ virtual-back wide v x.has.virtual);
            }

    -- ---- back

    abbrev MappedFrom : ℕ → ℕ → ℕ → Type 0
    MappedFrom v c u = Has b m c u × ((Partition.mapping b m c u ≢ 0) × (Partition.above b m c u ≡ v))

    -- v is the parent's address of page p, which c maps
    module _ (v p c : ℕ) (s : Seen) (x : Mapping b m A d v p s) (n : s.below ≡ some c) (h : Has b m d v) where
      child : (A.role c ≡ desc) × (parts (A.chain c) ≡ d ∷ parts (A.chain d))
      child = below-is wide A p d c none (A.chain p) s (i.wf.good p) (λ y z. none-some z) x.finds n

      lent_is : Partition.lent b m d v ≡ addr b (head_v (A.chain c))
      unfolding lent_word
      lent_is = x.lent ∙ ap (lent_word b A (A.role p)) n

      named : Child b m d (Partition.lent b m d v) c
      named = go (A.chain c) refl
        where
          go : (hs : List Hop) → A.chain c ≡ hs → Child b m d (Partition.lent b m d v) c
          go [] e = nil_cons (sym (ap parts e) ∙ child.1)
          go (u ∷ us) e =
              let q : u.part ≡ d = first_part (sym (ap parts e) ∙ child.1) in
              let w : addr b u.vp ≡ Partition.lent b m d v = sym (lent_is ∙ ap (λ (hs : List Hop). addr b (head_v hs)) e) in
              subst (λ (z : ℕ). Child b m d z c) w (subst (λ (z : ℕ). Child b m z (addr b u.vp) c) q (child-at wide m i c u us child.0 e))

      found : Below none c (A.chain p) s
      found = below wide A p d c (A.chain p) s (i.wf.good p) x.finds n

      there : Mapping b m A c (addr b found.sees.vp) p found.sees
      there =
          let a = above wide A p none c (A.chain p) found.sees (i.wf.good p) found.finds in
          let e : A.maps c found.sees.vp ≡ some p = ap₂ A.maps (sym a.part) a.vp ∙ a.hop_good.mapped in
          mapping-at wide m i c found.sees.vp p found.sees child.0 e found.finds refl

      only : (u : ℕ) → MappedFrom v c u → u ≡ addr b found.sees.vp
      only u k =
          let y = mapping-there wide m i c u child.0 k.0.virtual k.1.0 in
          let f = down (Partition.lent b m d v) c u named k.0 k.1.0 in
          let q : y.0 ≡ p = sym y.2.page ∙ f.page ∙ ap (λ (z : ℕ). Geometry.page_of b (Partition.mapping b m d z)) k.1.1 ∙ x.page in
          let w : y.1 ≡ found.sees = some_inj (sym y.2.finds ∙ ap (λ (z : ℕ). seek none c (A.chain z)) q ∙ found.finds) in
          sym (virtual-back wide u k.0.virtual) ∙ ap (addr b) (sym y.2.at ∙ ap (λ (z : Seen). z.vp) w)

      back_one : One (MappedFrom v c)
      back_one = (
        addr b found.sees.vp,
        (has-at wide m i c found.sees.vp p found.sees child.0 there, (there.present, there.above ∙ ap (addr b) (found.up ∙ x.at) ∙ virtual-back wide v h.virtual)),
        only,
      )

    back : (v : ℕ) → Has b m d v → Lent b m d v → (c : ℕ) × Child b m d (Partition.lent b m d v) c × One (MappedFrom v c)
    unfolding lent_word
    back v h k =
        let y = mapping-there wide m i d v l h.virtual k.0 in
        go y.0 y.1 y.2 y.1.below refl
      where
        go : (p : ℕ) (s : Seen) → Mapping b m A d v p s → (o : Option ℕ) → s.below ≡ o → (c : ℕ) × Child b m d (Partition.lent b m d v) c × One (MappedFrom v c)
        go p s x none e = absurd (omega (arith, k.1, own-small (A.role p), x.lent ∙ ap (lent_word b A (A.role p)) e))
        go p s x (some c) e = (c, named v p c s x e h, back_one v p c s x e h)

  pub sound-lending : (k d : ℕ) → InTree b m k d → Lending b m d
  sound-lending k d t =
      let l : A.role d ≡ desc = in_tree-live wide m i k d t in
      record { down = λ v c x u h n. down d l v c u x h n; back = back d l }
