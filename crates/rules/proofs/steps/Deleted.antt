-- What delete_partition leaves of the pages that come back from the child. Assumes an index width of 6 or more.
use mathlib.Core.Path.{◌≡◌, refl, sym, ap, ◌∙◌, subst}
use mathlib.Core.Logic.{◌≢◌, ◌⊎◌, inl, inr}
use mathlib.Core.List.{List}
use mathlib.Core.Option.{some}
use mathlib.Core.Bool.{Bool, true, false, not, ◌&&◌, ◌||◌}
use Prim.Native.Nat.{ℕ, ◌≤◌, ◌<◌}
use borrow.Author.Tests.{eq-eqb, ne_eqb}
use Rattle.memory.specs.Geometry
use Rattle.memory.specs.Words as Mem
use native.Mathlib.Omega.{arith}
use lib.Dec.{eqb}
use Rattle.memory.specs.Entry.{present, accessible, write_right, holds}
use Rattle.memory.specs.Partition
use Rattle.memory.specs.Uses.{KernelPage}
use Rattle.memory.specs.Sound.{KernelAddress}
use Rattle.rules.specs.Call.{delete_partition}
use Rattle.rules.specs.Conditions
use Rattle.rules.specs.Refusals.{refusal}
use Rattle.rules.specs.Effects.{delete, effect}
use Rattle.rules.specs.Row.{pass}
use Rattle.rules.specs.Calls.{after}
use Rattle.rules.specs.Deleted.{LentTo, Wiped, Deleted}
use Rattle.rules.proofs.model.Words.{W, addr, word, page_of, acc_of, page_of-addr}
use Rattle.rules.proofs.model.Abs.{pt, s1, head_v, Owner, is_hand, cell}
use Rattle.rules.proofs.model.Read.{root_page, entry_at, entry-is}
use Rattle.rules.proofs.model.Inv.{Inv, named, live}
use Rattle.rules.proofs.model.Listing.{page_at}
use Rattle.rules.proofs.sound.Views.{owner-kernel}
use Rattle.rules.proofs.sound.Words.{virtual-fits, maps-fits, mapping_of}
use Rattle.rules.proofs.sound.Pages.{five_page, five-owner, five-virtual, pairs-are, listed-owner, listed-virtual}
use Rattle.rules.proofs.sound.Uses.{kernel-page, kernel-shut}
use Rattle.rules.proofs.steps.Delete.{cut}
use Rattle.rules.proofs.steps.DelWords.{choose, Back, back, mapped-lt}
use Rattle.rules.proofs.steps.DelSteps as Steps
use Rattle.rules.proofs.steps.DelLent.{lent-gone, word-lent, place}
use Rattle.rules.proofs.steps.DelKernel.{own_back}
use Rattle.rules.proofs.steps.KeepDelete.{Deleting, deleting, deleted, deleted-words}

or-true : (s : Bool) → (s || true) ≡ true
or-true true = refl
or-true false = refl

module _ {b : ℕ} (wide : 6 ≤ b) (m : List ℕ) (i : Inv b m) (c : ℕ) (passes : refusal b m (delete_partition c) ≡ 0) where
  open named b i use {N, fl, f, A}

  abbrev o : ℕ
  o = Partition.current b m

  x : Deleting wide m i c
  x = deleting wide m i c passes

  abbrev D : ℕ
  D = x.child

  abbrev entry : ℕ → ℕ
  entry v = Partition.mapping b m o v

  abbrev left : List ℕ
  left = after b m (delete_partition c)

  -- the page at v comes back
  record Comes (v : ℕ) : Type 0 where
    page : ℕ
    is : Back wide N fl f A i.wf o D x.pre page
    at : page_of b v ≡ is.hop.vp

  -- ---- which pages come back

  lent-comes : (v : ℕ) → LentTo b m c v → Comes v
  unfolding entry_at root_page page_of
  lent-comes v (h, l) =
      let read = entry-is wide N fl A i.wf f m i.words s1 o (page_of b v) (live wide m i) (virtual-fits wide v h) in
      let (p, maps, t) = word-lent wide N fl f A i.wf o D x.pre (page_of b v) (sym read ∙ l ∙ sym x.at) in
      let k = back wide N fl f A i.wf o D x.pre p (lent-gone wide N fl f A i.wf o D x.pre p t) in
      record { page = p; is = k; at = place wide N fl f A i.wf o D x.pre p (page_of b v) t maps ∙ ap head_v k.is }

  owned-comes : (v q : ℕ) → addr b (head_v (A.chain q)) ≡ v → Owner (A.role q) q D → Comes v
  owned-comes v q e w =
      let k = own_back wide N fl f A i.wf o D x.pre q w in
      record { page = q; is = k.back; at = ap (page_of b) (sym e) ∙ page_of-addr wide (head_v (A.chain q)) ∙ ap head_v k.is }

  child-is : Conditions.child b m c ≡ D
  unfolding entry_at root_page page_of
  child-is = ap (λ (v : ℕ). page_of b (entry_at b m pt o v)) (ap (page_of b) (sym x.at) ∙ page_of-addr wide (head_v (A.chain D))) ∙ x.is

  -- a kernel page of the child
  record Own (v : ℕ) : Type 0 where
    page : ℕ
    at : addr b (head_v (A.chain page)) ≡ v
    owner : Owner (A.role page) page D

  own_of : (v : ℕ) → KernelAddress b m D v → Own v
  own_of v (inl (j, n, e)) = record {
    page = five_page A D j;
    at = sym (five-virtual wide m i D x.pre.child j n) ∙ e;
    owner = five-owner wide m i D x.pre.child j n;
  }
  own_of v (inr (j, n, e)) =
      let k = pairs-are wide m i D x.pre.child j n in
      record {
        page = page_at (A.threes D) j;
        at = sym (listed-virtual wide m i D x.pre.child j k) ∙ e;
        owner = listed-owner wide m i D x.pre.child j k;
      }

  own : (v : ℕ) → KernelAddress b m (Conditions.child b m c) v → Own v
  own v k = own_of v (subst (λ (d : ℕ). KernelAddress b m d v) child-is k)

  comes : (v : ℕ) → LentTo b m c v ⊎ KernelAddress b m (Conditions.child b m c) v → Comes v
  comes v (inl l) = lent-comes v l
  comes v (inr k) = let y = own v k in owned-comes v y.page y.at y.owner

  -- ---- their words

  module _ (v : ℕ) (k : Comes v) where
    maps : A.maps o (page_of b v) ≡ some k.page
    maps = ap (A.maps o) k.at ∙ Steps.at-A wide N fl f A i.wf o D x.pre k.page k.is (λ q. false)

    page-is : Geometry.page_of b (entry v) ≡ k.page
    page-is = let (s, finds, vp) = i.wf.seen o (page_of b v) k.page maps in (mapping_of wide m i o v k.page s (live wide m i) maps finds vp).page

    abbrev wiped : Bool
    wiped = not (is_hand (A.role k.page)) || holds write_right (entry v)

    wiped-is : Steps.Wiped wide N fl f A i.wf o D x.pre k.page ≡ wiped
    unfolding entry_at root_page page_of
    wiped-is =
        let fits = maps-fits wide m i o (page_of b v) k.page (live wide m i) maps in
        let e : cell b A pt o (head_v (cut D (A.chain k.page))) ≡ entry v =
        ap (cell b A pt o) (ap head_v k.is.is ∙ sym k.at)
        ∙ sym (entry-is wide N fl A i.wf f m i.words pt o (page_of b v) (live wide m i) fits) in
        ap (λ (w : ℕ). not (is_hand (A.role k.page)) || holds write_right w) e

    after_is : left ≡ delete b m o (addr b (head_v (A.chain D)))
    unfolding after pass effect
    after_is = ap (λ (n : ℕ). pass n (delete b m o c) m) passes ∙ ap (delete b m o) (sym x.at)

    words : (j : ℕ) → j < Geometry.page_words b
        → Mem.word b left (Geometry.page_of b (entry v)) j ≡ choose wiped 0 (Mem.word b m (Geometry.page_of b (entry v)) j)
    unfolding word W
    words j l =
        rw (after_is, page-is) (deleted-words wide N fl f m A i.wf i.words o D x.pre x.is k.page j k.is.not_kept
        (mapped-lt wide N fl f A i.wf o D x.pre o (page_of b v) k.page maps) l
        ∙ ap (λ (t : Bool). choose t 0 (word b m k.page j)) wiped-is)

    -- by whether the page is wiped
    become : {t : Bool} → wiped ≡ t → (j : ℕ) → j < Geometry.page_words b
        → Mem.word b left (Geometry.page_of b (entry v)) j ≡ choose t 0 (Mem.word b m (Geometry.page_of b (entry v)) j)
    become e j l = words j l ∙ ap (λ (t : Bool). choose t 0 (Mem.word b m (Geometry.page_of b (entry v)) j)) e

    in-hand : Partition.in_hand b left o v ≡ true
    unfolding entry_at root_page page_of acc_of
    in-hand =
        let (a, z) = Steps.hand-now wide N fl f A i.wf o D x.pre k.page k.is (λ q. false) left
        (rw after_is (deleted wide N fl f m A i.wf i.words o D x.pre x.is)) in
        let a' : accessible (Partition.mapping b left o v) ≡ 1 = ap (λ (u : ℕ). acc_of (entry_at b left pt o u)) k.at ∙ a in
        let z' : Partition.lent b left o v ≡ 0 = ap (λ (u : ℕ). entry_at b left s1 o u) k.at ∙ z in
        there (Partition.mapping b left o v) (Partition.lent b left o v) a' z'
      where
        there : (w s : ℕ) → accessible w ≡ 1 → s ≡ 0 → (present w && eqb (accessible w) 1 && eqb s 0) ≡ true
        there w s a z = rw (ne_eqb w 0 (λ e. absurd (omega (arith, sym a ∙ ap accessible e))), eq-eqb (accessible w) 1 a, eq-eqb s 0 z) refl

  -- ---- the whole

  shut-zero : (v : ℕ) (k : Comes v) → is_hand (A.role k.page) ≡ false → Wiped b m c (Geometry.page_of b (entry v))
  unfolding choose
  shut-zero v k h = become v k (ap (λ (t : Bool). not t || holds write_right (entry v)) h)

  pub deleted-pages : Deleted b m c
  unfolding choose owned-comes
  deleted-pages = record {
    written = λ v l w. let k = lent-comes v l in
        become v k (ap (λ (t : Bool). not (is_hand (A.role k.page)) || t) w ∙ or-true (not (is_hand (A.role k.page))));
    kernel = λ v l p. let k = lent-comes v l in shut-zero v k (kernel-shut wide m i k.page (subst (KernelPage b m) (page-is v k) p));
    kept = λ v l w p. let k = lent-comes v l in become v k (unwiped v k w p);
    own = λ v l. let y = own v l in shut-zero v (owned-comes v y.page y.at y.owner) (owner-kernel (A.role y.page) y.page D y.owner);
    in_hand = λ v l. in-hand v (comes v l);
  }
    where
      unwiped : (v : ℕ) (k : Comes v) → holds write_right (entry v) ≢ true → ¬ KernelPage b m (Geometry.page_of b (entry v)) → wiped v k ≡ false
      unwiped v k w p = go (is_hand (A.role k.page)) refl (holds write_right (entry v)) refl
        where
          go : (h : Bool) → is_hand (A.role k.page) ≡ h → (t : Bool) → holds write_right (entry v) ≡ t → wiped v k ≡ false
          go false e t q = absurd (p (subst (KernelPage b m) (sym (page-is v k)) (kernel-page wide m i k.page e)))
          go true e true q = absurd (w q)
          go true e false q = rw (e, q) refl
