-- The calls that pass their checks keep the invariant: on the words, with virtual pages as numbers.
use mathlib.Core.Path.{◌≡◌, refl, sym, ap, ◌∙◌}
use mathlib.Core.Logic.{◌≢◌}
use mathlib.Core.Bool.{Bool, true, false}
use mathlib.Core.List.{List}
use Prim.Native.Nat.{ℕ, ◌≤◌, ◌<◌}
use native.Mathlib.Omega.{arith}
use Rattle.memory.specs.Geometry.{most_flag, threes_for}
use Rattle.memory.specs.Partition.{current}
use Rattle.rules.proofs.model.Base.{eqd, upd, upd_same, upd_other}
use Rattle.rules.proofs.model.Words.{W, addr, put, idx, page_of, acc_of, acc_of-pte, bit}
use Rattle.rules.proofs.model.Abs.{Kind, pt, s1, hand, desc, Three, Abs, is_hand}
use Rattle.rules.proofs.model.Facts.{is-hand}
use Rattle.rules.proofs.model.Read.{entry_at}
use Rattle.rules.proofs.steps.Add.{add_a}
use Rattle.rules.proofs.steps.AddWords.{add_m, AddChecks, add_words}
use Rattle.rules.proofs.steps.Remove.{rem_a, rem_m, RemChecks, rem_words}
use Rattle.rules.proofs.steps.Create.{create_m, CreateChecks, create-words, create-root, no-blank-left}
use Rattle.rules.proofs.sound.Views.{sees, Sees, child-is}
use Rattle.rules.proofs.steps.Move.{set_cur, free-put, live-wf, cur-words}
use Rattle.rules.proofs.model.Inv.{RootKept, Inv, named, moved, live}

bit-true : (a : Bool) → bit a ≡ 1 → a ≡ true
bit-true true e = refl
bit-true false e = absurd (omega arith)

module _ {b : ℕ} (wide : 6 ≤ b) (m : List ℕ) (i : Inv b m) where
  open named b i use {N, fl, f, A}

  -- a state with the root's pages as they were
  kept : {B : Abs} → B.rootp ≡ A.rootp → B.lstp ≡ A.lstp → B.threes ≡ A.threes → RootKept N (threes_for b N) B
  kept p q r = record {
    roots = λ k. ap (λ (g : Kind → ℕ → ℕ). g k 1) p ∙ i.root.roots k;
    list = ap (λ (g : ℕ → ℕ). g 1) q ∙ i.root.list;
    threes = ap (λ (g : ℕ → List Three). g 1) r ∙ i.root.threes;
  }

  -- a flag set to a number that it may have
  flag-below : (D x d : ℕ) → x ≤ most_flag b → upd A.vcli D x d ≤ most_flag b
  flag-below D x d l = go (eqd d D)
    where
      go : Dec (d ≡ D) → upd A.vcli D x d ≤ most_flag b
      go (yes e) = rw (e, upd_same A.vcli D x) l
      go (no n) = rw (upd_other A.vcli D x d n) (i.flags d)

  pub inv-add : (v c t r : ℕ) → AddChecks b m (current b m) v c t r → Inv b (add_m b m (current b m) v c t r)
  inv-add v c t r ck =
      let x = add_words wide N fl f m A i.wf i.words (current b m) (live wide m i) v c t r ck in
      moved b i _ (add_a A x.0 x.1 t r) x.3 i.full (kept refl refl refl) i.flags x.4

  pub inv-remove : (c t : ℕ) → RemChecks b m (current b m) c t → Inv b (rem_m b m (current b m) c t)
  inv-remove c t ck =
      let x = rem_words wide N fl f m A i.wf i.words (current b m) (live wide m i) c t ck in
      moved b i _ (rem_a A x.0.p x.0.c t x.0.hop x.0.rest) x.1 i.full (kept refl refl refl) i.flags x.2

  pub inv-create : (v : ℕ) (vr : Kind → ℕ) (w : ℕ) → CreateChecks b m (current b m) v vr w → Inv b (create_m b m (current b m) v vr w)
  inv-create v vr w ck =
      let x = create-words wide N fl f m A i.wf i.words (current b m) (live wide m i) v vr w ck in
      let n = no-blank-left wide N fl f m A i.wf i.words (current b m) (live wide m i) v vr w ck i.full in
      let r = create-root wide N fl f m A i.wf i.words (current b m) (live wide m i) v vr w ck in
      moved b i _ _ x.0 n (record { roots = λ k. r.0 k ∙ i.root.roots k; list = r.1 ∙ i.root.list; threes = r.2 ∙ i.root.threes })
      (λ d. flag-below _ 0 d (omega arith)) x.1

  -- a page that a partition maps accessible is in somebody's hand
  pub hand-page : (d v : ℕ) → A.role d ≡ desc → idx b v < W b → entry_at b m pt d v ≢ 0 → acc_of (entry_at b m pt d v) ≡ 1
      → A.role (page_of b (entry_at b m pt d v)) ≡ hand
  hand-page d v l β n a =
      let s : Sees wide N fl f m A i.wf i.words d v = sees wide N fl f m A i.wf i.words d v l β n in
      let u = is_hand (A.role s.x.page) in
      let h : bit u ≡ 1 = sym (acc_of-pte wide s.x.page u s.x.sees.rt s.small) ∙ sym (ap acc_of s.word) ∙ a in
      ap A.role s.page ∙ is-hand (A.role s.x.page) (bit-true (is_hand (A.role s.x.page)) h)

  pub inv-store : (v j x : ℕ) → idx b v < W b → j < W b → entry_at b m pt (current b m) v ≢ 0 → acc_of (entry_at b m pt (current b m) v) ≡ 1 → Inv b (put b m (page_of b (entry_at b m pt (current b m) v)) j x)
  inv-store v j x β c n a =
      let r : A.role (page_of b (entry_at b m pt (current b m) v)) ≡ hand = hand-page (current b m) v (live wide m i) β n a in
      moved b i _ A i.wf i.full i.root i.flags (free-put wide N fl f m A i.wf i.words (page_of b (entry_at b m pt (current b m) v)) j x c r)

  pub inv-move : (d : ℕ) → A.role d ≡ desc → Inv b (put b m 0 4 (addr b d))
  inv-move d l =
      moved b i _ (set_cur A d) (live-wf wide N fl f m A i.wf i.words A.vcli d l) i.full (kept refl refl refl) i.flags
      (cur-words wide N fl f m A i.wf i.words d)

  pub inv-enter : (v : ℕ) → idx b v < W b → entry_at b m s1 (current b m) v ≡ 1 → Inv b (put b m 0 4 (addr b (page_of b (entry_at b m pt (current b m) v))))
  inv-enter v l e = inv-move (page_of b (entry_at b m pt (current b m) v)) (child-is wide N fl f m A i.wf i.words (current b m) v (live wide m i) l e).0
