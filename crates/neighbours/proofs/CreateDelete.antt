-- create_partition and delete_partition in both memories: what they leave agrees again on what B sees. Assumes an index width of 6 or more.
use mathlib.Core.Path.{◌≡◌, refl, sym, ap, subst}
use mathlib.Core.List.{List, [], ◌∷◌, ◌++◌}
use Prim.Native.Nat.{ℕ, zero, suc, ◌+◌, ◌-◌, ◌*◌, ◌≤◌, ◌<◌}
use native.Mathlib.Omega.{arith}
use borrow.Author.Tests.{eqb-true, not-false}
use lib.Dec.{eqb}
use lib.ListN.{length, take, drop}
use Rattle.memory.specs.Geometry
use Rattle.memory.specs.Words as Mem
use Rattle.memory.specs.Entry.{accessible}
use Rattle.memory.specs.Partition.{current, mapping, lent, set_lent}
use Rattle.memory.specs.Tree.{Virtual, Child}
use Rattle.rules.specs.Call.{create_partition, delete_partition}
use Rattle.rules.specs.Moves.{take_all, return_all, return_page, pairs}
use Rattle.rules.specs.Conditions
use Rattle.rules.specs.Refusals.{refusals, refusal}
use Rattle.rules.specs.Effects.{evens, create, release, release_all, delete, kernel_addresses, effect}
use Rattle.rules.proofs.Rows.{passed}
use Rattle.rules.proofs.model.Words.{W, words, put, addr, page_of, twelve-lt, sixty_one, idx-below}
use Rattle.rules.proofs.model.Abs.{s1}
use Rattle.rules.proofs.model.Read.{root_page, entry_at}
use Rattle.rules.proofs.model.Inv.{named}
use Rattle.rules.proofs.sound.Words.{virtual-fits, virtual-addr}
use Rattle.rules.proofs.sound.Pages.{head-virtual}
use Rattle.rules.proofs.steps.DelKernel.{places, kernel_pages, kernel-is}
use Rattle.rules.proofs.steps.Checks.{Each}
use Rattle.neighbours.proofs.Twin.{Twin, inv₁, live₁}
use Rattle.neighbours.proofs.Near.{Near, near-start, between-caller, both-mapped, near-entry, near-put, near-fill, near-lent}
use Rattle.neighbours.proofs.TakeReturn.{near-cond, mapping-now, near_return, near-take_all, near-return_all}
use Rattle.neighbours.proofs.Lookups.{good-virtual, good_virtuals, cur-mapping, child-is, child-within, child-words, child-own, child-listed}

module _ {b B : ℕ} {m n : List ℕ} (t : Twin b B m n) where
  open t use {wide, same}

  -- the caller, and the page that it maps at v
  abbrev c : ℕ
  c = current b m

  abbrev at : ℕ → ℕ
  at v = Geometry.page_of b (mapping b m c v)

  -- ---- create_partition

  pairs-same : (vs : List ℕ) → Each (Virtual b) vs → pairs b m c vs ≡ pairs b n (current b n) vs
  pairs-same [] h = refl
  pairs-same (v ∷ vs) h =
      let e = cur-mapping t v (virtual-fits wide v h.0) in
      λ s. v ∷ Geometry.address b (Geometry.page_of b (e s)) ∷ pairs-same vs h.1 s

  -- five pages taken, the words ws on page q, word 0 of page r 1, and the shadow 1 word at p 1
  abbrev made : List ℕ → (d : ℕ) → List ℕ → (q : ℕ) → List ℕ → (r p : ℕ) → List ℕ
  made l d vs q ws r p = set_lent b (Mem.put b (Mem.fill b (take_all b l d vs) q ws) r 0 1) d p 1

  near-made : (vs : List ℕ) (p l : ℕ) (ws : List ℕ) → Each (Virtual b) vs → Virtual b p → Virtual b l → length ws ≤ W b
      → Near t (made m c vs (at p) ws (at l) p) (made n c vs (at p) ws (at l) p)
  unfolding put
  near-made vs p l ws h hp hl g =
      let taken = near-take_all t vs (near-start t) h in
      let filled = near-fill t taken (at p) ws g (both-mapped t p (virtual-fits wide p hp)) in
      let begun = near-put t filled (at l) 0 1 (twelve-lt wide 0 (omega arith)) (both-mapped t l (virtual-fits wide l hl)) in
      near-lent t begun p 1 hp

  pub near-create : (p d s v l : ℕ) → refusal b m (create_partition p d s v l) ≡ 0
      → Near t (effect b m (create_partition p d s v l)) (effect b n (create_partition p d s v l))
  unfolding refusals effect create
  near-create p d s v l e =
      let vs : List ℕ = p ∷ d ∷ s ∷ v ∷ l ∷ [] in
      let h : Each (Virtual b) vs = good_virtuals wide vs (passed _ e).1.0 in
      let (hp, (hd, (hs, (hv, (hl, end))))) = h in
      let p-same = cur-mapping t p (virtual-fits wide p hp) in
      let l-same = cur-mapping t l (virtual-fits wide l hl) in
      let w-same = pairs-same vs h in
      subst (Near t (effect b m (create_partition p d s v l)))
      (λ z. made n (same z) vs (Geometry.page_of b (p-same z)) (w-same z ++ (0 ∷ Geometry.address b (same z) ∷ [])) (Geometry.page_of b (l-same z)) p)
      (near-made vs p l (pairs b m c vs ++ (0 ∷ Geometry.address b c ∷ [])) h hp hl (omega (arith, sixty_one wide)))

  -- ---- deletePartition: the pages lent to the child

  module _ {m₁ n₁ : List ℕ} (near : Near t m₁ n₁) (v : ℕ) (h : Virtual b v) where
    lent-now : lent b m₁ c v ≡ lent b n₁ c v
    unfolding entry_at root_page page_of
    lent-now = near-entry t near s1 (between-caller t) (page_of b v) (virtual-fits wide v h)

    near-release : Near t (release b m₁ c v) (release b n₁ c v)
    near-release =
        let z = near_return t (near-lent t near v 0 h) v h (eqb (accessible (mapping b m₁ c v)) 0) in
        subst (λ (w : ℕ). Near t (release b m₁ c v) (return_page b (eqb (accessible w) 0) (set_lent b n₁ c v 0) c v)) (mapping-now t near v h) z

  page-virtual : (x : ℕ) → x < words b → Virtual b (Geometry.address b x)
  unfolding addr
  page-virtual x l = virtual-addr wide x (idx-below wide x l)

  near-release_all : (k x : ℕ) → x + k ≤ words b → {m₁ n₁ : List ℕ} → Near t m₁ n₁ → (u : ℕ)
      → Near t (release_all b k x m₁ c u) (release_all b k x n₁ c u)
  unfolding release_all
  near-release_all zero x l near u = near
  near-release_all (suc k) x l near u =
      let v : ℕ = Geometry.address b x in
      let h : Virtual b v = page-virtual x (omega arith) in
      let one = near-cond t _ _ (ap (λ (w : ℕ). eqb w u) (lent-now near v h)) (near-release near v h) near in
      near-release_all k (suc x) (omega arith) one u

  -- ---- the addresses of the child's kernel pages

  open named b (inv₁ t) use {N, fl, f, A}

  places-virtual : (qs : List ℕ) → Each (Virtual b) (places b A.chain qs)
  places-virtual [] = tt
  places-virtual (q ∷ qs) = (head-virtual wide m (inv₁ t) q, places-virtual qs)

  module _ {u k : ℕ} (a : Child b m c u k) where
    kernel-virtual : Each (Virtual b) (kernel_addresses b m k)
    kernel-virtual =
        let l = live₁ t (child-within t a) in
        let is = kernel-is wide N fl f m A (inv₁ t).wf (inv₁ t).words k l in
        subst (Each (Virtual b)) (sym is) (places-virtual (kernel_pages wide N fl f m A (inv₁ t).wf (inv₁ t).words k l))

    kernel-same : kernel_addresses b m k ≡ kernel_addresses b n (Conditions.child b n u)
    kernel-same =
        let own = child-own t a in
        let free = child-words t a 0 (omega arith) in
        let page = child-listed t a in
        λ z. evens (take 10 (own z)) ++ evens (take (free z - 1) (drop 1 (page z)))

  -- ---- all of it: the lent pages released, the shadow 1 word at u cleared, the kernel pages returned

  abbrev all : ℕ
  all = Geometry.page_words b * Geometry.page_words b

  abbrev deleted : List ℕ → (d u : ℕ) → List ℕ → List ℕ
  deleted l d u vs = return_all b (set_lent b (release_all b all 0 l d u) d u 0) d vs

  pub near-delete : (u : ℕ) → refusal b m (delete_partition u) ≡ 0 → Near t (effect b m (delete_partition u)) (effect b n (delete_partition u))
  unfolding refusals effect delete
  near-delete u e =
      let (whole, (gu, (no_child, end))) = passed _ e in
      let h = good-virtual wide u gu in
      let a = child-is t u h (eqb-true _ _ (not-false _ no_child)) in
      let released = near-release_all all 0 every (near-start t) u in
      subst (Near t (effect b m (delete_partition u))) (λ z. deleted n (same z) u (kernel-same a z))
      (near-return_all t (kernel_addresses b m (Conditions.child b m u)) (near-lent t released u 0 h) (kernel-virtual a))
    where
      every : 0 + all ≤ words b
      every = unfold words in (omega arith)
