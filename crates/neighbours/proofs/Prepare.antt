-- prepare in both memories: what it leaves agrees again on what B sees. Assumes an index width of 6 or more.
use mathlib.Core.Path.{◌≡◌, refl, ap, ◌∙◌, subst}
use mathlib.Core.List.{List, [], ◌∷◌}
use mathlib.Core.Bool.{false}
use Prim.Native.Nat.{ℕ, ◌+◌, ◌*◌, ◌≤◌, ◌<◌}
use native.Mathlib.Omega.{arith}
use Rattle.memory.specs.Geometry
use Rattle.memory.specs.Words as Mem
use Rattle.memory.specs.Partition.{current, list, threes, mapping}
use Rattle.memory.specs.Tree.{Virtual, Child}
use Rattle.rules.specs.Call.{prepare}
use Rattle.rules.specs.Moves.{take_all}
use Rattle.rules.specs.Conditions.{not_in_hand, link}
use Rattle.rules.specs.Conditions
use Rattle.rules.specs.Refusals.{refusals, refusal}
use Rattle.rules.specs.Effects.{prepare_three, effect}
use Rattle.rules.proofs.Rows.{passed}
use Rattle.rules.proofs.steps.Reading.{link-same}
use Rattle.rules.proofs.model.Words.{W, put, put_l, twelve-lt, sixty_one}
use Rattle.rules.proofs.model.Abs.{Kind, pt, s1, s2}
use Rattle.rules.proofs.model.Names.{lent_is}
use Rattle.rules.proofs.model.Read.{root_page}
use Rattle.rules.proofs.sound.Words.{virtual-fits}
use Rattle.rules.proofs.steps.ChainChecks.{chained, PrepareChecks, prepare-checks}
use Rattle.neighbours.proofs.Twin.{Twin, forms₁}
use Rattle.neighbours.proofs.Near.{Near, near-start, near-put, near-put_l}
use Rattle.neighbours.proofs.TakeReturn.{near-take_all}
use Rattle.neighbours.proofs.Lookups.{at-virtual, at_place, cur-mapping, child-is, child-within, child-root, child-list, child-words, same_read}
use Rattle.neighbours.proofs.ChildPages.{both-list, rooted, near-rooted}

module _ {b B : ℕ} {m n : List ℕ} (t : Twin b B m n) where
  open t use {wide, same}

  -- the caller
  abbrev c : ℕ
  c = current b m

  abbrev c' : ℕ
  c' = current b n

  -- where a table for address v stands in a directory or a shadow
  abbrev place : ℕ → ℕ
  place v = Geometry.directory_index b (Geometry.page_of b v)

  -- ---- what is written

  -- the pairs that are appended to the list: the addresses v, and the pages of their page table words w
  abbrev pairs_of : (v w : Kind → ℕ) → List ℕ
  pairs_of v w =
      v pt ∷ Geometry.address b (Geometry.page_of b (w pt)) ∷ v s1 ∷ Geometry.address b (Geometry.page_of b (w s1))
      ∷ v s2 ∷ Geometry.address b (Geometry.page_of b (w s2)) ∷ []

  -- the pages at v taken, entered at index x of the child's directory and shadows q, and appended to its list r
  abbrev prepared : List ℕ → (d : ℕ) (q v w : Kind → ℕ) (x r free : ℕ) → List ℕ
  prepared l d q v w x r free =
      let l₁ = rooted b (take_all b l d (v pt ∷ v s1 ∷ v s2 ∷ [])) q x (λ s. Geometry.address b (Geometry.page_of b (w s)) + 1) in
      Mem.put b (Mem.overwrite l₁ (Mem.index b r free) (pairs_of v w)) r 0 (free + 6)

  near-prepared : {u k : ℕ} → Child b m c u k → (v w : Kind → ℕ) → ((s : Kind) → Virtual b (v s)) → (x : ℕ) → x < W b
      → (free : ℕ) → free + 6 ≤ W b
      → Near t (prepared m c (λ s. root_page b m s k) v w x (list b m k) free) (prepared n c (λ s. root_page b m s k) v w x (list b m k) free)
  unfolding put put_l
  near-prepared {u} {k} a v w h x l free g =
      let taken = near-take_all t (v pt ∷ v s1 ∷ v s2 ∷ []) (near-start t) (h pt, (h s1, (h s2, tt))) in
      let entered = near-rooted t a x l taken (λ s. Geometry.address b (Geometry.page_of b (w s)) + 1) in
      let appended = near-put_l t entered (list b m k) free (pairs_of v w) g (both-list t a) in
      near-put t appended (list b m k) 0 (free + 6) (twelve-lt wide 0 (omega arith)) (both-list t a)

  -- ---- a prepare that passes

  module _ (u v p : ℕ) (e : refusal b m (prepare u v p) ≡ 0) where
    checks : PrepareChecks b m u v p
    checks = prepare-checks b m u v p e

    a : Child b m c u (Conditions.child b m u)
    a = child-is t u (at-virtual wide checks.c_at) (lent_is b m c u ∙ checks.child)

    -- the chained pages are the same in both
    in-hand : (not_in_hand b m p ≡ false) × (not_in_hand b m (link b m p) ≡ false)
    unfolding refusals
    in-hand =
        let (whole, (pages, (no_child, (new, (full, (chain₁, (hand₁, (rights₁, (chain₂, (hand₂, rest)))))))))) = passed _ e in
        (hand₁, hand₂)

    chain-virtual : (s : Kind) → Virtual b (chained b m p s)
    chain-virtual s = at-virtual wide (checks.at s)

    second-same : link b m p ≡ link b n p
    second-same = link-same b m n (same_read t) p (chain-virtual pt).1 in-hand.0

    chain_same : (s : Kind) → chained b m p s ≡ chained b n p s
    chain_same pt = refl
    chain_same s1 = second-same
    chain_same s2 = link-same b m n (same_read t) (link b m p) (chain-virtual s1).1 in-hand.1 ∙ ap (link b n) second-same

    chain-mapping : (s : Kind) → mapping b m c (chained b m p s) ≡ mapping b n c' (chained b n p s)
    chain-mapping s = cur-mapping t (chained b m p s) (virtual-fits wide _ (chain-virtual s)) ∙ ap (mapping b n c') (chain_same s)

    pub near-prepare : Near t (effect b m (prepare u v p)) (effect b n (prepare u v p))
    unfolding effect prepare_three root_page
    near-prepare =
        let k : ℕ = Conditions.child b m u in
        let free : ℕ = Mem.word b m (list b m k) 0 in
        let free-is : free ≡ 1 + 6 * threes b m k = (forms₁ t (child-within t a)).list.free in
        let room : free + 6 ≤ W b = omega (arith, free-is, checks.room, sixty_one wide) in
        let free-same = child-words t a 0 (omega arith) in
        let w : Kind → ℕ = λ s. mapping b m c (chained b m p s) in
        subst (Near t (effect b m (prepare u v p)))
        (λ z. prepared n (same z) (λ s. child-root t a s z) (λ s. chain_same s z) (λ s. chain-mapping s z) (place v) (child-list t a z) (free-same z))
        (near-prepared a (chained b m p) w chain-virtual (place v) (at_place wide checks.t_at) free room)
