-- collect in both memories: what it leaves agrees again on what B sees. Assumes an index width of 6 or more.
use mathlib.Core.Path.{◌≡◌, ap, ◌∙◌, subst}
use mathlib.Core.List.{List, [], ◌∷◌}
use mathlib.Core.Bool.{false}
use Prim.Native.Nat.{ℕ, ◌+◌, ◌*◌, ◌≤◌, ◌<◌}
use native.Mathlib.Omega.{arith}
use lib.ListN.{length, get_or, length-set, length-append, length-take, length-drop, length-replicate}
use Rattle.memory.specs.Geometry
use Rattle.memory.specs.Words as Mem
use Rattle.memory.specs.Partition.{current, list, threes, mapping, lent}
use Rattle.memory.specs.Tree.{Virtual, Child}
use Rattle.rules.specs.Call.{collect}
use Rattle.rules.specs.Moves.{return_all}
use Rattle.rules.specs.Conditions.{bad_page}
use Rattle.rules.specs.Conditions
use Rattle.rules.specs.Refusals.{refusals, refusal}
use Rattle.rules.specs.Effects.{three_place, drop_three, collect_three, effect}
use Rattle.rules.proofs.Rows.{passed}
use Rattle.rules.proofs.steps.Reading.{place_of_same}
use Rattle.rules.proofs.model.Words.{W, word, put, twelve-lt, sixty_one}
use Rattle.rules.proofs.model.Abs.{Kind, pt, s1, s2}
use Rattle.rules.proofs.model.Names.{lent_is}
use Rattle.rules.proofs.model.Read.{root_page}
use Rattle.rules.proofs.model.Inv.{Inv, pages-is}
use Rattle.rules.proofs.sound.Words.{virtual-fits, threes-is}
use Rattle.rules.proofs.steps.Checks.{none_of}
use Rattle.rules.proofs.steps.ChainChecks.{CollectChecks, collect-checks}
use Rattle.rules.proofs.steps.CollectPlace.{found}
use Rattle.rules.proofs.steps.CollectEffect.{page-size, page-word}
use Rattle.neighbours.proofs.Twin.{Twin, inv₁, live₁, forms₁, shown-fits, list-shown}
use Rattle.neighbours.proofs.Near.{Near, near-start, both-mapped, near-put, near-fill}
use Rattle.neighbours.proofs.TakeReturn.{near-return_all}
use Rattle.neighbours.proofs.Lookups.{at-virtual, at_place, cur-mapping, child-is, child-within, child-root, child-few}
use Rattle.neighbours.proofs.Lookups.{child-list, child-words, child-listed, same_read}
use Rattle.neighbours.proofs.ChildPages.{both-list, rooted, near-rooted}

-- the list page's words without a three are as many as before
drop-size : (b j : ℕ) (ws : List ℕ) → length ws ≡ W b → 7 + 6 * j ≤ get_or ws 0 0 → get_or ws 0 0 ≤ W b → length (drop_three j ws) ≡ W b
unfolding drop_three
drop-size b j ws e l h = simp (length-set, length-append, length-take, length-drop, length-replicate) (omega arith)

module _ {b B : ℕ} {m n : List ℕ} (t : Twin b B m n) where
  open t use {wide, sound₁, same, depth₁}

  -- the caller
  abbrev c : ℕ
  c = current b m

  abbrev c' : ℕ
  c' = current b n

  -- the page that it maps at v
  abbrev at : ℕ → ℕ
  at v = Geometry.page_of b (mapping b m c v)

  -- where a table for address v stands in a directory or a shadow
  abbrev place : ℕ → ℕ
  place v = Geometry.directory_index b (Geometry.page_of b v)

  first_fits : 0 < W b
  first_fits = twelve-lt wide 0 (omega arith)

  -- ---- what is written

  -- the entries at index x cleared, the words ws on the list page r, the pages at v returned, chained again
  abbrev collected : List ℕ → (d : ℕ) (q : Kind → ℕ) (x r : ℕ) → List ℕ → (v : Kind → ℕ) (p₁ p₂ : ℕ) → List ℕ
  collected l d q x r ws v p₁ p₂ =
      let l₁ = return_all b (Mem.fill b (rooted b l q x (λ s. 0)) r ws) d (v pt ∷ v s1 ∷ v s2 ∷ []) in
      Mem.put b (Mem.put b l₁ p₁ 0 (v s1)) p₂ 0 (v s2)

  near-collected : {u k : ℕ} → Child b m c u k → (x : ℕ) → x < W b → (ws : List ℕ) → length ws ≤ W b
      → (v : Kind → ℕ) → ((s : Kind) → Virtual b (v s))
      → Near t (collected m c (λ s. root_page b m s k) x (list b m k) ws v (at (v pt)) (at (v s1)))
      (collected n c (λ s. root_page b m s k) x (list b m k) ws v (at (v pt)) (at (v s1)))
  unfolding put
  near-collected {u} {k} a x l ws g v h =
      let cleared = near-rooted t a x l (near-start t) (λ s. 0) in
      let filled = near-fill t cleared (list b m k) ws g (both-list t a) in
      let returned = near-return_all t (v pt ∷ v s1 ∷ v s2 ∷ []) filled (h pt, (h s1, (h s2, tt))) in
      let first = near-put t returned (at (v pt)) 0 (v s1) first_fits (both-mapped t (v pt) (virtual-fits wide (v pt) (h pt))) in
      near-put t first (at (v s1)) 0 (v s2) first_fits (both-mapped t (v s1) (virtual-fits wide (v s1) (h s1)))

  -- ---- a collect that passes

  -- where in a three its address of each kind stands
  abbrev address_word : Kind → ℕ
  address_word pt = 1
  address_word s1 = 3
  address_word s2 = 5

  address-word-lt : (s : Kind) → address_word s < 6
  address-word-lt pt = omega arith
  address-word-lt s1 = omega arith
  address-word-lt s2 = omega arith

  module _ (u v : ℕ) (e : refusal b m (collect u v) ≡ 0) where
    -- the child, its list and the three's place in it, in m and in n
    abbrev k : ℕ
    k = Conditions.child b m u

    abbrev k' : ℕ
    k' = Conditions.child b n u

    abbrev r : ℕ
    r = list b m k

    abbrev j : ℕ
    j = three_place b m k v

    abbrev j' : ℕ
    j' = three_place b n k' v

    checks : CollectChecks b m u v
    checks = collect-checks b m u v e

    one : lent b m c u ≡ 1
    one = lent_is b m c u ∙ checks.child

    a : Child b m c u k
    a = child-is t u (at-virtual wide checks.c_at) one

    good : bad_page b u ≡ false
    unfolding refusals
    good = let (whole, (pages, rest)) = passed _ e in (none_of (bad_page b) (u ∷ v ∷ []) pages).0

    -- the three is in the list
    listed : j < threes b m k
    listed =
        let f = found wide m (inv₁ t) u v checks in
        let size = length-append f.split.before (f.three ∷ f.split.after) in
        omega (arith, f.place, ap length f.split.is, size, threes-is wide m (inv₁ t) k (live₁ t (child-within t a)))

    j-same : j ≡ j'
    j-same = place_of_same b m n (same_read t) u good one v (at-virtual wide checks.t_at).1

    -- its addresses are the same in both
    abbrev v_of : Kind → ℕ
    v_of s = Mem.word b m r (address_word s + 6 * j)

    v-virtual : (s : Kind) → Virtual b (v_of s)
    v-virtual s = go s
      where
        pair : (x y : ℕ) → x < 3 → y ≡ 1 + 2 * x → Virtual b (Mem.word b m r (y + 6 * j))
        pair x y h q =
            let z = ((forms₁ t (child-within t a)).list.pairs (3 * j + x) (omega (arith, listed))).0 in
            subst (λ (o : ℕ). Virtual b (Mem.word b m r o)) (omega arith) z

        go : (s : Kind) → Virtual b (v_of s)
        go pt = pair 0 1 (omega arith) (omega arith)
        go s1 = pair 1 3 (omega arith) (omega arith)
        go s2 = pair 2 5 (omega arith) (omega arith)

    v-same : (s : Kind) → v_of s ≡ Mem.word b n (list b n k') (address_word s + 6 * j')
    v-same s =
        child-words t a (address_word s + 6 * j) (omega (arith, listed, address-word-lt s))
        ∙ ap (λ (x : ℕ). Mem.word b n (list b n k') (address_word s + 6 * x)) j-same

    v-mapping : (s : Kind) → mapping b m c (v_of s) ≡ mapping b n c' (Mem.word b n (list b n k') (address_word s + 6 * j'))
    v-mapping s = cur-mapping t (v_of s) (virtual-fits wide (v_of s) (v-virtual s)) ∙ ap (mapping b n c') (v-same s)

    -- the list page without it
    size : length (drop_three j (Mem.page b m r)) ≤ W b
    unfolding word
    size =
        let i : Inv b m = inv₁ t in
        let w = child-within t a in
        let l : r < i.N = omega (arith, shown-fits wide B m sound₁ depth₁ (list-shown w), pages-is wide m i) in
        let free : get_or (Mem.page b m r) 0 0 ≡ 1 + 6 * threes b m k = page-word b m r 0 first_fits ∙ (forms₁ t w).list.free in
        let whole = page-size b i.N m r i.words.sized l in
        omega (arith, drop-size b j (Mem.page b m r) whole (omega (arith, free, listed)) (omega (arith, free, child-few t a, sixty_one wide)))

    pub near-collect : Near t (effect b m (collect u v)) (effect b n (collect u v))
    unfolding effect collect_three root_page
    near-collect =
        subst (Near t (effect b m (collect u v)))
        (λ z. collected n (same z) (λ s. child-root t a s z) (place v) (child-list t a z) (drop_three (j-same z) (child-listed t a z))
        (λ s. v-same s z) (Geometry.page_of b (v-mapping pt z)) (Geometry.page_of b (v-mapping s1 z)))
        (near-collected a (place v) (at_place wide checks.t_at) (drop_three j (Mem.page b m r)) size v_of v-virtual)
