-- The root: it maps each flat page at one address, and its kernel pages lie before the flat pages. Assumes, for the kernel pages, that a page has room
-- for a list of ten threes.
use mathlib.Core.Path.{◌≡◌, refl, sym, ap, ◌∙◌}
use mathlib.Core.List.{List}
use mathlib.Core.Logic.{◌≢◌}
use Prim.Native.Nat.{ℕ, zero, suc, ◌+◌, ◌*◌, ◌/◌, ◌%◌, ◌≤◌, ◌<◌}
use native.Mathlib.Omega.{arith}
use native.Mathlib.Decide.{dec_lt}
use lib.ListN.{get_or}
use borrow.Author.Tests.{eq-eqb, ne_eqb, le-leb}
use Rattle.memory.specs.Geometry.{page_words, address, page_of, threes_for, flat_pages}
use Rattle.memory.specs.Words.{word}
use Rattle.memory.specs.Format.{format_word, root_list_word}
use Rattle.memory.specs.Partition.{pages, list, parent, threes, mapping}
use Rattle.memory.specs.Tree.{Has}
use Rattle.memory.specs.Uses.{five_pages}
use Rattle.memory.specs.Sound as S
use Rattle.memory.proofs.Geometry.{page-address}

-- the second word of pair j of the root's list is the page behind the five and the pairs before
list-word : (b n j : ℕ) → j < 3 * threes_for b n → root_list_word b n (2 + 2 * j) ≡ address b (5 + (2 + 2 * j) / 2)
list-word b n j h =
    rw (ne_eqb (2 + 2 * j) 0 (λ e. omega (arith, e)))
    (rw (eq-eqb ((2 + 2 * j) % 2) 0 (omega arith))
    (rw (le-leb (2 + 2 * j) (6 * threes_for b n) (omega arith)) refl))

module _ (b : ℕ) (m : List ℕ) (r : S.Root b m) where
  -- the root maps at v the flat page of that number
  pub root-flat : (v : ℕ) → Has b m 1 v → mapping b m 1 v ≢ 0 → (0 < page_of b v) × (page_of b (mapping b m 1 v) ≡ 5 + 3 * threes_for b (pages b m) + page_of b v)
  root-flat v h n = elim (dec_lt 0 (page_of b v)) [
    | yes p ↦ elim (dec_lt (flat_pages b (pages b m)) (page_of b v)) [
      | yes q ↦ absurd (n (r.only v h (λ (x, y). omega arith)))
      | no q ↦ (p, (r.maps v h (omega arith, omega arith)).0)
    ]
    | no p ↦ absurd (n (r.only v h (λ (x, y). omega arith)))
  ]

  pub root-place : (u v : ℕ) → Has b m 1 u → Has b m 1 v → mapping b m 1 u ≢ 0 → mapping b m 1 v ≢ 0
      → page_of b (mapping b m 1 u) ≡ page_of b (mapping b m 1 v) → u ≡ v
  root-place u v h i n o e =
      let q : page_of b u ≡ page_of b v = omega (arith, root-flat u h n, root-flat v i o, e) in
      sym h.virtual.0 ∙ ap (address b) q ∙ i.virtual.0

  module _ (big : 61 ≤ page_words b) where
    root-page : (i k : ℕ) → i < 12 → format_word b (pages b m) 1 i ≡ address b k → page_of b (word b m 1 i) ≡ k
    root-page i k h e = ap (page_of b) (r.five 0 (omega arith) i (omega arith) (λ (x, y). omega arith) ∙ e) ∙ page-address b k

    pub root-parent : parent b m 1 ≡ 0
    unfolding format_word
    root-parent = root-page 11 0 (omega arith) (omega arith)

    -- the five pages of its descriptor
    pub root-own : (j : ℕ) → j < 5 → page_of b (word b m 1 (2 * j + 1)) ≡ suc j
    unfolding format_word
    root-own zero h = root-page 1 1 (omega arith) refl
    root-own (suc zero) h = root-page 3 2 (omega arith) refl
    root-own (suc (suc zero)) h = root-page 5 3 (omega arith) refl
    root-own (suc (suc (suc zero))) h = root-page 7 4 (omega arith) refl
    root-own (suc (suc (suc (suc zero)))) h = root-page 9 5 (omega arith) refl
    root-own (suc (suc (suc (suc (suc j))))) h = absurd (omega arith)

    pub root-five : (j : ℕ) → j < 5 → get_or (five_pages b m 1) j 0 ≡ suc j
    root-five zero h = refl
    root-five (suc zero) h = root-own 1 h
    root-five (suc (suc zero)) h = root-own 2 h
    root-five (suc (suc (suc zero))) h = root-own 3 h
    root-five (suc (suc (suc (suc zero)))) h = root-own 4 h
    root-five (suc (suc (suc (suc (suc j))))) h = absurd (omega arith)

    -- the words of its list, and the pages there
    root-list : (i : ℕ) → i < 61 → word b m (list b m 1) i ≡ format_word b (pages b m) 5 i
    root-list i h = ap (λ (p : ℕ). word b m p i) (root-own 4 (omega arith)) ∙ r.five 4 (omega arith) i (omega arith) (λ (x, y). omega arith)

    module _ (l : S.ListForm b m 1) where
      pub root-threes : threes b m 1 ≡ threes_for b (pages b m)
      unfolding format_word
      root-threes =
          let e : word b m (list b m 1) 0 ≡ 1 + 6 * threes_for b (pages b m) = root-list 0 (omega arith) in
          omega (arith, e, l.free)

      pub root-listed : (j : ℕ) → j < 3 * threes b m 1 → page_of b (word b m (list b m 1) (2 + 2 * j)) ≡ 6 + j
      unfolding format_word
      root-listed j h =
          let few : threes b m 1 ≤ 10 = l.few in
          let n : j < 3 * threes_for b (pages b m) = omega (arith, root-threes) in
          let q : page_of b (word b m (list b m 1) (2 + 2 * j)) ≡ 5 + (2 + 2 * j) / 2 =
          ap (page_of b) (root-list (2 + 2 * j) (omega arith) ∙ list-word b (pages b m) j n) ∙ page-address b (5 + (2 + 2 * j) / 2) in
          omega (arith, q)
