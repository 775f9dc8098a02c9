-- What the count of a block says of its words, and a search past it. Assumes nothing.
use mathlib.Core.Path.{◌≡◌, refl, sym, ap, ◌∙◌}
use mathlib.Core.Logic.{◌≢◌}
use mathlib.Core.List.{List, [], ◌∷◌}
use mathlib.Core.Bool.{Bool, true, false, not, ◌&&◌, false≢true}
use Prim.Native.Nat.{ℕ, zero, suc, ◌+◌, ◌-◌, ◌%◌, ◌≤◌, ◌<◌}
use native.Mathlib.Omega.{arith}
use native.Mathlib.Decide.{ℕ_discrete}
use lib.Dec.{leb, eqb}
use lib.ListN.{length, get_or, take, drop, length-take, length-drop}
use lib.Seq.{get_or-take, get_or-drop}
use borrow.Author.Tests.{eqb-true, eq-eqb, ne_eqb, leb-true, not-false}
use Rattle.walk.specs.Lists.{hit, hit_eq, hit_other, count, count_at}
use Rattle.tally.specs.Search.{seek}
use Rattle.tally.specs.Rows.{used, child_words}
use Rattle.tally.specs.Blocks.{block_at, in_block, empty_block, childless_block}
use Rattle.tally.proofs.Laws.Search.{seek-past}

hit-most : (x y : ℕ) → hit x y ≤ 1
hit-most x y = elim (ℕ_discrete x y) [ yes e ↦ omega (arith, hit_eq x y e) | no n ↦ omega (arith, hit_other x y n) ]

pub count_most : (x : ℕ) (s : List ℕ) → count x s ≤ length s
unfolding count
count_most x [] = omega arith
count_most x (y ∷ s) = omega (arith, hit-most x y, count_most x s)

-- where the count is the length, every word is x
all_same : (x : ℕ) (s : List ℕ) → length s ≤ count x s → (i : ℕ) → i < length s → get_or s i 0 ≡ x
unfolding count
all_same x [] h i l = absurd (omega arith)
all_same x (y ∷ s) h zero l = elim (ℕ_discrete x y) [ yes e ↦ sym e | no n ↦ absurd (omega (arith, hit_other x y n, count_most x s)) ]
all_same x (y ∷ s) h (suc i) l = all_same x s (omega (arith, hit-most x y)) i (omega arith)

both : (p q : Bool) → (p && q) ≡ true → (p ≡ true) × (q ≡ true)
both true true e = (e, e)
both true false e = absurd (false≢true e)
both false q e = absurd (false≢true e)

module _ (n i : ℕ) where
  block-end : block_at n i ≡ true → i + 8 ≤ n
  block-end e = leb-true (i + 8) n (both (eqb (i % 8) 0) (leb (i + 8) n) e).1

  pub block-told : {t : Bool} → t ≡ block_at n i → not t ≡ false → i + 8 ≤ n
  block-told {t} e y = block-end (sym e ∙ not-false t y)

  module _ (s : List ℕ) (short : n ≤ length s) where
    block-word : (k : ℕ) → i ≤ k → k < i + 8 → get_or (take 8 (drop i s)) (k - i) 0 ≡ get_or s k 0
    block-word k a l =
        let e : i + (k - i) ≡ k = omega arith in
        get_or-take 8 (drop i s) (k - i) 0 (omega arith) ∙ get_or-drop i s (k - i) 0 ∙ ap (λ (j : ℕ). get_or s j 0) e

    block-length : i + 8 ≤ n → length (take 8 (drop i s)) ≡ 8
    block-length h = omega (arith, length-take 8 (drop i s), length-drop i s)

    pub empty-end : empty_block s n i ≡ true → i + 8 ≤ n
    empty-end e = block-end (both (block_at n i) (eqb (in_block 0 s i) 8) e).0

    pub empty-word : empty_block s n i ≡ true → (k : ℕ) → i ≤ k → k < i + 8 → get_or s k 0 ≡ 0
    empty-word e k a l =
        let q = both (block_at n i) (eqb (in_block 0 s i) 8) e in
        let r = block-length (block-end q.0) in
        sym (block-word k a l) ∙ all_same 0 (take 8 (drop i s)) (omega (arith, r, eqb-true (in_block 0 s i) 8 q.1)) (k - i) (omega (arith, r))

    -- a search for a word goes past such a block
    pub empty-past : {t : Bool} → t ≡ empty_block s n i → t ≡ true → seek (used s) (n - i) i ≡ seek (used s) (n - (i + 8)) (i + 8)
    empty-past q e =
        let h : empty_block s n i ≡ true = sym q ∙ e in
        seek-past (used s) n i (i + 8) (omega arith) (empty-end h) (λ x a l. ap not (eq-eqb (get_or s x 0) 0 (empty-word h x a l)))

    childless_end : childless_block s n i ≡ true → i + 8 ≤ n
    childless_end e = block-end (both (block_at n i) (eqb (in_block 1 s i) 0) e).0

    childless_word : childless_block s n i ≡ true → (k : ℕ) → i ≤ k → k < i + 8 → get_or s k 0 ≢ 1
    childless_word e k a l z =
        let q = both (block_at n i) (eqb (in_block 1 s i) 0) e in
        omega (arith, eqb-true (in_block 1 s i) 0 q.1, count_at 1 (take 8 (drop i s)) (k - i) (omega (arith, block-length (block-end q.0))) (block-word k a l ∙ z))

    -- a search for a child goes past such a block
    pub childless_past : (pt : List ℕ) {t : Bool} → t ≡ childless_block s n i → t ≡ true
        → seek (λ k. child_words (get_or pt k 0) (get_or s k 0)) (n - i) i ≡ seek (λ k. child_words (get_or pt k 0) (get_or s k 0)) (n - (i + 8)) (i + 8)
    childless_past pt q e =
        let h : childless_block s n i ≡ true = sym q ∙ e in
        seek-past (λ k. child_words (get_or pt k 0) (get_or s k 0)) n i (i + 8) (omega arith) (childless_end h)
        (λ x a l. rw (ne_eqb (get_or s x 0) 1 (childless_word h x a l)) (never (eqb (get_or pt x 0) 0)))
      where
        never : (t : Bool) → (not t && false) ≡ false
        never true = refl
        never false = refl
