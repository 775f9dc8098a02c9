-- Take and return change exactly the accessible bit of the page table words on the way up. Assumes nothing.
use mathlib.Core.Path.{◌≡◌, refl, sym, ap, ap₂, ◌∙◌, subst}
use mathlib.Core.List.{List, [], ◌∷◌, ◌++◌}
use mathlib.Core.Bool.{Bool, true, false, cond, ◌||◌, true≢false, false≢true}
use Prim.Native.Nat.{ℕ, zero, suc, ◌≤◌, ◌<◌}
use native.Mathlib.Omega.{arith}
use borrow.Author.Tests.{eqb-true, eqb-false}
use lib.Dec.{eqb}
use lib.ListN.{length, get_or, set}
use lib.Seq.{get_or-set_same, get_or-set_other}
use Rattle.walk.specs.Finite.{any}
use Rattle.memory.specs.Geometry.{page_of, table_index}
use Rattle.memory.specs.Words.{index}
use Rattle.memory.specs.Entry.{entry, rights}
use Rattle.memory.specs.Partition.{parent, above, mapping, table_for, table_word, put_table_word, set_mapping}
use Rattle.memory.proofs.Entry.{entry-page, entry-rights}
use Rattle.memory.proofs.Tables.{length-put_table_word}
use Rattle.rules.specs.Moves.{mark}

module _ (b : ℕ) where
  -- a page table word with its accessible bit set to a
  abbrev pub marked : ℕ → ℕ → ℕ
  marked a w = entry b (page_of b w) a (rights w)

  -- the places of those words: the caller's, its parent's, and so on up to the root
  unfoldable pub walked : ℕ → ℕ → List ℕ → ℕ → ℕ → List ℕ
  walked zero a m d v = []
  walked (suc n) a m d v =
      let m' = set_mapping b m d v (marked a (mapping b m d v)) in
      let rest = walked n a m' (parent b m d) (above b m d v) in
      cond (eqb (table_for b m d v) 0) [] (index b (page_of b (table_for b m d v)) (table_index b (page_of b v)) ∷ [])
      ++ cond (eqb (parent b m d) 0) [] rest

  false_or : (s t : Bool) → (s || t) ≡ false → (s ≡ false) × (t ≡ false)
  false_or true t e = absurd (true≢false e)
  false_or false t e = (refl, e)

  -- one store, of a word whose table may be absent
  one-other : (t : Bool) (m : List ℕ) (i x j : ℕ) → any (eqb j) (cond t [] (i ∷ [])) ≡ false → get_or (cond t m (set m i x)) j 0 ≡ get_or m j 0
  one-other true m i x j e = refl
  one-other false m i x j e = get_or-set_other m i j x 0 (eqb-false j i (false_or (eqb j i) false e).0)

  -- a step of the walk: the store at i, of x, and then what is left of the walk, from the memory after the store
  module _ (m : List ℕ) (i x j : ℕ) (rest places : List ℕ) where
    step_other : (s t : Bool) → (any (eqb j) places ≡ false → get_or rest j 0 ≡ get_or (cond s m (set m i x)) j 0)
        → any (eqb j) (cond s [] (i ∷ []) ++ cond t [] places) ≡ false → get_or (cond t (cond s m (set m i x)) rest) j 0 ≡ get_or m j 0
    step_other true true ih e = refl
    step_other true false ih e = ih e
    step_other false true ih e = one-other false m i x j e
    step_other false false ih e =
        let h : (eqb j i ≡ false) × (any (eqb j) places ≡ false) = false_or _ _ e in
        ih h.1 ∙ get_or-set_other m i j x 0 (eqb-false j i h.0)

    step-walked : (f : ℕ → ℕ) → ((w : ℕ) → f (f w) ≡ f w) → j < length m → (s t : Bool) → x ≡ f (cond s 0 (get_or m i 0))
        → (any (eqb j) places ≡ false → get_or rest j 0 ≡ get_or (cond s m (set m i x)) j 0)
        → (any (eqb j) places ≡ true → get_or rest j 0 ≡ f (get_or (cond s m (set m i x)) j 0))
        → any (eqb j) (cond s [] (i ∷ []) ++ cond t [] places) ≡ true → get_or (cond t (cond s m (set m i x)) rest) j 0 ≡ f (get_or m j 0)
    step-walked f idem h true true ex out ih e = absurd (false≢true e)
    step-walked f idem h true false ex out ih e = ih e
    step-walked f idem h false t ex out ih e = at (eqb j i) refl t (any (eqb j) places) refl e
      where
        same : eqb j i ≡ true → get_or (set m i x) j 0 ≡ f (get_or m j 0)
        same q =
            let r : j ≡ i = eqb-true j i q in
            rw (← r) (get_or-set_same m j x 0 h) ∙ ex ∙ ap (λ (k : ℕ). f (get_or m k 0)) (sym r)

        at : (u : Bool) → eqb j i ≡ u → (t : Bool) (w : Bool) → any (eqb j) places ≡ w → (u || any (eqb j) (cond t [] places)) ≡ true
            → get_or (cond t (set m i x) rest) j 0 ≡ f (get_or m j 0)
        at true q true w p e = same q
        at true q false true p e = ih p ∙ ap f (same q) ∙ idem (get_or m j 0)
        at true q false false p e = out p ∙ same q
        at false q true w p e = absurd (false≢true e)
        at false q false w p e = ih e ∙ ap f (get_or-set_other m i j x 0 (eqb-false j i q))

  pub mark-other : (n a : ℕ) (m : List ℕ) (d v j : ℕ) → any (eqb j) (walked n a m d v) ≡ false → get_or (mark b n a m d v) j 0 ≡ get_or m j 0
  unfolding mark walked put_table_word
  mark-other zero a m d v j e = refl
  mark-other (suc n) a m d v j e =
      step_other m _ _ j _ _ (eqb (table_for b m d v) 0) (eqb (parent b m d) 0) (mark-other n a _ (parent b m d) (above b m d v) j) e

  marked-twice : 3 ≤ b → (a : ℕ) → a < 2 → (w : ℕ) → marked a (marked a w) ≡ marked a w
  marked-twice wide a ha w =
      ap₂ (λ (p r : ℕ). entry b p a r) (entry-page b _ a _ wide ha (omega arith)) (entry-rights b _ a _ wide ha (omega arith))

  pub mark-walked : 3 ≤ b → (n a : ℕ) → a < 2 → (m : List ℕ) (d v j : ℕ) → j < length m → any (eqb j) (walked n a m d v) ≡ true
      → get_or (mark b n a m d v) j 0 ≡ marked a (get_or m j 0)
  unfolding mark walked put_table_word table_word
  mark-walked wide zero a ha m d v j h e = absurd (false≢true e)
  mark-walked wide (suc n) a ha m d v j h e =
      step-walked m _ _ j _ _ (marked a) (marked-twice wide a ha) h (eqb (table_for b m d v) 0) (eqb (parent b m d) 0) refl
      (mark-other n a _ (parent b m d) (above b m d v) j)
      (mark-walked wide n a ha _ (parent b m d) (above b m d v) j (subst (λ (k : ℕ). j < k) (sym (length-put_table_word b m _ _ _)) h)) e
