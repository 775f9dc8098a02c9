-- The words that format leaves, by the tests that the code makes. Assumes nothing.
use mathlib.Core.Path.{◌≡◌, refl, sym, ap, ◌∙◌}
use mathlib.Core.Logic.{◌≢◌}
use mathlib.Core.Bool.{Bool, true, false, cond, ◌&&◌}
use mathlib.Core.List.{List, [], ◌∷◌}
use Prim.Native.Nat.{ℕ, ◌+◌, ◌-◌, ◌*◌, ◌/◌, ◌%◌, ◌≤◌, ◌<◌}
use native.Mathlib.Omega.{arith}
use borrow.Author.Tests.{eq-eqb, ne_eqb, lt-ltb, le-ltb, le-leb, lt-leb}
use lib.ListN.{get_or, get_or-eq_default}
use Rattle.memory.specs.Geometry.{edition_of, page_words, address, page_of, threes_for, flat_pages}
use Rattle.memory.specs.Entry.{entry}
use Rattle.memory.specs.Format.{header_word, root_descriptor_word, root_directory_word, root_list_word, root_table_word, format_word}
use Rattle.memory.proofs.Geometry.{page-address}

neither : (t : Bool) → (t && false) ≡ false
neither true = refl
neither false = refl

either : (t : Bool) → ◌≡◌ {A = ℕ} (cond t 0 0) 0
either true = refl
either false = refl

module _ (b n t : ℕ) (e : t ≡ threes_for b n) where
  pub header_is : (i root first edition : ℕ) → root ≡ address b 1 → first ≡ address b (6 + 3 * t) → edition ≡ edition_of b
      → get_or (n ∷ t ∷ root ∷ first ∷ root ∷ edition ∷ []) i 0 ≡ header_word b n i
  header_is i root first edition hr hf he = rw (hf, hr, he, e)

  pub directory-out : (k i : ℕ) → t ≤ i → 0 ≡ root_directory_word b n k i
  directory-out k i h = simp (le-ltb i (threes_for b n) (omega arith))

  pub table_none : (v : ℕ) → v ≡ 0 → 0 ≡ root_table_word b n v
  table_none v h = simp (lt-leb 1 v (omega arith))

  pub table-after : (v : ℕ) → v ≢ 0 → n < v + 6 + 3 * t → 0 ≡ root_table_word b n v
  table-after v h k = simp (le-leb 1 v (omega arith), lt-leb v (flat_pages b n) (omega arith))

  pub table-maps : (v x y : ℕ) → v ≢ 0 → v + 6 + 3 * t ≤ n → x ≡ address b (5 + 3 * t + v) → y ≡ entry b (page_of b x) 1 7 → y ≡ root_table_word b n v
  table-maps v x y h k hx hy =
      hy ∙ ap (λ (p : ℕ). entry b p 1 7) (ap (page_of b) hx ∙ page-address b (5 + 3 * t + v) ∙ ap (λ (u : ℕ). 5 + 3 * u + v) e)
      ∙ simp (le-leb 1 v (omega arith), le-leb v (flat_pages b n) (omega arith))

  module _ (p i : ℕ) where
    pub word-header : p ≡ 0 → header_word b n i ≡ format_word b n p i
    unfolding format_word
    word-header h = simp (eq-eqb p 0 h)

    pub word-descriptor : p ≡ 1 → root_descriptor_word b i ≡ format_word b n p i
    unfolding format_word
    word-descriptor h = simp (ne_eqb p 0 (omega arith), eq-eqb p 1 h)

    pub word-directory : p ≢ 0 → p ≢ 1 → p < 5 → root_directory_word b n (p - 2) i ≡ format_word b n p i
    unfolding format_word
    word-directory h k l = simp (ne_eqb p 0 h, ne_eqb p 1 k, lt-ltb p 5 l)

    pub word-list : p ≡ 5 → root_list_word b n i ≡ format_word b n p i
    unfolding format_word
    word-list h = simp (ne_eqb p 0 (omega arith), ne_eqb p 1 (omega arith), le-ltb p 5 (omega arith), eq-eqb p 5 h)

    pub word_flat : 5 < p → 6 + 3 * t ≤ p → 0 ≡ format_word b n p i
    unfolding format_word
    word_flat h k =
        simp (
          ne_eqb p 0 (omega arith),
          ne_eqb p 1 (omega arith),
          le-ltb p 5 (omega arith),
          ne_eqb p 5 (omega arith),
          le-ltb p (6 + 3 * threes_for b n) (omega arith),
        )

    pub word-shadow : 5 < p → p < 6 + 3 * t → p % 3 ≢ 0 → 0 ≡ format_word b n p i
    unfolding format_word
    word-shadow h k l =
        simp (
          ne_eqb p 0 (omega arith),
          ne_eqb p 1 (omega arith),
          le-ltb p 5 (omega arith),
          ne_eqb p 5 (omega arith),
          lt-ltb p (6 + 3 * threes_for b n) (omega arith),
          ne_eqb (p % 3) 0 l,
        )

    pub word-table : 5 < p → p < 6 + 3 * t → p % 3 ≡ 0 → root_table_word b n ((p - 6) / 3 * page_words b + i) ≡ format_word b n p i
    unfolding format_word
    word-table h k l =
        simp (
          ne_eqb p 0 (omega arith),
          ne_eqb p 1 (omega arith),
          le-ltb p 5 (omega arith),
          ne_eqb p 5 (omega arith),
          lt-ltb p (6 + 3 * threes_for b n) (omega arith),
          eq-eqb (p % 3) 0 l,
        )

    -- the words that are 0 whatever stands before them

    pub after-header : p ≡ 0 → 6 ≤ i → format_word b n p i ≡ 0
    after-header h k =
        let ws : List ℕ = n ∷ threes_for b n ∷ address b 1 ∷ address b (6 + 3 * threes_for b n) ∷ address b 1 ∷ edition_of b ∷ [] in
        sym (word-header h) ∙ get_or-eq_default ws 0 k

    pub after-descriptor : p ≡ 1 → 12 ≤ i → format_word b n p i ≡ 0
    after-descriptor h k =
        let ws : List ℕ = 0 ∷ address b 1 ∷ 0 ∷ address b 2 ∷ 0 ∷ address b 3 ∷ 0 ∷ address b 4 ∷ 0 ∷ address b 5 ∷ 0 ∷ 0 ∷ [] in
        sym (word-descriptor h) ∙ get_or-eq_default ws 0 k

    pub after-directory : p ≢ 0 → p ≢ 1 → p < 5 → t ≤ i → format_word b n p i ≡ 0
    after-directory h k l u = sym (word-directory h k l) ∙ sym (directory-out (p - 2) i u)

    pub after_list : p ≡ 5 → 1 + 6 * t ≤ i → format_word b n p i ≡ 0
    after_list h k = sym (word-list h) ∙ simp (ne_eqb i 0 (omega arith), lt-leb i (6 * threes_for b n) (omega arith), neither)

    pub all-shadow : 5 < p → p % 3 ≢ 0 → format_word b n p i ≡ 0
    unfolding format_word
    all-shadow h l =
        simp (ne_eqb p 0 (omega arith), ne_eqb p 1 (omega arith), le-ltb p 5 (omega arith), ne_eqb p 5 (omega arith), ne_eqb (p % 3) 0 l, neither)

    pub after_table : 5 < p → 0 < n → n ≤ i → format_word b n p i ≡ 0
    unfolding format_word
    after_table h l u =
        let v = (p - 6) / 3 * page_words b + i in
        let k : root_table_word b n v ≡ 0 = sym (table-after v (omega arith) (omega arith)) in
        simp (ne_eqb p 0 (omega arith), ne_eqb p 1 (omega arith), le-ltb p 5 (omega arith), ne_eqb p 5 (omega arith), k, either)
