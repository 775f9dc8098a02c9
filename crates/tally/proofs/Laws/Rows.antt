-- A partition's tables as rows: what is run over its addresses is run over its rows, and over a row by the words of its tables. Assumes nothing.
use mathlib.Core.Path.{◌≡◌, refl, sym, ap, ◌∙◌, subst}
use mathlib.Core.List.{List, []}
use mathlib.Core.Bool.{Bool, true, false, cond, not, false≢true}
use mathlib.Core.Logic.{◌≢◌}
use Prim.Native.Nat.{ℕ, ◌+◌, ◌-◌, ◌*◌, ◌%◌, ◌≤◌, ◌<◌}
use native.Mathlib.Omega.{arith}
use native.Mathlib.Decide.{dec_le}
use lib.Dec.{eqb}
use lib.ListN.{length, get_or, drop, length-take, get_or-eq_default}
use lib.Seq.{get_or-take, get_or-drop}
use lib.Pow.{high, low}
use borrow.Author.Tests.{eq-eqb, ne_eqb, eqb-true, not-false, not-true}
use Rattle.walk.specs.Finite.{from, image}
use Rattle.memory.specs.Geometry.{page_words, address, page_of}
use Rattle.memory.specs.Words.{word, page, start}
use Rattle.memory.specs.Partition.{directory, table_word}
use Rattle.memory.specs.Counts.{row, tabled}
use Rattle.memory.proofs.Geometry.{page-address}
use Rattle.tally.specs.Search.{seek}
use Rattle.tally.specs.Run.{run, asking}
use Rattle.tally.specs.Rows.{table, used}
use Rattle.tally.proofs.Laws.Run.{run_stuck, run-flat, run-image, run-same, run-next, run-skip, run-start, run_end}
use Rattle.tally.proofs.Laws.Search.{sought}

past : (s : List ℕ) (i : ℕ) → length s ≤ i → get_or s i 0 ≡ 0
past s i h = get_or-eq_default s 0 h

-- a word that is not used is 0
pub unused : (s : List ℕ) (i : ℕ) → used s i ≡ false → get_or s i 0 ≡ 0
unused s i e = eqb-true (get_or s i 0) 0 (not-false (eqb (get_or s i 0) 0) e)

pub used-not : (s : List ℕ) (i : ℕ) → used s i ≡ true → get_or s i 0 ≢ 0
used-not s i e z = absurd (false≢true (sym (not-true (eqb (get_or s i 0) 0) e) ∙ eq-eqb (get_or s i 0) 0 z))

-- ---- a loop over the words of s that are used, by the next one each time; the step f leaves the state at one that is 0

module _ {S : Type 0} (f : S → ℕ → S) (k : ℕ) (s : List ℕ) (short : length s ≤ k) (none : (x : ℕ) → x < k → get_or s x 0 ≡ 0 → (u : S) → f u x ≡ u) where
  on : (i : ℕ) {r : ℕ} (u : S) → i ≤ length s → r ≡ seek (used s) (length s - i) i → run f u (from (k - i) i) ≡ run f u (from (k - r) r)
  on i {r} u h e =
      let q = sought (used s) (length s - i) i e in
      run-skip f k i r u q.low (λ x a c. none x (omega (arith, q.high)) (unused s x (q.passed x a c)) u)

  pub used-first : {r : ℕ} (u : S) → r ≡ seek (used s) (length s - 0) 0 → run f u (from k 0) ≡ run f u (from (k - r) r)
  used-first u e = run-start f k u ∙ on 0 u (omega arith) e

  -- o is what the whole comes to
  pub used-next : {o : S} {i r : ℕ} (u v : S) → i < length s → v ≡ f u i → r ≡ seek (used s) (length s - (i + 1)) (i + 1) → o ≡ run f u (from (k - i) i)
      → o ≡ run f v (from (k - r) r)
  used-next {i = i} u v h q e w = w ∙ run-next f k i (omega arith) u ∙ ap (λ (t : S). run f t (from (k - (i + 1)) (i + 1))) (sym q) ∙ on (i + 1) v (omega arith) e

  pub used-end : {o : S} {i : ℕ} (u : S) → length s ≤ i → o ≡ run f u (from (k - i) i) → o ≡ u
  used-end {i = i} u h w = w ∙ elim (dec_le k i) [
    | yes l ↦ run_end f k i u l
    | no l ↦ run-skip f k i k u (omega arith) (λ x a c. none x c (past s x (omega arith)) u) ∙ run_end f k k u (omega arith)
  ]

module _ (b : ℕ) (m : List ℕ) where
  pub page-short : (p : ℕ) → length (page b m p) ≤ page_words b
  page-short p = simp length-take (omega arith)

  pub table_none : (w : ℕ) → w ≡ 0 → table b m w ≡ []
  unfolding table
  table_none w e = rw (eq-eqb w 0 e) refl

  pub table-some : (w : ℕ) → w ≢ 0 → table b m w ≡ page b m (page_of b w)
  unfolding table
  table-some w e = rw (ne_eqb w 0 e) refl

  pub table-short : (w : ℕ) → length (table b m w) ≤ page_words b
  unfolding table
  table-short w = go (eqb w 0)
    where
      go : (t : Bool) → length (cond t [] (page b m (page_of b w))) ≤ page_words b
      go true = omega arith
      go false = page-short (page_of b w)

  -- a table and a page, lent as the part s
  pub part-short : {s : List ℕ} (w : ℕ) → s ≡ table b m w → length s ≤ page_words b
  part-short w e = subst (λ (t : List ℕ). length t ≤ page_words b) (sym e) (table-short w)

  pub dir_short : {s : List ℕ} (p : ℕ) → s ≡ page b m p → length s ≤ page_words b
  dir_short p e = subst (λ (t : List ℕ). length t ≤ page_words b) (sym e) (page-short p)

  pub page-at : (p i : ℕ) → i < page_words b → get_or (page b m p) i 0 ≡ word b m p i
  page-at p i h = get_or-take (page_words b) (drop (start b p) m) i 0 h ∙ get_or-drop (start b p) m i 0

  -- the word of virtual page i·W + j under root
  table_at : (root i j : ℕ) → j < page_words b → table_word b m root (i * page_words b + j) ≡ get_or (table b m (word b m root i)) j 0
  unfolding table_word table
  table_at root i j h =
      ap (λ (x : ℕ). cond (eqb (word b m root x) 0) 0 (word b m (page_of b (word b m root x)) ((i * page_words b + j) % page_words b))) (high i b h)
      ∙ ap (λ (x : ℕ). cond (eqb (word b m root i) 0) 0 (word b m (page_of b (word b m root i)) x)) (low i b h)
      ∙ go (eqb (word b m root i) 0)
    where
      go : (t : Bool) → cond t 0 (word b m (page_of b (word b m root i)) j) ≡ get_or (cond t [] (page b m (page_of b (word b m root i)))) j 0
      go true = refl
      go false = sym (page-at (page_of b (word b m root i)) j h)

  -- u is the word of index i in the page of the root, read from it
  pub cell_at : (root i j : ℕ) {s : List ℕ} {u : ℕ} → s ≡ page b m root → i < page_words b → u ≡ get_or s i 0 → j < page_words b
      → table_word b m root (page_of b (address b (i * page_words b + j))) ≡ get_or (table b m u) j 0
  cell_at root i j {s} {u} e h f l =
      let q : word b m root i ≡ u = sym (page-at root i h) ∙ ap (λ (t : List ℕ). get_or t i 0) (sym e) ∙ sym f in
      ap (table_word b m root) (page-address b (i * page_words b + j)) ∙ table_at root i j l ∙ ap (λ (x : ℕ). get_or (table b m x) j 0) q

  -- ---- the rows of d, whose directory's words are s; f is the step at an address

  module _ {S : Type 0} (f : S → ℕ → S) (d : ℕ) where
    -- the step at a row
    abbrev pub row_step : S → ℕ → S
    row_step t i = run f t (row b m d i)

    pub rows_run : (u : S) → run f u (tabled b m d) ≡ run row_step u (from (page_words b) 0)
    unfolding tabled
    rows_run u = run-flat f (row b m d) (from (page_words b) 0) u

    module _ (s : List ℕ) (e : s ≡ page b m (directory b m d)) where
      pub rows_short : length s ≤ page_words b
      rows_short = subst (λ (t : List ℕ). length t ≤ page_words b) (sym e) (page-short (directory b m d))

      word-is : (i : ℕ) → i < page_words b → word b m (directory b m d) i ≡ get_or s i 0
      word-is i h = sym (page-at (directory b m d) i h) ∙ ap (λ (t : List ℕ). get_or t i 0) (sym e)

      pub rows_none : (i : ℕ) → i < page_words b → get_or s i 0 ≡ 0 → (u : S) → run f u (row b m d i) ≡ u
      unfolding row run
      rows_none i h z u = rw (eq-eqb (word b m (directory b m d) i) 0 (word-is i h ∙ z)) refl

      -- a row that is there; g is the step at a place of it
      pub row-run : (g : S → ℕ → S) (i : ℕ) (u : S) → i < length s → used s i ≡ true
          → ((j : ℕ) → j < page_words b → (t : S) → f t (address b (i * page_words b + j)) ≡ g t j) → run f u (row b m d i) ≡ run g u (from (page_words b) 0)
      unfolding row
      row-run g i u h n same =
          let z : eqb (word b m (directory b m d) i) 0 ≡ false = ne_eqb (word b m (directory b m d) i) 0 (λ q. used-not s i n (sym (word-is i (omega (arith, rows_short))) ∙ q)) in
          ap (λ (t : Bool). run f u (cond t [] (image (λ j. address b (i * page_words b + j)) (from (page_words b) 0)))) z
          ∙ run-image f (λ j. address b (i * page_words b + j)) (from (page_words b) 0) u
          ∙ run-same (λ t j. f t (address b (i * page_words b + j))) g (page_words b) same u

      -- the loop over the rows
      pub rows-first : {o : S} {r : ℕ} (u : S) → o ≡ run f u (tabled b m d) → r ≡ seek (used s) (length s - 0) 0 → o ≡ run row_step u (from (page_words b - r) r)
      rows-first u h q = h ∙ rows_run u ∙ used-first row_step (page_words b) s rows_short rows_none u q

      pub rows_next : {o : S} {i r : ℕ} (u v : S) → i < length s → v ≡ run f u (row b m d i) → r ≡ seek (used s) (length s - (i + 1)) (i + 1)
          → o ≡ run row_step u (from (page_words b - i) i) → o ≡ run row_step v (from (page_words b - r) r)
      rows_next u v = used-next row_step (page_words b) s rows_short rows_none u v

      pub rows_end : {o : S} {i : ℕ} (u : S) → length s ≤ i → o ≡ run row_step u (from (page_words b - i) i) → o ≡ u
      rows_end u = used-end row_step (page_words b) s rows_short rows_none u

-- ---- a test at each address: the rows pass while each does

pub asks_next : (b : ℕ) (m : List ℕ) (p : ℕ → Bool) (d : ℕ) {x o : Bool} (s : List ℕ) → s ≡ page b m (directory b m d) → {i r : ℕ} → i < length s → x ≡ run (asking p) true (row b m d i) → not x ≡ false
    → r ≡ seek (used s) (length s - (i + 1)) (i + 1) → o ≡ run (row_step b m (asking p) d) true (from (page_words b - i) i) → o ≡ run (row_step b m (asking p) d) true (from (page_words b - r) r)
asks_next b m p d {x} s e h q t k w = rows_next b m (asking p) d s e true true h (sym (not-false x t) ∙ q) k w

pub asks_stop : (b : ℕ) (m : List ℕ) (p : ℕ → Bool) (d : ℕ) {x o : Bool} (s : List ℕ) → s ≡ page b m (directory b m d) → {i : ℕ} → i < length s → x ≡ run (asking p) true (row b m d i) → not x ≡ true
    → o ≡ run (row_step b m (asking p) d) true (from (page_words b - i) i) → false ≡ o
asks_stop b m p d {x} s e {i} h q t w =
    sym (w ∙ run-next (row_step b m (asking p) d) (page_words b) i (omega (arith, rows_short b m (asking p) d s e)) true
    ∙ ap (λ (u : Bool). run (row_step b m (asking p) d) u (from (page_words b - (i + 1)) (i + 1))) (sym q ∙ not-true x t)
    ∙ run_stuck (row_step b m (asking p) d) false (λ y. run_stuck (asking p) false (λ z. refl) (row b m d y)) (from (page_words b - (i + 1)) (i + 1)))
