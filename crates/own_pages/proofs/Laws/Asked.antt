-- What is asked at an index and of a pair, in the code's terms. Assumes nothing.
use mathlib.Core.Path.{◌≡◌, refl, sym, ap, subst, ◌∙◌}
use mathlib.Core.List.{List}
use mathlib.Core.Bool.{Bool, true, false, not, ◌&&◌, ◌||◌}
use mathlib.Core.Logic.{◌≢◌}
use Prim.Native.Nat.{ℕ, ◌+◌, ◌-◌, ◌*◌, ◌<◌, ◌≤◌}
use native.Mathlib.Omega.{arith}
use native.Mathlib.Decide.{dec_lt}
use lib.Bits.{bit_or}
use lib.Dec.{leb, eqb}
use borrow.Author.Tests.{eqb-true, eq-eqb, ne_eqb}
use Rattle.walk.specs.Finite.{from, all, once}
use Rattle.memory.specs.Geometry.{page_words, address, page_of}
use Rattle.memory.specs.Words.{word}
use Rattle.memory.specs.Entry.{accessible}
use Rattle.memory.specs.Partition.{directory, shadow1, shadow2, threes, table_word, mapping, lent}
use Rattle.soundness.specs.Test.{virtual, physical, table_link, directory_test, stands, agrees, shut_at}
use Rattle.own_pages.specs.Asked.{links, listed_as, no_tables, index_test, Skipped, pair_form, pair_shut}
use Rattle.own_pages.specs.Named.{WordsAt}
use Rattle.own_pages.proofs.Laws.Tests.{and-false, and_fst, and_snd}
use Rattle.own_pages.proofs.Laws.Loops.{all-at, all_yes}
use Rattle.pages.proofs.Bits.{or_test}

-- ---- the words of an index

covered : (p q s t : Bool) → (p || s) && (q || t) && (p && q) ≡ p && q
covered true true s t = refl
covered true false s t = and-false t
covered false q s t = and-false (s && (q || t))

module _ (b : ℕ) (m : List ℕ) (w x y : ℕ) where
  pub links-none : w ≡ 0 → links b m w x y ≡ eqb x 0 && eqb y 0
  unfolding links table_link
  links-none e = rw (eq-eqb w 0 e) (covered (eqb x 0) (eqb y 0) _ _)

-- w, x and y are the words of index i of d's directory and shadows
module _ (b : ℕ) (m : List ℕ) (d i : ℕ) {w x y : ℕ} (h : WordsAt b m d i w x y) where
  pub joined_as : eqb (bit_or (bit_or w x) y) 0 ≡ no_tables b m d i
  unfolding no_tables
  joined_as = or_test (bit_or w x) y ∙ ap (λ (t : Bool). t && eqb y 0) (or_test w x) ∙ rw (h.in_directory, h.in_shadow1, h.in_shadow2) refl

  links_as : directory_test b m d i ≡ links b m w x y
  unfolding directory_test links
  links_as = rw (h.in_directory, h.in_shadow1, h.in_shadow2) refl

  pub index_wrong : links b m w x y ≡ false → false ≡ index_test b m d i
  unfolding index_test
  index_wrong l = rw (links_as, l) refl

  pub index-none : links b m w x y ≡ true → w ≡ 0 → true ≡ index_test b m d i
  unfolding index_test
  index-none l z = rw (links_as, l, eq-eqb (word b m (directory b m d) i) 0 (sym h.in_directory ∙ z)) refl

  pub index-some : links b m w x y ≡ true → w ≢ 0 → once (listed_as b m d w x y) (from (threes b m d) 0) ≡ index_test b m d i
  unfolding index_test listed_as stands
  index-some l n = rw (links_as, l, ne_eqb (word b m (directory b m d) i) 0 (λ z. n (h.in_directory ∙ z)), h.in_directory, h.in_shadow1, h.in_shadow2) refl

-- an index without tables passes
pub no-tables : (b : ℕ) (m : List ℕ) (d i : ℕ) → no_tables b m d i ≡ true → index_test b m d i ≡ true
unfolding no_tables
no-tables b m d i h =
    let p = word b m (directory b m d) i in
    let q = word b m (shadow1 b m d) i in
    let r = word b m (shadow2 b m d) i in
    let k = and_fst (eqb p 0 && eqb q 0) (eqb r 0) h in
    let e : p ≡ 0 = eqb-true p 0 (and_fst (eqb p 0) (eqb q 0) k) in
    sym (index-none b m d i {w = p} {x = q} {y = r} record { in_directory = refl; in_shadow1 = refl; in_shadow2 = refl } (links-none b m p q r e ∙ rw (and_snd (eqb p 0) (eqb q 0) k, and_snd (eqb p 0 && eqb q 0) (eqb r 0) h) refl) e)

-- ---- past the indices that have no tables

module _ (b : ℕ) (m : List ℕ) (d : ℕ) where
  pub skip-none : (i : ℕ) → i ≤ page_words b → Skipped b m d i i
  skip-none i h = record { low = omega arith; high = h; empty = all_yes (no_tables b m d) (i - i) i (λ x a l. absurd (omega arith)) }

  pub skip_by : (n : ℕ) {i k : ℕ} → Skipped b m d i k → k + n ≤ page_words b → all (no_tables b m d) (from n k) ≡ true → Skipped b m d i (k + n)
  skip_by n {i} {k} s h e =
      record { low = omega (arith, s.low); high = h; empty = all_yes (no_tables b m d) (k + n - i) i (λ x a l. pick x a l (dec_lt x k)) }
    where
      pick : (x : ℕ) → i ≤ x → x < i + (k + n - i) → Dec (x < k) → no_tables b m d x ≡ true
      pick x a l (yes c) = all-at (no_tables b m d) (k - i) i s.empty x a (omega (arith, s.low))
      pick x a l (no c) = all-at (no_tables b m d) n k e x (omega arith) (omega (arith, s.low))

  pub skip_run : {i k r : ℕ} → Skipped b m d i k → k ≤ r → r ≤ page_words b → ((x : ℕ) → k ≤ x → x < r → no_tables b m d x ≡ true) → Skipped b m d i r
  skip_run {i} {k} {r} s l h e =
      let q : k + (r - k) ≡ r = omega arith in
      subst (Skipped b m d i) q (skip_by (r - k) s (omega arith) (all_yes (no_tables b m d) (r - k) k (λ x a c. e x a (omega arith))))

-- ---- a pair: v and a are its words

module _ (b : ℕ) (m : List ℕ) (p k j : ℕ) {v a : ℕ} (e : v ≡ word b m p (k + 2 * j)) (q : a ≡ word b m p (k + 1 + 2 * j)) where
  pub pair-form_as : virtual b v && physical b m a ≡ pair_form b m p k j
  unfolding pair_form
  pair-form_as = rw (e, q) refl

  pub pair-shut_as : (d : ℕ) → agrees b m d v a && shut_at b m d v ≡ pair_shut b m d p k j
  unfolding pair_shut
  pair-shut_as d = rw (e, q) refl

-- w and x are the words of the page table and of shadow 1 there
pub shut_as : (b : ℕ) (m : List ℕ) (d v a : ℕ) {w x : ℕ} → w ≡ mapping b m d v → x ≡ lent b m d v
    → agrees b m d v a && shut_at b m d v ≡ not (eqb w 0) && eqb (address b (page_of b w)) a && (not (eqb w 0) && eqb (accessible w) 0 && leb x 1)
unfolding agrees shut_at
shut_as b m d v a e q = rw (e, q) refl

-- a word of the tables under a root
pub table_as : (b : ℕ) (m : List ℕ) {t p q k l : ℕ} → t ≡ table_word b m p k → p ≡ q → k ≡ l → t ≡ table_word b m q l
table_as b m {p = p} {l = l} h e f = h ∙ ap (table_word b m p) f ∙ ap (λ (x : ℕ). table_word b m x l) e
