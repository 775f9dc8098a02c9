-- Pages taken, returned and released, turn by turn, as loops take them. Assumes nothing.
use mathlib.Core.Path.{◌≡◌, refl, sym, ap, ap₂, ◌∙◌, subst}
use mathlib.Core.Logic.{◌≢◌}
use mathlib.Core.List.{List}
use mathlib.Core.Bool.{Bool, true, false, cond}
use Prim.Native.Nat.{ℕ, zero, suc, ◌+◌, ◌-◌, ◌*◌, ◌≤◌, ◌<◌}
use native.Mathlib.Nat.{mul-le-mul, mul-le-mul_right, mul-lt-mul_of_pos_right, lt_of_lt_of_le, zero-mul, suc-mul}
use native.Mathlib.Omega.{arith}
use native.Mathlib.Decide.{dec_lt}
use native.Mathlib.Numerals.{add-one}
use borrow.Author.Tests.{eq-eqb, ne_eqb}
use lib.Dec.{eqb}
use lib.Pow.{pow_mono, high, low}
use lib.ListN.{length, get_or, drop, length-take, drop_of_length-le, get_or-eq_default}
use lib.Seq.{drop-cons, get_or-take, get_or-drop}
use Rattle.walk.specs.Lists.{count, count_at}
use Rattle.memory.specs.Geometry.{page_words, address, page_of, most_depth}
use Rattle.memory.specs.Words.{start, word, page, wipe}
use Rattle.memory.specs.Entry.{write_right, holds}
use Rattle.memory.specs.Partition.{shadow1, table_word, mapping, lent}
use Rattle.memory.proofs.Geometry.{bytes_pos, address_end-is, page-address}
use Rattle.memory.proofs.Widths.{words-most}
use Rattle.rules.specs.Moves.{mark, take_page, return_page, take_all, return_all}
use Rattle.rules.specs.Effects.{release, release_all}

module _ (b : ℕ) (m : List ℕ) (d : ℕ) (vs : List ℕ) (i : ℕ) where
  pub take_all-more : i < length vs → take_all b m d (drop i vs) ≡ take_all b (take_page b m d (get_or vs i 0)) d (drop (i + 1) vs)
  take_all-more h = rw (add-one, drop-cons vs i 0)

  pub take_all-end : length vs ≤ i → take_all b m d (drop i vs) ≡ m
  take_all-end h = rw (drop_of_length-le vs h)

  pub return_all-more : i < length vs → return_all b m d (drop i vs) ≡ return_all b (return_page b true m d (get_or vs i 0)) d (drop (i + 1) vs)
  return_all-more h = rw (add-one, drop-cons vs i 0)

  pub return_all-end : length vs ≤ i → return_all b m d (drop i vs) ≡ m
  return_all-end h = rw (drop_of_length-le vs h)

module _ (b : ℕ) (m : List ℕ) (d v : ℕ) where
  -- a kernel page
  pub return_kernel : {k : Bool} → k ≡ true → return_page b k m d v ≡ mark b (suc most_depth) 1 (wipe b m (page_of b (mapping b m d v))) d v
  unfolding return_page
  return_kernel e = rw e refl

  -- another page, by whether the caller holds write
  pub return_other : {k t : Bool} → k ≡ false → holds write_right (mapping b m d v) ≡ t
      → return_page b k m d v ≡ cond t (wipe b m (page_of b (mapping b m d v))) m
  unfolding return_page
  return_other e h = rw e (ap (λ (t : Bool). cond t (wipe b m (page_of b (mapping b m d v))) m) h)

  -- one turn, for the child at c
  abbrev pub releasing : ℕ → List ℕ
  releasing c = cond (eqb (lent b m d v) c) (release b m d v) m

  pub releasing_its : (c : ℕ) → lent b m d v ≡ c → releasing c ≡ release b m d v
  releasing_its c h = simp (eq-eqb _ _ h)

  pub releasing-other : (c : ℕ) → lent b m d v ≢ c → releasing c ≡ m
  releasing-other c h = simp (ne_eqb _ _ h)

module _ (b : ℕ) (m : List ℕ) (p : ℕ) where
  -- a page as the part s: its words can be counted in 32 bits
  pub page-fits : {s : List ℕ} → s ≡ page b m p → b ≤ 10 → length s < 4294967296
  page-fits e h = subst (λ (t : List ℕ). length t < 4294967296) (sym e) (omega (arith, length-take (page_words b) (drop (start b p) m), words-most b h))

  -- a word of a page that is not 0 counts among the page's words
  word-counted : (j x : ℕ) → j < page_words b → 0 < x → word b m p j ≡ x → 0 < count x (page b m p)
  word-counted j x h k e =
      let f : get_or (page b m p) j 0 ≡ x = get_or-take (page_words b) (drop (start b p) m) j 0 h ∙ get_or-drop (start b p) m j 0 ∙ e in
      elim (dec_lt j (length (page b m p))) [
        | yes l ↦ count_at x (page b m p) j l f
        | no l ↦ absurd (omega (arith, get_or-eq_default (page b m p) 0 {n = j} (omega arith)))
      ]

module _ (b d c : ℕ) where
  pub release_all-more : (m : List ℕ) (n i k : ℕ) → k < n
      → release_all b (n - k) (i + k) m d c ≡ release_all b (n - (k + 1)) (i + (k + 1)) (releasing b m d (address b (i + k)) c) d c
  unfolding release_all
  release_all-more m n i k h =
      let e : n - k ≡ suc (n - (k + 1)) = omega arith in
      let f : suc (i + k) ≡ i + (k + 1) = omega arith in
      ap (λ (x : ℕ). release_all b x (i + k) m d c) e
      ∙ ap (λ (x : ℕ). release_all b (n - (k + 1)) x (releasing b m d (address b (i + k)) c) d c) f

  pub release_all-none : (m : List ℕ) (n i : ℕ) → n ≡ 0 → release_all b n i m d c ≡ m
  unfolding release_all
  release_all-none m n i h = rw h

  release_all-add : (m : List ℕ) (n k i : ℕ) → release_all b (n + k) i m d c ≡ release_all b k (i + n) (release_all b n i m d c) d c
  unfolding release_all
  release_all-add m zero k i =
      let e : 0 + k ≡ k = omega arith in
      let f : i ≡ i + 0 = omega arith in
      ap₂ (λ (x y : ℕ). release_all b x y m d c) e f
  release_all-add m (suc n) k i =
      let e : suc n + k ≡ suc (n + k) = omega arith in
      let f : suc i + n ≡ i + suc n = omega arith in
      ap (λ (x : ℕ). release_all b x i m d c) e
      ∙ release_all-add (releasing b m d (address b i) c) n k (suc i)
      ∙ ap (λ (x : ℕ). release_all b k x (release_all b (suc n) i m d c) d c) f

  -- n pages from v on, none of which is lent to the child
  release_all-others : (m : List ℕ) (n v : ℕ) → ((j : ℕ) → j < n → lent b m d (address b (v + j)) ≢ c) → release_all b n v m d c ≡ m
  unfolding release_all
  release_all-others m zero v h = refl
  release_all-others m (suc n) v h =
      ap (λ (y : List ℕ). release_all b n (suc v) y d c) (releasing-other b m d (address b v) c (at 0 v (omega arith) (omega arith)))
      ∙ release_all-others m n (suc v) (λ j l. at (suc j) (suc v + j) (omega arith) (omega arith))
    where
      at : (j x : ℕ) → j < suc n → v + j ≡ x → lent b m d (address b x) ≢ c
      at j x l e = subst (λ (y : ℕ). lent b m d (address b y) ≢ c) e (h j l)

  -- the shadow 1 word of virtual page i·W + j, from the root's word at index i
  lent_at : (m : List ℕ) (i j : ℕ) → j < page_words b
      → lent b m d (address b (i * page_words b + j)) ≡ cond (eqb (word b m (shadow1 b m d) i) 0) 0 (word b m (page_of b (word b m (shadow1 b m d) i)) j)
  unfolding table_word
  lent_at m i j h = rw (page-address b (i * page_words b + j), high i b h, low i b h)

  -- a directory index without a table: nothing is lent there
  pub release_all-absent : (m : List ℕ) (i : ℕ) → word b m (shadow1 b m d) i ≡ 0 → 0 < c → release_all b (page_words b) (i * page_words b) m d c ≡ m
  release_all-absent m i e h = release_all-others m (page_words b) (i * page_words b) (λ j l q. absurd (omega (arith, rw (lent_at m i j l, eq-eqb _ 0 e) at q)))

  -- a table in which the child's address stands nowhere
  pub release_all_uncounted : (m : List ℕ) (i : ℕ) → count c (page b m (page_of b (word b m (shadow1 b m d) i))) ≡ 0 → 0 < c
      → release_all b (page_words b) (i * page_words b) m d c ≡ m
  release_all_uncounted m i e h = release_all-others m (page_words b) (i * page_words b) (λ j l q. other j l (eqb (word b m (shadow1 b m d) i) 0) (sym (lent_at m i j l) ∙ q))
    where
      other : (j : ℕ) → j < page_words b → (t : Bool) → cond t 0 (word b m (page_of b (word b m (shadow1 b m d) i)) j) ≢ c
      other j l true q = omega arith
      other j l false q = absurd (omega (arith, word-counted b m (page_of b (word b m (shadow1 b m d) i)) j c l h q))

  -- table by table: those from index i on
  abbrev pub release_from : ℕ → List ℕ → List ℕ
  release_from i m = release_all b ((page_words b - i) * page_words b) (i * page_words b) m d c

  pub release_from-start : (m : List ℕ) → release_from 0 m ≡ release_all b (page_words b * page_words b) 0 m d c
  release_from-start m =
      let e : page_words b - 0 ≡ page_words b = omega arith in
      ap₂ (λ (x y : ℕ). release_all b (x * page_words b) y m d c) e (zero-mul (page_words b))

  pub release_from-more : (m : List ℕ) (i : ℕ) → i < page_words b → release_from i m ≡ release_from (i + 1) (release_all b (page_words b) (i * page_words b) m d c)
  release_from-more m i h =
      let w = page_words b in
      let e : w - i ≡ suc (w - (i + 1)) = omega arith in
      let f : (w - i) * w ≡ w + (w - (i + 1)) * w = ap (λ (x : ℕ). x * w) e ∙ omega (arith, suc-mul (w - (i + 1)) w) in
      let g : i * w + w ≡ (i + 1) * w = omega (arith, ap (λ (x : ℕ). x * w) (add-one i), suc-mul i w) in
      ap (λ (x : ℕ). release_all b x (i * w) m d c) f
      ∙ release_all-add m w ((w - (i + 1)) * w) (i * w)
      ∙ ap (λ (x : ℕ). release_all b ((w - (i + 1)) * w) x (release_all b w (i * w) m d c) d c) g

  pub release_from-end : (m : List ℕ) (i : ℕ) → page_words b ≤ i → release_from i m ≡ m
  release_from-end m i h =
      let e : page_words b - i ≡ 0 = omega arith in
      release_all-none m ((page_words b - i) * page_words b) (i * page_words b) (ap (λ (x : ℕ). x * page_words b) e ∙ zero-mul (page_words b))

-- ---- virtual page numbers

module _ (b : ℕ) where
  pub table-inside : (i : ℕ) → i < page_words b → i * page_words b + page_words b ≤ page_words b * page_words b
  table-inside i h = omega (arith, mul-le-mul_right (page_words b) h, suc-mul i (page_words b))

  pub square-most : b ≤ 10 → page_words b * page_words b ≤ 1048576
  square-most h = mul-le-mul (words-most b h) (words-most b h)

  pub page-address-fits : (p : ℕ) → b ≤ 10 → p < page_words b * page_words b → address b p < 4294967296
  page-address-fits p h l =
      lt_of_lt_of_le (mul-lt-mul_of_pos_right l (bytes_pos b)) (subst (λ (x : ℕ). x ≤ 4294967296) (address_end-is b) (pow_mono {i = 3 * b + 2} {j = 32} (omega arith)))
