-- The words: where they stand and how a word is cut, at the width b. Each definition is that of the crate memory and shut, so that above this file
-- only the laws are known. Assumes nothing.
use mathlib.Core.Path.{◌≡◌, refl, sym, ap, ◌∙◌, subst}
use mathlib.Core.Logic.{◌≢◌, ◌⊎◌, inl, inr}
use mathlib.Core.Bool.{Bool, true, false}
use mathlib.Core.List.{List, [], ◌∷◌}
use Prim.Native.Nat.{ℕ, zero, suc, ◌+◌, ◌*◌, ◌^◌, ◌≤◌, ◌<◌}
use native.Mathlib.Nat.{mod-lt, div-add-mod', div-lt_iff_lt-mul, zero-mul, suc-mul, not-suc-le-zero, le_of_suc-le-suc}
use native.Mathlib.Decide.{dec_lt}
use native.Mathlib.Omega.{arith}
use lib.Arith.{digits_lt, digits_div, digits_mod}
use lib.Pow.{pow_pos}
use lib.ListN.{length, get_or, length-set, get_or-eq_default}
use lib.Seq.{get_or-set_same, get_or-set_other}
use Rattle.memory.specs.Geometry
use Rattle.memory.specs.Words as Mem
use Rattle.memory.specs.Entry
use Rattle.memory.proofs.Geometry.{index_inj, page-address, address_inj}
use Rattle.common.proofs.Overwrite.{length-overwrite, overwrite-before, overwrite-after, overwrite-at}
use Rattle.memory.proofs.Pages.{page-apart, wipe-frame, wipe-own, length-wipe}
use Rattle.memory.proofs.Entry.{entry-page, entry-accessible, entry-rights}
use Rattle.memory.proofs.Widths.{words-least}

abbrev pub bit : Bool → ℕ
bit true = 1
bit false = 0

bit-lt : (a : Bool) → bit a < 2
bit-lt true = omega arith
bit-lt false = omega arith

unfoldable pub acc_of : ℕ → ℕ
acc_of e = Entry.accessible e

unfoldable pub rights_of : ℕ → ℕ
rights_of e = Entry.rights e

get_d_any : (xs : List ℕ) (i x y : ℕ) → i < length xs → get_or xs i x ≡ get_or xs i y
get_d_any [] i x y h = absurd (not-suc-le-zero h)
get_d_any (z ∷ zs) zero x y h = refl
get_d_any (z ∷ zs) (suc i) x y h = get_d_any zs i x y (le_of_suc-le-suc h)

module _ (b : ℕ) where
  -- words in a page
  unfoldable pub W : ℕ
  W = Geometry.page_words b

  -- all virtual pages
  unfoldable pub words : ℕ
  words = Geometry.page_words b * Geometry.page_words b

  unfoldable pub addr : ℕ → ℕ
  addr n = Geometry.address b n

  unfoldable pub page_of : ℕ → ℕ
  page_of e = Geometry.page_of b e

  unfoldable pub word : List ℕ → ℕ → ℕ → ℕ
  word m p j = Mem.word b m p j

  unfoldable pub put : List ℕ → ℕ → ℕ → ℕ → List ℕ
  put m p j x = Mem.put b m p j x

  -- the words xs from word j of page p on
  unfoldable pub put_l : List ℕ → ℕ → ℕ → List ℕ → List ℕ
  put_l m p j xs = Mem.overwrite m (Mem.index b p j) xs

  unfoldable pub wipe : List ℕ → ℕ → List ℕ
  wipe m p = Mem.wipe b m p

  -- N pages
  unfoldable pub Sized : ℕ → List ℕ → Type 0
  Sized N m = length m ≡ N * Geometry.page_words b

  -- a virtual page number is cut into a directory index and a table index
  unfoldable pub idx : ℕ → ℕ
  idx v = Geometry.directory_index b v

  unfoldable pub off : ℕ → ℕ
  off v = Geometry.table_index b v

  unfoldable pub join : ℕ → ℕ → ℕ
  join i j = i * Geometry.page_words b + j

  -- the words of tables and of their roots
  unfoldable pub pte : ℕ → Bool → ℕ → ℕ
  pte p a r = Entry.entry b p (bit a) r

  unfoldable pub link : ℕ → ℕ
  link q = Geometry.address b q + 1

  -- the accessible bit set or cleared
  unfoldable pub set_acc : Bool → ℕ → ℕ
  set_acc a e = Entry.entry b (Geometry.page_of b e) (bit a) (Entry.rights e)

module _ {b : ℕ} (wide : 6 ≤ b) where
  -- ---- one word

  pub put-sized : (N : ℕ) (m : List ℕ) (p j x : ℕ) → Sized b N m → Sized b N (put b m p j x)
  unfolding Sized put
  put-sized N m p j x h = length-set m (Mem.index b p j) x ∙ h

  inside : (N : ℕ) (m : List ℕ) (p j : ℕ) → Sized b N m → p < N → j < W b → Mem.index b p j < length m
  unfolding Sized W
  inside N m p j h l k = subst (λ (x : ℕ). Mem.index b p j < x) (sym h) (digits_lt l k)

  pub word-put-same : (N : ℕ) (m : List ℕ) (p j x : ℕ) → Sized b N m → p < N → j < W b → word b (put b m p j x) p j ≡ x
  unfolding put word
  word-put-same N m p j x h l k = get_or-set_same m (Mem.index b p j) x 0 (inside N m p j h l k)

  pub word-put-other : (m : List ℕ) (p j x q k : ℕ) → j < W b → k < W b → ¬ ((q ≡ p) × (k ≡ j)) → word b (put b m p j x) q k ≡ word b m q k
  unfolding put word W
  word-put-other m p j x q k l n h = get_or-set_other m (Mem.index b p j) (Mem.index b q k) x 0 (λ e. h (index_inj b q p k j n l e))

  -- ---- the cut of a virtual page number

  pub off-lt : (v : ℕ) → off b v < W b
  unfolding off W
  off-lt v = mod-lt v (pow_pos b)

  pub join-cut : (v : ℕ) → join b (idx b v) (off b v) ≡ v
  unfolding join idx off
  join-cut v = div-add-mod' v (2 ^ b)

  pub idx-join : (i j : ℕ) → j < W b → idx b (join b i j) ≡ i
  unfolding join idx W
  idx-join i j h = digits_div i h

  pub off-join : (i j : ℕ) → j < W b → off b (join b i j) ≡ j
  unfolding join off W
  off-join i j h = digits_mod i h

  pub idx-lt : (T v : ℕ) → v < T * W b → idx b v < T
  unfolding idx W
  idx-lt T v h = (div-lt_iff_lt-mul (pow_pos b)).1 h

  pub idx-below : (v : ℕ) → v < words b → idx b v < W b
  unfolding words idx W
  idx-below v h = (div-lt_iff_lt-mul (pow_pos b)).1 h

  pub below-idx : (v : ℕ) → idx b v < W b → v < words b
  unfolding words idx W
  below-idx v h = (div-lt_iff_lt-mul (pow_pos b)).0 h

  -- ---- room in a page

  pub twelve-lt : (j : ℕ) → j < 12 → j < W b
  unfolding W
  twelve-lt j h = omega (arith, words-least b wide)

  pub cover_lt : (T i : ℕ) → T ≤ 10 → i < T → i < W b
  unfolding W
  cover_lt T i l k = omega (arith, words-least b wide)

  pub list-fits : (n : ℕ) → n < 10 → 1 + 6 * n + 6 ≤ W b
  unfolding W
  list-fits n h = omega (arith, words-least b wide)

  pub sixty_one : 61 ≤ W b
  unfolding W
  sixty_one = omega (arith, words-least b wide)

  -- ---- addresses and table words

  three_le : 3 ≤ b
  three_le = omega arith

  pub page_of-addr : (q : ℕ) → page_of b (addr b q) ≡ q
  unfolding page_of addr
  page_of-addr q = page-address b q

  pub page_of-link : (q : ℕ) → page_of b (link b q) ≡ q
  unfolding page_of link
  page_of-link q = digits_div q {m = Geometry.page_bytes b} {r = 1} (omega (arith, pow_pos b))

  pub page_of-zero : page_of b 0 ≡ 0
  unfolding page_of
  page_of-zero = ap (Geometry.page_of b) (sym (zero-mul (Geometry.page_bytes b))) ∙ page-address b 0

  pub page_of-pte : (p : ℕ) (a : Bool) (r : ℕ) → r < 8 → page_of b (pte b p a r) ≡ p
  unfolding page_of pte
  page_of-pte p a r h = entry-page b p (bit a) r three_le (bit-lt a) h

  pub acc_of-pte : (p : ℕ) (a : Bool) (r : ℕ) → r < 8 → acc_of (pte b p a r) ≡ bit a
  unfolding acc_of pte
  acc_of-pte p a r h = entry-accessible b p (bit a) r three_le (bit-lt a) h

  pub rights_of-pte : (p : ℕ) (a : Bool) (r : ℕ) → r < 8 → rights_of (pte b p a r) ≡ r
  unfolding rights_of pte
  rights_of-pte p a r h = entry-rights b p (bit a) r three_le (bit-lt a) h

  pub set_acc-pte : (p : ℕ) (a c : Bool) (r : ℕ) → r < 8 → set_acc b c (pte b p a r) ≡ pte b p c r
  unfolding set_acc pte
  set_acc-pte p a c r h = rw (entry-page b p (bit a) r three_le (bit-lt a) h, entry-rights b p (bit a) r three_le (bit-lt a) h) refl

  pub pte_nz : (p : ℕ) (a : Bool) (r : ℕ) → pte b p a r ≢ 0
  unfolding pte
  pte_nz p a r = omega arith

  pub link_nz : (q : ℕ) → link b q ≢ 0
  unfolding link
  link_nz q = omega arith

  pub addr_inj : (u v : ℕ) → addr b u ≡ addr b v → u ≡ v
  unfolding addr
  addr_inj u v e = address_inj b u v e

  pub addr-zero : addr b 0 ≡ 0
  unfolding addr
  addr-zero = omega arith

  pub addr_nz : (v : ℕ) → v ≢ 0 → addr b v ≢ 0
  addr_nz v h e = h (addr_inj v 0 (e ∙ sym addr-zero))

  pub addr-not-one : (v : ℕ) → addr b v ≢ 1
  unfolding addr
  addr-not-one zero e = omega arith
  addr-not-one (suc v) e = omega (arith, suc-mul v (Geometry.page_bytes b), pow_pos b)

  pub acc_of-zero : acc_of 0 ≡ 0
  unfolding acc_of
  acc_of-zero = refl

  -- ---- a page wiped

  pub wipe-sized : (N : ℕ) (m : List ℕ) (p : ℕ) → Sized b N m → Sized b N (wipe b m p)
  unfolding wipe Sized
  wipe-sized N m p h = length-wipe b m p ∙ h

  pub wipe-other : (m : List ℕ) (p q k : ℕ) → k < W b → q ≢ p → word b (wipe b m p) q k ≡ word b m q k
  unfolding wipe word W
  wipe-other m p q k l h = wipe-frame b m p q k (λ e. h (sym e)) l

  pub wipe-same : (N : ℕ) (m : List ℕ) (p k : ℕ) → Sized b N m → p < N → k < W b → word b (wipe b m p) p k ≡ 0
  unfolding wipe word W
  wipe-same N m p k s l h = wipe-own b m p k h (inside N m p k s l h)

  -- ---- several words

  pub put_l-sized : (N : ℕ) (m : List ℕ) (p j : ℕ) (xs : List ℕ) → Sized b N m → Sized b N (put_l b m p j xs)
  unfolding put_l Sized
  put_l-sized N m p j xs h = length-overwrite m (Mem.index b p j) xs ∙ h

  pub put_l-other : (m : List ℕ) (p j : ℕ) (xs : List ℕ) (q k : ℕ) → j + length xs ≤ W b → k < W b → q ≢ p → word b (put_l b m p j xs) q k ≡ word b m q k
  unfolding put_l word W
  put_l-other m p j xs q k l h n = go (page-apart b p q k (λ e. n (sym e)) h)
    where
      go : (Mem.index b q k < Mem.start b p) ⊎ (Mem.start b p + Geometry.page_words b ≤ Mem.index b q k)
          → get_or (Mem.overwrite m (Mem.index b p j) xs) (Mem.index b q k) 0 ≡ get_or m (Mem.index b q k) 0
      go (inl x) = overwrite-before m (Mem.index b p j) xs (Mem.index b q k) (omega arith)
      go (inr x) = overwrite-after m (Mem.index b p j) xs (Mem.index b q k) (omega arith)

  pub put_l-before : (m : List ℕ) (p j : ℕ) (xs : List ℕ) (k : ℕ) → k < j → word b (put_l b m p j xs) p k ≡ word b m p k
  unfolding put_l word
  put_l-before m p j xs k l = overwrite-before m (Mem.index b p j) xs (Mem.index b p k) (omega arith)

  pub put_l-at : (N : ℕ) (m : List ℕ) (p j : ℕ) (xs : List ℕ) (i k : ℕ) → Sized b N m → p < N → k ≡ j + i → k < W b
      → word b (put_l b m p j xs) p k ≡ get_or xs i (word b m p k)
  unfolding put_l word
  put_l-at N m p j xs i k s l e h = go (dec_lt i (length xs))
    where
      place : Mem.index b p j + i ≡ Mem.index b p k
      place = omega arith

      go : Dec (i < length xs) → get_or (Mem.overwrite m (Mem.index b p j) xs) (Mem.index b p k) 0 ≡ get_or xs i (get_or m (Mem.index b p k) 0)
      go (yes x) =
          ap (λ (y : ℕ). get_or (Mem.overwrite m (Mem.index b p j) xs) y 0) (sym place)
          ∙ overwrite-at m (Mem.index b p j) xs i x (subst (λ (y : ℕ). y < length m) (sym place) (inside N m p k s l h))
          ∙ get_d_any xs i 0 _ x
      go (no x) = overwrite-after m (Mem.index b p j) xs (Mem.index b p k) (omega arith) ∙ sym (get_or-eq_default xs _ (omega arith))

  pub put_l-same : (N : ℕ) (m : List ℕ) (p : ℕ) (xs : List ℕ) (k : ℕ) → Sized b N m → p < N → k < W b → word b (put_l b m p 0 xs) p k ≡ get_or xs k (word b m p k)
  put_l-same N m p xs k s l h = put_l-at N m p 0 xs k k s l (omega arith) h
