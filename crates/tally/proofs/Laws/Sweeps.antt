-- The sweeps over the tables of a partition d: what each comes to as a run over its addresses, and at a row by the words of its tables. Assumes nothing.
use mathlib.Core.Path.{◌≡◌, refl, sym, ap, ◌∙◌}
use mathlib.Core.Logic.{◌≢◌}
use mathlib.Core.List.{List, [], ◌∷◌}
use mathlib.Core.Bool.{Bool, true, false, cond, not, ◌&&◌, false≢true, and_comm}
use mathlib.Core.Option.{Option, some}
use Prim.Native.Nat.{ℕ, ◌+◌, ◌-◌, ◌*◌, ◌≤◌, ◌<◌}
use native.Mathlib.Omega.{arith}
use lib.Dec.{eqb}
use lib.ListN.{length, get_or}
use borrow.Author.Tests.{ne_eqb}
use Rattle.walk.specs.Finite.{from, all, keep, image}
use Rattle.walk.specs.Marks.{Seen, each, mark, marks}
use Rattle.memory.specs.Geometry.{page_words, address, page_of, threes_for, flat_pages}
use Rattle.memory.specs.Words.{word, page}
use Rattle.memory.specs.Partition.{pages, directory, shadow1, shadow2, parent, threes, mapping, lent, above, in_hand}
use Rattle.memory.specs.Counts.{row, tabled, child_at, child_of, children, hand_addresses}
use Rattle.memory.proofs.Geometry.{page-address}
use Rattle.soundness.specs.Test.{root_map_test, from_parent, hand_pages}
use Rattle.judging.specs.Quick.{rise, top, child_cell, lent_cell, shadow1_cell, below_root, cell, shut_cell, shut_count, due_count, lent_count, mapped_count, sources}
use Rattle.tally.specs.Blocks.{empty_block}
use Rattle.tally.specs.Run.{run, adding, asking, marking, bit}
use Rattle.tally.specs.Rows.{table, used, child_words, shut_words, hand_words, due_words, Lends, below_words, cell_words, rise_at, root_word, root_words}
use Rattle.tally.proofs.Laws.Run.{run-image, run-keep, run-next, run-skip, sum-on, length_run, sums_run, all-run, each-run}
use Rattle.tally.proofs.Laws.Blocks.{empty-word}
use Rattle.tally.proofs.Laws.Rows.{cell_at, row-run, rows_short}

-- the last shadow 2 word of a row, as long as they rise, once a place is reached
abbrev pub rise_in : List ℕ → List ℕ → ℕ → ℕ → ℕ
rise_in pt s2 t j = rise_at t (get_or pt j 0) (get_or s2 j 0)

-- ---- a block in which all three words are 0 at each place: its cells pass, and no page is mapped there

module _ (r s t : List ℕ) (n i : ℕ) {u : Bool} (hr : n ≤ length r) (hs : n ≤ length s) (ht : n ≤ length t)
    (q : u ≡ (empty_block r n i && empty_block s n i && empty_block t n i)) (e : u ≡ true) where
  three : (f g h : Bool) → (f && g && h) ≡ true → (f ≡ true) × (g ≡ true) × (h ≡ true)
  three true true true z = (z, z, z)
  three true true false z = absurd (false≢true z)
  three true false h z = absurd (false≢true z)
  three false g h z = absurd (false≢true z)

  empty : (x : ℕ) → i ≤ x → x < i + 8 → (get_or r x 0 ≡ 0) × (get_or s x 0 ≡ 0) × (get_or t x 0 ≡ 0)
  empty x a l =
      let (er, es, et) = three (empty_block r n i) (empty_block s n i) (empty_block t n i) (sym q ∙ e) in
      (empty-word n i r hr er x a l, empty-word n i s hs es x a l, empty-word n i t ht et x a l)

  pub cells-past : (b : ℕ) (m : List ℕ) (d v k : ℕ)
      → run (asking (λ x. cell_words b m d (address b (v + x)) (get_or r x 0) (get_or s x 0) (get_or t x 0))) true (from (k - i) i)
      ≡ run (asking (λ x. cell_words b m d (address b (v + x)) (get_or r x 0) (get_or s x 0) (get_or t x 0))) true (from (k - (i + 8)) (i + 8))
  cells-past b m d v k =
      run-skip (asking (λ x. cell_words b m d (address b (v + x)) (get_or r x 0) (get_or s x 0) (get_or t x 0))) k i (i + 8) true (omega arith)
      (λ x a l. let z = empty x a l in rw (z.0, z.1, z.2) refl)

  pub rise-past : (k u : ℕ) → run (rise_in r t) u (from (k - i) i) ≡ run (rise_in r t) u (from (k - (i + 8)) (i + 8))
  rise-past k u = run-skip (rise_in r t) k i (i + 8) u (omega arith) (λ x a l. ap (λ (w : ℕ). rise_at u w (get_or t x 0)) (empty x a l).0)

-- w and y are what the code read at i, r what it came to there, o what the whole comes to
pub rise-next : (pt s2 : List ℕ) (k i t : ℕ) {o r w y : ℕ} → i < k → w ≡ get_or pt i 0 → y ≡ get_or s2 i 0 → r ≡ rise_at t w y
    → o ≡ run (rise_in pt s2) t (from (k - i) i) → o ≡ run (rise_in pt s2) r (from (k - (i + 1)) (i + 1))
rise-next pt s2 k i t {y = y} h e f q g =
    g ∙ run-next (rise_in pt s2) k i h t
    ∙ ap (λ (u : ℕ). run (rise_in pt s2) u (from (k - (i + 1)) (i + 1))) (sym (q ∙ ap (λ (z : ℕ). rise_at t z y) e ∙ ap (rise_at t (get_or pt i 0)) f))

-- what the code comes to at a place where a page is mapped, and where none is
pub rise-mapped : (t w y : ℕ) {r : ℕ} → w ≢ 0 → r ≡ rise t y → r ≡ rise_at t w y
rise-mapped t w y n q = q ∙ ap (λ (z : Bool). cond z t (rise t y)) (sym (ne_eqb w 0 n))

pub rise-unmapped : (t w y : ℕ) → w ≡ 0 → t ≡ rise_at t w y
rise-unmapped t w y e = ap (λ (z : ℕ). rise_at t z y) (sym e)

-- the words that the code read
pub cell-words : (b : ℕ) (m : List ℕ) (d v : ℕ) {w x y w' x' y' : ℕ} → w ≡ w' → x ≡ x' → y ≡ y' → cell_words b m d v w x y ≡ cell_words b m d v w' x' y'
cell-words b m d v {w} {x} {y} {w'} {x'} {y'} e f g =
    ap (λ (z : ℕ). cell_words b m d v z x y) e ∙ ap (λ (z : ℕ). cell_words b m d v w' z y) f ∙ ap (λ (z : ℕ). cell_words b m d v w' x' z) g

-- the parent and the address there that the code looked up
pub from_lender : (b : ℕ) (m : List ℕ) (d w y : ℕ) {dir sh1 v : ℕ} → Lends b m (parent b m d) dir sh1 → v ≡ word b m d 0
    → below_words b m dir sh1 v w y ≡ below_words b m (directory b m (parent b m d)) (shadow1 b m (parent b m d)) (word b m d 0) w y
from_lender b m d w y (e, f) g = rw (e, f, g)

pub root-words : (b t flat v : ℕ) {w y w' y' : ℕ} → w ≡ w' → y ≡ y' → root_words b t flat v w y ≡ root_words b t flat v w' y'
root-words b t flat v {w} {y} {w'} {y'} e f = ap (λ (x : ℕ). root_words b t flat v x y) e ∙ ap (λ (x : ℕ). root_words b t flat v w' x) f

top-run : (ys : List ℕ) (t : ℕ) → top t ys ≡ run rise t ys
unfolding top run
top-run [] t = refl
top-run (y ∷ ys) t = top-run ys (rise t y)

module _ (b : ℕ) (m : List ℕ) (d : ℕ) where
  -- what is added at an address
  abbrev pub mapped_at : ℕ → ℕ
  mapped_at v = bit (not (eqb (mapping b m d v) 0))

  abbrev pub shut_at : ℕ → ℕ
  shut_at v = bit (shut_words (mapping b m d v) (lent b m d v))

  abbrev pub due_at : ℕ → ℕ
  due_at v = due_words b m (mapping b m d v) (lent b m d v)

  abbrev pub lent_at : ℕ → ℕ → ℕ
  lent_at x v = bit (eqb (lent b m d v) x)

  pub mapped_run : mapped_count b m d ≡ run (adding mapped_at) 0 (tabled b m d)
  unfolding mapped_count
  mapped_run = length_run (λ v. not (eqb (mapping b m d v) 0)) (tabled b m d)

  pub shut_run : shut_count b m d ≡ run (adding shut_at) 0 (tabled b m d)
  unfolding shut_count shut_cell
  shut_run = length_run (shut_cell b m d) (tabled b m d)

  pub due_run : due_count b m d ≡ run (adding due_at) 0 (tabled b m d)
  unfolding due_count children child_at child_of
  due_run = sums_run (λ c. 5 + 3 * threes b m c) (child_of b m d) (child_at b m d) (tabled b m d)

  pub lent-run : (x : ℕ) → lent_count b m d x ≡ run (adding (lent_at x)) 0 (tabled b m d)
  unfolding lent_count
  lent-run x = length_run (λ v. eqb (lent b m d v) x) (tabled b m d)

  -- the last shadow 2 word, as long as they rise, once an address is reached
  abbrev pub above_at : ℕ → ℕ → ℕ
  above_at t v = rise_at t (mapping b m d v) (above b m d v)

  pub rise-run : top 0 (sources b m d) ≡ run above_at 0 (tabled b m d)
  unfolding sources
  rise-run =
      top-run (image (above b m d) (keep (λ v. not (eqb (mapping b m d v) 0)) (tabled b m d))) 0
      ∙ run-image rise (above b m d) (keep (λ v. not (eqb (mapping b m d v) 0)) (tabled b m d)) 0
      ∙ run-keep (λ t v. rise t (above b m d v)) (λ v. eqb (mapping b m d v) 0) (tabled b m d) 0

  pub cells-run : all (cell b m d) (tabled b m d) ≡ run (asking (cell b m d)) true (tabled b m d)
  cells-run = all-run (cell b m d) (tabled b m d)

  pub root-run : all (root_map_test b m) (tabled b m d) ≡ run (asking (root_map_test b m)) true (tabled b m d)
  root-run = all-run (root_map_test b m) (tabled b m d)

  -- the steps of the marks and of the children
  abbrev pub hand_at : Option Seen → ℕ → Option Seen
  hand_at = marking (in_hand b m d) (λ s v. mark s (page_of b (mapping b m d v)))

  pub hands-run : (s : Seen) → marks s (hand_pages b m d) ≡ run hand_at (some s) (tabled b m d)
  unfolding hand_pages hand_addresses
  hands-run s = each-run mark (λ v. page_of b (mapping b m d v)) (in_hand b m d) (tabled b m d) s

  abbrev pub child_step : (Seen → ℕ → Option Seen) → Option Seen → ℕ → Option Seen
  child_step f = marking (λ v. child_words (mapping b m d v) (lent b m d v)) (λ s v. f s (page_of b (mapping b m d v)))

  pub children-run : (f : Seen → ℕ → Option Seen) (s : Seen) → each f s (children b m d) ≡ run (child_step f) (some s) (tabled b m d)
  unfolding children child_at child_of
  children-run f s = each-run f (child_of b m d) (child_at b m d) (tabled b m d) s

  -- ---- at row i: pt is its page table, s1 and s2 are its shadow tables

  module _ (i : ℕ) {dir pt : List ℕ} (e : dir ≡ page b m (directory b m d)) (h : i < length dir) (n : used dir i ≡ true) (ep : pt ≡ table b m (get_or dir i 0)) where
    inside : i < page_words b
    inside = omega (arith, rows_short b m {S = ℕ} (λ s x. s) d dir e)

    w_at : (j : ℕ) → j < page_words b → mapping b m d (address b (i * page_words b + j)) ≡ get_or pt j 0
    w_at j l = cell_at b m (directory b m d) i j e inside refl l ∙ ap (λ (t : List ℕ). get_or t j 0) (sym ep)

    pub mapped-row : (c : ℕ) {r : ℕ} → r ≡ run (adding (λ j. bit (not (eqb (get_or pt j 0) 0)))) 0 (from (page_words b) 0) → c + r ≡ run (adding mapped_at) c (row b m d i)
    mapped-row c q =
        ap (λ (x : ℕ). c + x) q
        ∙ sym (row-run b m (adding mapped_at) d dir e (adding (λ j. bit (not (eqb (get_or pt j 0) 0)))) i c h n (λ j l t. ap (λ (w : ℕ). t + bit (not (eqb w 0))) (w_at j l))
        ∙ sum-on (λ j. bit (not (eqb (get_or pt j 0) 0))) (from (page_words b) 0) c)

    -- x and y are the words of index i in the shadows' pages
    y-at : {s2 sh2 : List ℕ} {y : ℕ} → sh2 ≡ page b m (shadow2 b m d) → y ≡ get_or sh2 i 0 → s2 ≡ table b m y → (j : ℕ) → j < page_words b → above b m d (address b (i * page_words b + j)) ≡ get_or s2 j 0
    y-at e2 ey et j l = cell_at b m (shadow2 b m d) i j e2 inside ey l ∙ ap (λ (t : List ℕ). get_or t j 0) (sym et)

    pub rise-row : {s2 sh2 : List ℕ} {y : ℕ} → sh2 ≡ page b m (shadow2 b m d) → y ≡ get_or sh2 i 0 → s2 ≡ table b m y
        → (t : ℕ) {r : ℕ} → r ≡ run (rise_in pt s2) t (from (page_words b) 0) → r ≡ run above_at t (row b m d i)
    rise-row {s2 = s2} e2 ey et t q =
        q ∙ sym (row-run b m above_at d dir e (rise_in pt s2) i t h n
        (λ j l u. ap (λ (w : ℕ). rise_at u w (above b m d (address b (i * page_words b + j)))) (w_at j l) ∙ ap (rise_at u (get_or pt j 0)) (y-at e2 ey et j l)))

    module _ {s1 sh1 : List ℕ} {x : ℕ} (e1 : sh1 ≡ page b m (shadow1 b m d)) (ex : x ≡ get_or sh1 i 0) (es : s1 ≡ table b m x) where
      x-at : (j : ℕ) → j < page_words b → lent b m d (address b (i * page_words b + j)) ≡ get_or s1 j 0
      x-at j l = cell_at b m (shadow1 b m d) i j e1 inside ex l ∙ ap (λ (t : List ℕ). get_or t j 0) (sym es)

      pub shut_row : (c : ℕ) {r : ℕ} → r ≡ run (adding (λ j. bit (shut_words (get_or pt j 0) (get_or s1 j 0)))) 0 (from (page_words b) 0) → c + r ≡ run (adding shut_at) c (row b m d i)
      shut_row c q =
          ap (λ (y : ℕ). c + y) q
          ∙ sym (row-run b m (adding shut_at) d dir e (adding (λ j. bit (shut_words (get_or pt j 0) (get_or s1 j 0)))) i c h n
          (λ j l t. ap (λ (w : ℕ). t + bit (shut_words w (lent b m d (address b (i * page_words b + j))))) (w_at j l) ∙ ap (λ (y : ℕ). t + bit (shut_words (get_or pt j 0) y)) (x-at j l))
          ∙ sum-on (λ j. bit (shut_words (get_or pt j 0) (get_or s1 j 0))) (from (page_words b) 0) c)

      pub due-row : (c : ℕ) {r : ℕ} → r ≡ run (adding (λ j. due_words b m (get_or pt j 0) (get_or s1 j 0))) 0 (from (page_words b) 0) → c + r ≡ run (adding due_at) c (row b m d i)
      due-row c q =
          ap (λ (y : ℕ). c + y) q
          ∙ sym (row-run b m (adding due_at) d dir e (adding (λ j. due_words b m (get_or pt j 0) (get_or s1 j 0))) i c h n
          (λ j l t. ap (λ (w : ℕ). t + due_words b m w (lent b m d (address b (i * page_words b + j)))) (w_at j l) ∙ ap (λ (y : ℕ). t + due_words b m (get_or pt j 0) y) (x-at j l))
          ∙ sum-on (λ j. due_words b m (get_or pt j 0) (get_or s1 j 0)) (from (page_words b) 0) c)

      pub lent_row : (v c : ℕ) {r : ℕ} → r ≡ run (adding (λ j. bit (eqb (get_or s1 j 0) v))) 0 (from (page_words b) 0) → c + r ≡ run (adding (lent_at v)) c (row b m d i)
      lent_row v c q =
          ap (λ (y : ℕ). c + y) q
          ∙ sym (row-run b m (adding (lent_at v)) d dir e (adding (λ j. bit (eqb (get_or s1 j 0) v))) i c h n (λ j l t. ap (λ (y : ℕ). t + bit (eqb y v)) (x-at j l))
          ∙ sum-on (λ j. bit (eqb (get_or s1 j 0) v)) (from (page_words b) 0) c)

      pub hands-row : (o : Option Seen) → run hand_at o (row b m d i) ≡ run (marking (λ j. hand_words (get_or pt j 0) (get_or s1 j 0)) (λ s j. mark s (page_of b (get_or pt j 0)))) o (from (page_words b) 0)
      hands-row o =
          row-run b m hand_at d dir e (marking (λ j. hand_words (get_or pt j 0) (get_or s1 j 0)) (λ s j. mark s (page_of b (get_or pt j 0)))) i o h n
          (λ j l t. ap (λ (w : ℕ). marking (λ y. hand_words w (lent b m d y)) (λ s y. mark s (page_of b w)) t (address b (i * page_words b + j))) (w_at j l)
          ∙ ap (λ (y : ℕ). marking (λ z. hand_words (get_or pt j 0) y) (λ s z. mark s (page_of b (get_or pt j 0))) t j) (x-at j l))

      pub children-row : (f : Seen → ℕ → Option Seen) (o : Option Seen)
          → run (child_step f) o (row b m d i) ≡ run (marking (λ j. child_words (get_or pt j 0) (get_or s1 j 0)) (λ s j. f s (page_of b (get_or pt j 0)))) o (from (page_words b) 0)
      children-row f o =
          row-run b m (child_step f) d dir e (marking (λ j. child_words (get_or pt j 0) (get_or s1 j 0)) (λ s j. f s (page_of b (get_or pt j 0)))) i o h n
          (λ j l t. ap (λ (w : ℕ). marking (λ y. child_words w (lent b m d y)) (λ s y. f s (page_of b w)) t (address b (i * page_words b + j))) (w_at j l)
          ∙ ap (λ (y : ℕ). marking (λ z. child_words (get_or pt j 0) y) (λ s z. f s (page_of b (get_or pt j 0))) t j) (x-at j l))

      module _ {s2 sh2 : List ℕ} {y : ℕ} (e2 : sh2 ≡ page b m (shadow2 b m d)) (ey : y ≡ get_or sh2 i 0) (et : s2 ≡ table b m y) where
        cell-is : (v : ℕ) → cell b m d v ≡ cell_words b m d v (mapping b m d v) (lent b m d v) (above b m d v)
        unfolding cell shadow1_cell child_cell lent_cell below_root from_parent child_of
        cell-is v = refl

        pub cells-row : {r : Bool} {v : ℕ} → v ≡ i * page_words b
            → r ≡ run (asking (λ j. cell_words b m d (address b (v + j)) (get_or pt j 0) (get_or s1 j 0) (get_or s2 j 0))) true (from (page_words b) 0) → r ≡ run (asking (cell b m d)) true (row b m d i)
        cells-row {v = v} q g =
            g ∙ ap (λ (k : ℕ). run (asking (λ j. cell_words b m d (address b (k + j)) (get_or pt j 0) (get_or s1 j 0) (get_or s2 j 0))) true (from (page_words b) 0)) q
            ∙ sym (row-run b m (asking (cell b m d)) d dir e (asking (λ j. cell_words b m d (address b (i * page_words b + j)) (get_or pt j 0) (get_or s1 j 0) (get_or s2 j 0))) i true h n (λ j l t. ap (λ (k : Bool). t && k) (same j l)))
          where
            same : (j : ℕ) → j < page_words b
                → cell b m d (address b (i * page_words b + j)) ≡ cell_words b m d (address b (i * page_words b + j)) (get_or pt j 0) (get_or s1 j 0) (get_or s2 j 0)
            same j l =
                cell-is (address b (i * page_words b + j))
                ∙ ap (λ (w : ℕ). cell_words b m d (address b (i * page_words b + j)) w (lent b m d (address b (i * page_words b + j))) (above b m d (address b (i * page_words b + j)))) (w_at j l)
                ∙ ap (λ (z : ℕ). cell_words b m d (address b (i * page_words b + j)) (get_or pt j 0) z (above b m d (address b (i * page_words b + j)))) (x-at j l)
                ∙ ap (λ (z : ℕ). cell_words b m d (address b (i * page_words b + j)) (get_or pt j 0) (get_or s1 j 0) z) (y-at e2 ey et j l)

-- ---- a row of the root

module _ (b : ℕ) (m : List ℕ) (i : ℕ) {dir pt s2 sh2 : List ℕ} {y : ℕ} (e : dir ≡ page b m (directory b m 1)) (h : i < length dir) (n : used dir i ≡ true) (ep : pt ≡ table b m (get_or dir i 0))
    (e2 : sh2 ≡ page b m (shadow2 b m 1)) (ey : y ≡ get_or sh2 i 0) (et : s2 ≡ table b m y) where
  abbrev root_at : ℕ → ℕ → ℕ → Bool
  root_at = root_words b (threes_for b (pages b m)) (flat_pages b (pages b m))

  root_is : (v : ℕ) → root_map_test b m v ≡ root_at (page_of b v) (mapping b m 1 v) (above b m 1 v)
  unfolding root_map_test
  root_is v = and_comm (root_word b (threes_for b (pages b m)) (flat_pages b (pages b m)) (page_of b v) (mapping b m 1 v)) (eqb (above b m 1 v) 0)

  root-same : (j : ℕ) → j < page_words b → root_map_test b m (address b (i * page_words b + j)) ≡ root_at (i * page_words b + j) (get_or pt j 0) (get_or s2 j 0)
  root-same j l =
      root_is (address b (i * page_words b + j))
      ∙ ap (λ (k : ℕ). root_at k (mapping b m 1 (address b (i * page_words b + j))) (above b m 1 (address b (i * page_words b + j)))) (page-address b (i * page_words b + j))
      ∙ ap (λ (w : ℕ). root_at (i * page_words b + j) w (above b m 1 (address b (i * page_words b + j)))) (w_at b m 1 i e h n ep j l)
      ∙ ap (λ (z : ℕ). root_at (i * page_words b + j) (get_or pt j 0) z) (y-at b m 1 i e h n ep e2 ey et j l)

  pub root-row : {r : Bool} {v p t f : ℕ} → v ≡ i * page_words b → p ≡ pages b m → t ≡ threes_for b p → f ≡ flat_pages b p
      → r ≡ run (asking (λ j. root_words b t f (v + j) (get_or pt j 0) (get_or s2 j 0))) true (from (page_words b) 0)
      → r ≡ run (asking (root_map_test b m)) true (row b m 1 i)
  root-row {v = v} {f = f} q eq er ef g =
      g ∙ ap (λ (k : ℕ). run (asking (λ j. root_words b k f (v + j) (get_or pt j 0) (get_or s2 j 0))) true (from (page_words b) 0)) (er ∙ ap (threes_for b) eq)
      ∙ ap (λ (k : ℕ). run (asking (λ j. root_words b (threes_for b (pages b m)) k (v + j) (get_or pt j 0) (get_or s2 j 0))) true (from (page_words b) 0))
      (ef ∙ ap (flat_pages b) eq)
      ∙ ap (λ (k : ℕ). run (asking (λ j. root_at (k + j) (get_or pt j 0) (get_or s2 j 0))) true (from (page_words b) 0)) q
      ∙ sym (row-run b m (asking (root_map_test b m)) 1 dir e (asking (λ j. root_at (i * page_words b + j) (get_or pt j 0) (get_or s2 j 0))) i true h n (λ j l t. ap (λ (k : Bool). t && k) (root-same j l)))
