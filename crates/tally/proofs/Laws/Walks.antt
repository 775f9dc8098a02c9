-- A walk with marks as a run: the step that passed, the step that failed, and a walk over those that p picks, by a search. Assumes nothing.
use mathlib.Core.Path.{◌≡◌, refl, sym, ap, ◌∙◌, subst}
use mathlib.Core.List.{List}
use mathlib.Core.Bool.{Bool, true, false, cond, not, ◌&&◌}
use mathlib.Core.Option.{Option, none, some}
use Prim.Native.Nat.{ℕ, min, ◌+◌, ◌-◌, ◌≤◌, ◌<◌}
use native.Mathlib.Omega.{arith}
use native.Mathlib.Decide.{dec_le}
use lib.ListN.{length, get_or, get_or-eq_default}
use lib.Dec.{eqb}
use borrow.Author.Tests.{not-true, not-false}
use Rattle.walk.specs.Finite.{from}
use Rattle.walk.specs.Marks.{Seen, and_then, answer, passed, failed}
use Rattle.memory.specs.Geometry.{page_words}
use Rattle.memory.specs.Words.{page}
use Rattle.memory.specs.Partition.{directory}
use Rattle.memory.specs.Counts.{row}
use Rattle.tally.specs.Search.{seek}
use Rattle.tally.specs.Run.{run, marking}
use Rattle.tally.specs.Rows.{table, child_words}
use Rattle.tally.proofs.Laws.Search.{sought}
use Rattle.tally.proofs.Laws.Run.{run_stuck, run-start, run-next, run-skip, run_end, marking-none}
use Rattle.tally.proofs.Laws.Rows.{row_step, rows_short, table-short}

-- ---- one step: r is what the code answered, t the marks that it left

module _ (p : ℕ → Bool) (f : Seen → ℕ → Option Seen) (s : Seen) (i : ℕ) where
  pub step_is : (r : Bool) (t : Seen) → cond (p i) (f s i) (some s) ≡ answer r t → not r ≡ false → some t ≡ marking p f (some s) i
  unfolding and_then
  step_is r t e y = sym (passed (cond (p i) (f s i) (some s)) r t e (not-false r y))

  step-none : (r : Bool) (t : Seen) → cond (p i) (f s i) (some s) ≡ answer r t → not r ≡ true → marking p f (some s) i ≡ none
  unfolding and_then
  step-none r t e y = failed (cond (p i) (f s i) (some s)) r t e (not-true r y)

  pub walk-stop : {o : Option Seen} (k : ℕ) (r : Bool) (t : Seen) → i < k → cond (p i) (f s i) (some s) ≡ answer r t → not r ≡ true → o ≡ run (marking p f) (some s) (from (k - i) i) → o ≡ none
  walk-stop k r t h e y w =
      w ∙ run-next (marking p f) k i h (some s)
      ∙ ap (λ (u : Option Seen). run (marking p f) u (from (k - (i + 1)) (i + 1))) (step-none r t e y)
      ∙ marking-none p f (from (k - (i + 1)) (i + 1))

-- ---- rows: nothing follows one that failed

module _ (b : ℕ) (m : List ℕ) (p : ℕ → Bool) (f : Seen → ℕ → Option Seen) (d : ℕ) where
  pub rows-failed : (k i : ℕ) → run (row_step b m (marking p f) d) none (from (k - i) i) ≡ none
  rows-failed k i = run_stuck (row_step b m (marking p f) d) none (λ x. marking-none p f (row b m d x)) (from (k - i) i)

  pub rows-stop : {o : Option Seen} (s : List ℕ) → s ≡ page b m (directory b m d) → (i : ℕ) (u : Option Seen) → i < length s → run (marking p f) u (row b m d i) ≡ none
      → o ≡ run (row_step b m (marking p f) d) u (from (page_words b - i) i) → o ≡ none
  rows-stop s e i u h q w =
      w ∙ run-next (row_step b m (marking p f) d) (page_words b) i (omega (arith, rows_short b m (marking p f) d s e)) u
      ∙ ap (λ (v : Option Seen). run (row_step b m (marking p f) d) v (from (page_words b - (i + 1)) (i + 1))) q
      ∙ rows-failed (page_words b) (i + 1)

-- ---- the places of a row that p picks, all of them below n

module _ (p : ℕ → Bool) (f : Seen → ℕ → Option Seen) (k n : ℕ) (short : n ≤ k) (rest : (x : ℕ) → n ≤ x → p x ≡ false) where
  left : (o : Option Seen) (x : ℕ) → p x ≡ false → marking p f o x ≡ o
  left o x e = ap (λ (t : Bool). cond t (and_then o (λ s. f s x)) o) e

  pub picked_on : (i : ℕ) {r : ℕ} (o : Option Seen) → r ≡ seek p (n - i) i → run (marking p f) o (from (k - i) i) ≡ run (marking p f) o (from (k - r) r)
  picked_on i {r} o e = let q = sought p (n - i) i e in run-skip (marking p f) k i r o q.low (λ x a c. left o x (q.passed x a c))

  pub picked_first : {r : ℕ} (o : Option Seen) → r ≡ seek p (n - 0) 0 → run (marking p f) o (from k 0) ≡ run (marking p f) o (from (k - r) r)
  picked_first o e = run-start (marking p f) k o ∙ picked_on 0 o e

  pub picked_next : {i r : ℕ} (o u : Option Seen) → i < n → u ≡ marking p f o i → r ≡ seek p (n - (i + 1)) (i + 1) → run (marking p f) o (from (k - i) i) ≡ run (marking p f) u (from (k - r) r)
  picked_next {i = i} o u h q e =
      run-next (marking p f) k i (omega arith) o ∙ ap (λ (v : Option Seen). run (marking p f) v (from (k - (i + 1)) (i + 1))) (sym q) ∙ picked_on (i + 1) u e

  pub picked_fails : {i : ℕ} (o : Option Seen) → i < n → marking p f o i ≡ none → run (marking p f) o (from (k - i) i) ≡ none
  picked_fails {i = i} o h q =
      run-next (marking p f) k i (omega arith) o ∙ ap (λ (v : Option Seen). run (marking p f) v (from (k - (i + 1)) (i + 1))) q ∙ marking-none p f (from (k - (i + 1)) (i + 1))

  pub picked_end : {i : ℕ} (o : Option Seen) → n ≤ i → run (marking p f) o (from (k - i) i) ≡ o
  picked_end {i = i} o h = elim (dec_le k i) [
    | yes l ↦ run_end (marking p f) k i o l
    | no l ↦ run-skip (marking p f) k i k o (omega arith) (λ x a c. left o x (rest x (omega arith))) ∙ run_end (marking p f) k k o (omega arith)
  ]

-- a step at one that p picks
pub picked_is : (p : ℕ → Bool) (f : Seen → ℕ → Option Seen) (s : Seen) (i : ℕ) → p i ≡ true → marking p f (some s) i ≡ f s i
unfolding and_then
picked_is p f s i e = ap (λ (t : Bool). cond t (f s i) (some s)) e

-- the shorter of two tables, and no child past its end
pub child-short : (b : ℕ) (m : List ℕ) {pt : List ℕ} (s1 : List ℕ) {n : ℕ} (w : ℕ) → pt ≡ table b m w → n ≡ min (length pt) (length s1) → n ≤ page_words b
child-short b m {pt} s1 w e q = let h : length pt ≤ page_words b = subst (λ (t : List ℕ). length t ≤ page_words b) (sym e) (table-short b m w) in omega arith

pub child-rest : (pt s1 : List ℕ) {n : ℕ} → n ≡ min (length pt) (length s1) → (x : ℕ) → n ≤ x → child_words (get_or pt x 0) (get_or s1 x 0) ≡ false
child-rest pt s1 {n} e x h = elim (dec_le (length pt) x) [
  | yes l ↦ ap (λ (w : ℕ). child_words w (get_or s1 x 0)) (get_or-eq_default pt 0 l)
  | no l ↦ ap (λ (y : ℕ). child_words (get_or pt x 0) y) (get_or-eq_default s1 0 (omega arith)) ∙ never (eqb (get_or pt x 0) 0)
]
  where
    never : (t : Bool) → not t && eqb 0 1 ≡ false
    never true = refl
    never false = refl
