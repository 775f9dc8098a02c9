-- The walk over the tree, and whether current is in it, in the code's terms. Assumes nothing.
use mathlib.Core.Path.{◌≡◌, refl, sym, ap, ◌∙◌}
use mathlib.Core.Bool.{Bool, true, false, cond, not, ◌&&◌}
use mathlib.Core.List.{List, [], ◌∷◌}
use mathlib.Core.Logic.{◌≢◌}
use mathlib.Core.Option.{Option, none, some}
use Prim.Native.Nat.{ℕ, zero, suc, ◌+◌, ◌-◌, ◌*◌, ◌<◌}
use native.Mathlib.Omega.{arith}
use lib.Dec.{eqb}
use borrow.Author.Tests.{eq-eqb, ne_eqb}
use Rattle.walk.specs.Lists.{sum_of}
use Rattle.walk.specs.Marks.{Seen, each, each-done, marks}
use Rattle.walk.specs.Walk as W
use Rattle.memory.specs.Words.{word}
use Rattle.memory.specs.Partition.{parent, threes, table_for}
use Rattle.memory.specs.Counts.{child_at, child_of, children}
use Rattle.soundness.specs.Test.{virtual, own, placed, under}
use Rattle.judging.specs.Quick.{due_count, mapped_count, partition_test}
use Rattle.judge.specs.Alone.{alone_test, cells_test}
use Rattle.judge.proofs.Laws.Order.{partition_as}
use Rattle.own_pages.proofs.Laws.Tests.{yes, no, and-false}

none_summed : (f : ℕ → ℕ) (l : List ℕ) → sum_of (λ c. 5 + f c) l ≡ 0 → l ≡ []
unfolding sum_of
none_summed f [] e = refl
none_summed f (c ∷ l) e = absurd (omega arith)

-- ---- a partition without its cells and its children: x is what its test says, o what marking its pages comes to

pub alone-bad : {x : Bool} (o : Option Seen) → x ≡ false → cond x o none ≡ none
alone-bad o e = ap (λ (y : Bool). cond y o none) e

pub alone-unmarked : (x : Bool) {o : Option Seen} → o ≡ none → cond x o none ≡ none
alone-unmarked true e = e
alone-unmarked false e = refl

pub alone-marked : {x : Bool} {o u : Option Seen} → x ≡ true → o ≡ u → cond x o none ≡ u
alone-marked {o = o} e q = ap (λ (y : Bool). cond y o none) e ∙ q

-- then with them: n is the code's number of the pages mapped, r its answer to the test of the cells
module _ (b : ℕ) (m : List ℕ) (k : ℕ) (s : Seen) (d : ℕ) where
  pub alone-no : cond (alone_test b m d) (marks s (own b m d)) none ≡ none → W.judge (children b m) (own b m) (partition_test b m) k s d ≡ none
  alone-no e = go (alone_test b m d) (cells_test b m d (mapped_count b m d)) (partition_as b m d) e
    where
      go : (x y : Bool) → partition_test b m d ≡ x && y → cond x (marks s (own b m d)) none ≡ none
          → W.judge (children b m) (own b m) (partition_test b m) k s d ≡ none
      go true true q h = W.judge-stop (children b m) (own b m) (partition_test b m) k s d q h
      go true false q h = W.judge-bad (children b m) (own b m) (partition_test b m) k s d q
      go false y q h = W.judge-bad (children b m) (own b m) (partition_test b m) k s d q

  module _ {n : ℕ} {r : Bool} (q : n ≡ mapped_count b m d) (e : r ≡ cells_test b m d n) where
    counted : r ≡ cells_test b m d (mapped_count b m d)
    counted = e ∙ ap (cells_test b m d) q

    pub cells-no : not r ≡ true → W.judge (children b m) (own b m) (partition_test b m) k s d ≡ none
    cells-no f =
        W.judge-bad (children b m) (own b m) (partition_test b m) k s d
        (partition_as b m d ∙ ap (λ (y : Bool). alone_test b m d && y) (no counted f) ∙ and-false (alone_test b m d))

    pub cells-yes : not r ≡ false → (t : Seen) → cond (alone_test b m d) (marks s (own b m d)) none ≡ some t
        → W.judge (children b m) (own b m) (partition_test b m) k s d ≡ W.judges (children b m) (own b m) (partition_test b m) k t (children b m d)
    cells-yes f t h = go (alone_test b m d) (partition_as b m d ∙ ap (λ (y : Bool). alone_test b m d && y) (yes counted f)) h
      where
        go : (x : Bool) → partition_test b m d ≡ x && true → cond x (marks s (own b m d)) none ≡ some t
            → W.judge (children b m) (own b m) (partition_test b m) k s d ≡ W.judges (children b m) (own b m) (partition_test b m) k t (children b m d)
        go true p o = W.judge-go (children b m) (own b m) (partition_test b m) k s d t p o
        go false p o =
            let z : ◌≡◌ {A = ℕ} 0 1 = cc in
            absurd (omega arith)

module _ (b : ℕ) (m : List ℕ) where
  -- where the children of d have no kernel pages there are none, and nothing is to be done for each
  pub no-child : (f : Seen → ℕ → Option Seen) (s : Seen) (d : ℕ) {n : ℕ} → n ≡ due_count b m d → n ≡ 0 → each f s (children b m d) ≡ some s
  unfolding due_count
  no-child f s d q z = ap (each f s) (none_summed (λ c. 3 * threes b m c) (children b m d) (sym q ∙ z)) ∙ each-done f s

  -- up from c, n steps at most
  pub under-root : (n c : ℕ) → c ≡ 1 → true ≡ under b m n c
  unfolding under
  under-root zero c e = sym (eq-eqb c 1 e)
  under-root (suc n) c e = rw (eq-eqb c 1 e) refl

  pub under-not : (n c : ℕ) → 0 < n → c ≢ 1 → placed b m c ≡ false → false ≡ under b m n c
  unfolding under
  under-not zero c h n e = absurd (omega arith)
  under-not (suc k) c h n e = rw (ne_eqb c 1 n) (rw e refl)

  pub under_up : (n c : ℕ) → 0 < n → c ≢ 1 → placed b m c ≡ true → under b m n c ≡ under b m (n - 1) (parent b m c)
  unfolding under
  under_up zero c h n e = absurd (omega arith)
  under_up (suc k) c h n e = let q : suc k - 1 ≡ k = omega arith in rw (ne_eqb c 1 n) (rw (e, q) refl)

  pub under-end : (n c : ℕ) → n ≡ 0 → under b m n c ≡ eqb c 1
  unfolding under
  under-end n c e = ap (λ (k : ℕ). under b m k c) e

  -- p is the parent that c names, v the address
  pub placed_as : (c : ℕ) {p v : ℕ} → p ≡ parent b m c → v ≡ word b m c 0
      → placed b m c ≡ virtual b v && not (eqb (table_for b m p v) 0) && child_at b m p v && eqb (child_of b m p v) c
  unfolding placed
  placed_as c e q = rw (e, q) refl
