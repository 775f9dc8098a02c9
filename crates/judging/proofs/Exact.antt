-- The quick test and the test of soundness have the same answer. Assumes that the index width is 6 or more.
use mathlib.Core.Path.{◌≡◌, refl, sym}
use mathlib.Core.List.{List}
use mathlib.Core.Bool.{Bool, true, false}
use Prim.Native.Nat.{ℕ, ◌≤◌}
use native.Mathlib.Omega.{arith}
use Rattle.walk.specs.Reflect.{Tells, via, both}
use Rattle.walk.specs.Walk as W
use Rattle.memory.specs.Geometry.{page_words, most_depth}
use Rattle.memory.specs.Partition.{pages, current}
use Rattle.memory.specs.Counts.{children}
use Rattle.memory.specs.Sound as S
use Rattle.memory.proofs.Widths.{words-least}
use Rattle.soundness.specs.Test as T
use Rattle.soundness.proofs.Agree.{header?, root?}
use Rattle.soundness.proofs.Trees.{under-tree, tree-under, judged?}
use Rattle.soundness.proofs.Used.{own-self}
use Rattle.soundness.proofs.Whole.{sound-from, sound?}
use Rattle.judging.specs.Quick as Q
use Rattle.judging.proofs.FromCells.{Quick, quick_good}
use Rattle.judging.proofs.ToCells.{sound_quick}

-- two tests of one statement
same_test : (t u : Bool) {P : Type 0} → Tells t P → Tells u P → t ≡ u
same_test true u p q = sym (q.1 (p.0 refl))
same_test false true p q = p.1 (q.0 refl)
same_test false false p q = refl

module _ (b : ℕ) (m : List ℕ) where
  walked? : Tells (T.judged b m (W.judge (children b m) (T.own b m) (Q.partition_test b m) most_depth (W.clear (pages b m)) 1)) (Quick b m)
  walked? =
      let both_ways = W.judge_iff (children b m) (T.own b m) (Q.partition_test b m) (own-self b m) most_depth (pages b m) 1 in
      via (judged? b m (W.judge (children b m) (T.own b m) (Q.partition_test b m) most_depth (W.clear (pages b m)) 1)) both_ways.0 both_ways.1

  pub quick? : 61 ≤ page_words b → Tells (Q.quick_test b m) (S.Sound b m)
  unfolding Q.quick_test
  quick? big =
      via (both (both (both (header? b m) (root? b m)) walked?) ((λ e. e), λ e. e))
      (λ (((h, r), g), c). sound-from b m h r (quick_good b m h r g big) (under-tree b m most_depth (current b m) c))
      (λ s. (((s.header, s.root_as_formatted), sound_quick b m s big), let (k, t) = s.current_in in tree-under b m s.children most_depth t (s.depth k (current b m) t)))

-- the theorem
pub quick_exact : (b : ℕ) → 6 ≤ b → (m : List ℕ) → Q.quick_test b m ≡ T.sound_test b m
quick_exact b h m = let big : 61 ≤ page_words b = omega (arith, words-least b h) in same_test (Q.quick_test b m) (T.sound_test b m) (quick? b m big) (sound? b m big)
