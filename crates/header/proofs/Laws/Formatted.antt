-- The root's words that format leaves, in the code's terms. Assumes nothing.
use mathlib.Core.Path.{◌≡◌, refl, ◌∙◌}
use mathlib.Core.Bool.{Bool, cond, ◌||◌}
use Prim.Native.Nat.{ℕ, zero, suc, ◌+◌, ◌*◌, ◌/◌, ◌%◌, ◌≤◌}
use native.Mathlib.Omega.{arith}
use lib.Dec.{leb, eqb}
use borrow.Author.Tests.{le-leb, lt-leb, le-ltb, ne_eqb}
use Rattle.walk.specs.Finite.{from, all}
use Rattle.memory.specs.Geometry.{address, threes_for}
use Rattle.memory.specs.Format.{root_descriptor_word, root_directory_word, root_list_word}
use Rattle.own_pages.proofs.Laws.Tests.{and-false}

-- the odd words below 10 of the root's descriptor are the five addresses
pub descriptor-words : (b i : ℕ) → root_descriptor_word b i ≡ cond (leb 10 i) 0 (cond (eqb (i % 2) 0) 0 (address b (i / 2 + 1)))
descriptor-words b zero = refl
descriptor-words b (suc zero) = refl
descriptor-words b (suc (suc zero)) = refl
descriptor-words b (suc (suc (suc zero))) = refl
descriptor-words b (suc (suc (suc (suc zero)))) = refl
descriptor-words b (suc (suc (suc (suc (suc zero))))) = refl
descriptor-words b (suc (suc (suc (suc (suc (suc zero)))))) = refl
descriptor-words b (suc (suc (suc (suc (suc (suc (suc zero))))))) = refl
descriptor-words b (suc (suc (suc (suc (suc (suc (suc (suc zero)))))))) = refl
descriptor-words b (suc (suc (suc (suc (suc (suc (suc (suc (suc zero))))))))) = refl
descriptor-words b (suc (suc (suc (suc (suc (suc (suc (suc (suc (suc zero)))))))))) = refl
descriptor-words b (suc (suc (suc (suc (suc (suc (suc (suc (suc (suc (suc zero))))))))))) = refl
descriptor-words b (suc (suc (suc (suc (suc (suc (suc (suc (suc (suc (suc (suc i)))))))))))) = rw (le-leb 10 (suc (suc (suc (suc (suc (suc (suc (suc (suc (suc (suc (suc i)))))))))))) (omega arith)) refl

-- past the first words there is nothing but 0
pub descriptor-zeros : (b i : ℕ) → 10 ≤ i → root_descriptor_word b i ≡ 0
descriptor-zeros b i h = descriptor-words b i ∙ rw (le-leb 10 i h) refl

-- the live flag passes
pub flag-passes : (g : ℕ → Bool) → all (λ i. eqb i 12 || g i) (from 13 0) ≡ all (λ i. eqb i 12 || g i) (from 12 0)
unfolding from all
flag-passes g = refl

pub directory-zeros : (b n k i : ℕ) → threes_for b n ≤ i → root_directory_word b n k i ≡ 0
directory-zeros b n k i h = rw (le-ltb i (threes_for b n) h) refl

pub list-zeros : (b n i : ℕ) → 1 + 6 * threes_for b n ≤ i → root_list_word b n i ≡ 0
list-zeros b n i h = rw (ne_eqb i 0 (λ e. omega arith), lt-leb i (6 * threes_for b n) (omega arith), and-false (eqb (i % 2) 0)) refl
