-- What format leaves, at each word. Assumes nothing.
use mathlib.Core.Path.{◌≡◌, refl, ap, ap₂, ◌∙◌}
use Prim.Native.Nat.{ℕ, zero, suc, ◌+◌, ◌*◌, ◌/◌, ◌%◌, ◌<◌}
use native.Mathlib.Nat.{zero-add, le_of_suc-le-suc, not-suc-le-zero}
use native.Mathlib.Omega.{arith}
use lib.Arith.{digits_lt}
use lib.ListN.{length, get_or}
use Rattle.memory.specs.Geometry.{page_words}
use Rattle.memory.specs.Words.{index, word, tabulate}
use Rattle.memory.specs.Format.{format, format_word}
use Rattle.memory.proofs.Geometry.{index-page, index-place}

pub get_d_tabulate : (i n : ℕ) (f : ℕ → ℕ) (k : ℕ) → k < n → get_or (tabulate i n f) k 0 ≡ f (i + k)
unfolding tabulate
get_d_tabulate i zero f k h = absurd (not-suc-le-zero h)
get_d_tabulate i (suc n) f zero h = ap f (omega arith)
get_d_tabulate i (suc n) f (suc k) h = get_d_tabulate (suc i) n f k (le_of_suc-le-suc h) ∙ ap f (omega arith)

pub format-word : (b n p i : ℕ) → p < n → i < page_words b → word b (format b n) p i ≡ format_word b n p i
unfolding format
format-word b n p i hp hi =
    get_d_tabulate 0 (n * page_words b) _ (index b p i) (digits_lt hp hi)
    ∙ ap₂ (λ (q j : ℕ). format_word b n q j)
    (ap (λ (x : ℕ). x / page_words b) (zero-add (index b p i)) ∙ index-page b p i hi)
    (ap (λ (x : ℕ). x % page_words b) (zero-add (index b p i)) ∙ index-place b p i hi)

pub length-tabulate : (i n : ℕ) (f : ℕ → ℕ) → length (tabulate i n f) ≡ n
unfolding tabulate
length-tabulate i zero f = refl
length-tabulate i (suc n) f = ap suc (length-tabulate (suc i) n f)
