-- Words and addresses by their indices. Assumes nothing.
use mathlib.Core.Path.{◌≡◌, ap, ◌∙◌}
use mathlib.Core.List.{List}
use Prim.Native.Nat.{ℕ, ◌+◌, ◌*◌}
use native.Mathlib.Omega.{arith}
use lib.ListN.{get_or}
use Rattle.memory.specs.Geometry.{address}
use Rattle.memory.specs.Words.{word, index}

-- an address by the index of a page's first word
pub address_by_index : (b p : ℕ) → 4 * index b p 0 ≡ address b p
address_by_index b p = omega arith

-- a word by the index of its page's first word
pub word_by_index : (b : ℕ) (m : List ℕ) {w i p q : ℕ} (j : ℕ) → w ≡ get_or m (i + j) 0 → i ≡ index b p 0 → p ≡ q → w ≡ word b m q j
word_by_index b m {i = i} {q = q} j e f g =
    let k : i ≡ index b q 0 = f ∙ ap (λ (x : ℕ). index b x 0) g in
    let l : i + j ≡ index b q j = omega arith in
    e ∙ ap (λ (x : ℕ). get_or m x 0) l
