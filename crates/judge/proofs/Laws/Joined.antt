-- The words of a mapping in a child and in its parent, compared as one number. Assumes nothing.
use mathlib.Core.Path.{◌≡◌, sym, ap, ap₂, ◌∙◌}
use mathlib.Core.Bool.{◌&&◌}
use Prim.Native.Nat.{ℕ}
use lib.Dec.{eqb}
use lib.Bits.{bit_or, bit_xor}
use borrow.Author.Tests.{eqb-true, eq-eqb}
use Rattle.own_pages.proofs.Laws.Tests.{and_assoc, same_test}
use Rattle.memory.specs.Geometry.{address, page_of}
use Rattle.memory.specs.Entry.{accessible, rights, holds}
use Rattle.memory.proofs.Geometry.{page-address}
use Rattle.pages.proofs.Bits.{or_test, xor_test}

same-page : (b p q : ℕ) → eqb (address b p) (address b q) ≡ eqb p q
same-page b p q =
    same_test (eqb (address b p) (address b q)) (eqb p q)
    (λ e. eq-eqb p q (sym (page-address b p) ∙ ap (page_of b) (eqb-true (address b p) (address b q) e) ∙ page-address b q))
    (λ e. eq-eqb (address b p) (address b q) (ap (address b) (eqb-true p q e)))

-- x and y are the starts of the pages of w and u, and z is 0 exactly where w adds no flag to those of u
pub same-mapping : (b w u z : ℕ) {x y : ℕ} → x ≡ address b (page_of b w) → y ≡ address b (page_of b u)
    → eqb z 0 ≡ (eqb (accessible w) (accessible u) && holds (rights w) u)
    → eqb (bit_or (bit_xor x y) z) 0 ≡ (eqb (page_of b w) (page_of b u) && eqb (accessible w) (accessible u) && holds (rights w) u)
same-mapping b w u z {x} {y} e f g =
    or_test (bit_xor x y) z ∙ ap₂ ◌&&◌ (xor_test x y ∙ ap₂ eqb e f ∙ same-page b (page_of b w) (page_of b u)) g
    ∙ and_assoc (eqb (page_of b w) (page_of b u)) (eqb (accessible w) (accessible u)) (holds (rights w) u)
