-- Words joined as bits are 0 where each of them is: the nine words of a slot. Assumes nothing.
use mathlib.Core.Path.{◌≡◌, refl, sym, ap, ◌∙◌}
use mathlib.Core.List.{List, [], ◌∷◌}
use mathlib.Core.Bool.{Bool, ◌&&◌, and-true, and_assoc}
use Prim.Native.Nat.{ℕ}
use lib.Bits.{bit_or}
use lib.Dec.{eqb}
use Rattle.walk.specs.Finite.{from, all}
use Rattle.common.proofs.Bits.{or_test}
use Rattle.block_memory.specs.Geometry.{slot_words}
use Rattle.block_memory.specs.Partition.{field}
use Rattle.block_layout.specs.Blocks.{ReadAs}
use Rattle.block_layout.specs.declared.blocks.Block.{Block}

abbrev pub joined : ℕ → List ℕ → ℕ
joined a [] = a
joined a (x ∷ xs) = joined (bit_or a x) xs

or_all : (a : ℕ) (xs : List ℕ) → eqb (joined a xs) 0 ≡ all (λ x. eqb x 0) (a ∷ xs)
unfolding all
or_all a [] = sym (and-true (eqb a 0))
or_all a (x ∷ xs) =
    or_all (bit_or a x) xs ∙ ap (λ (t : Bool). t && all (λ y. eqb y 0) xs) (or_test a x) ∙ and_assoc (eqb a 0) (eqb x 0) (all (λ y. eqb y 0) xs)

-- the words of a block after the first
abbrev pub rest : Block → List ℕ
rest b = b.end ∷ b.rights ∷ b.used ∷ b.child ∷ b.link ∷ b.source ∷ b.previous ∷ b.next ∷ []

pub clear_as : {m : List ℕ} {d n : ℕ} {b : Block} → ReadAs m d n b → eqb (joined b.start (rest b)) 0 ≡ all (λ f. eqb (field m d n f) 0) (from slot_words 0)
unfolding from all
clear_as {b = b} r =
    or_all b.start (rest b) ∙ rw (r.start, r.end, r.rights, r.used, r.child, r.link, r.source, r.previous, r.next) refl
