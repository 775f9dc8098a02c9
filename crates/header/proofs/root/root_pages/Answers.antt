-- `header::root::root_pages` meets its contract. Assumes nothing.
use mathlib.Core.Bool.{Bool, true, false, ◌&&◌, ◌||◌}
use mathlib.Core.Path.{◌≡◌, refl, sym, ap, ap₂, ◌∙◌}
use mathlib.Core.List.{List}
use Prim.Native.Nat.{ℕ, ◌+◌}
use lib.Dec.{eqb}
use Rattle.std.proofs.Common.{rules, tests}
use Rattle.walk.specs.Finite.{from, all}
use Rattle.memory.specs.Format.{root_descriptor_word, root_directory_word, root_list_word, format_word}
use Rattle.memory.specs.Geometry.{page_words}
use Rattle.memory.specs.Partition.{pages}
use Rattle.memory.specs.Words.{word}
use Rattle.own_pages.proofs.Laws.Loops.{all_over}
use Rattle.header.proofs.root.root_pages.Goals.{then-root_descriptor, else-root_descriptor}
use Rattle.header.proofs.root.root_pages.Goals as goal

abbrev described : ℕ → List ℕ → Bool
described b m = all (λ i. eqb i 12 || eqb (word b m 1 i) (root_descriptor_word b i)) (from (page_words b) 0)

abbrev directs : ℕ → List ℕ → ℕ → ℕ → Bool
directs b m n k = all (λ i. eqb (word b m (2 + k) i) (root_directory_word b n k i)) (from (page_words b) 0)

abbrev lists : ℕ → List ℕ → ℕ → Bool
lists b m n = all (λ i. eqb (word b m 5 i) (root_list_word b n i)) (from (page_words b) 0)

in_order : (d x y z l : Bool) → d && (x && (y && (z && true))) && l ≡ d && (x && (y && (z && (l && true))))
in_order false x y z l = refl
in_order true false y z l = refl
in_order true true false z l = refl
in_order true true true false l = refl
in_order true true true true true = refl
in_order true true true true false = refl

-- the five pages: the descriptor, the directory and its shadows, the list
five : (b : ℕ) (m : List ℕ) (n : ℕ) → described b m && all (directs b m n) (from 3 0) && lists b m n
    ≡ all (λ p. all (λ i. (eqb p 0 && eqb i 12) || eqb (word b m (1 + p) i) (format_word b n (1 + p) i)) (from (page_words b) 0)) (from 5 0)
unfolding format_word from all
five b m n = in_order (described b m) (directs b m n 0) (directs b m n 1) (directs b m n 2) (lists b m n)

pub returns-then-all : goal.returns-then-all
returns-then-all c =
    let b = c.args.b.bits in
    let m = c.args.m.now in
    let z = c.of-z.result in
    let e = c.of-z.ensures.0 in
    let q = c.of-z.ensures.1 ∙ c.pages.ensures in
    elim c.if-root_descriptor.branch [
      | then-root_descriptor w ↦
          let d : described b m ≡ true = sym (c.root_descriptor.ensures ∙ ap (λ (x : ℕ). described x m) e) ∙ w.if-root_descriptor.true in
          let k : all (directs b m (pages b m)) (from 3 0) ≡ true = sym (w.value-is ∙ all_over (directs z.width.bits m z.pages) 3 w.all.ensures.ran refl (λ x b q k. search (rules, tests)) ∙ ap₂ (λ (x y : ℕ). all (directs x m y) (from 3 0)) e q) ∙ c.if-all.true in
          c.root_list.ensures ∙ ap₂ (λ (x y : ℕ). lists x m y) e q ∙ sym (rw (d, k) refl) ∙ five b m (pages b m)
      | else-root_descriptor w ↦ cc
    ]

pub returns-else-all : goal.returns-else-all
returns-else-all c =
    let b = c.args.b.bits in
    let m = c.args.m.now in
    let z = c.of-z.result in
    let e = c.of-z.ensures.0 in
    let q = c.of-z.ensures.1 ∙ c.pages.ensures in
    elim c.if-root_descriptor.branch [
      | then-root_descriptor w ↦
          let d : described b m ≡ true = sym (c.root_descriptor.ensures ∙ ap (λ (x : ℕ). described x m) e) ∙ w.if-root_descriptor.true in
          let k : all (directs b m (pages b m)) (from 3 0) ≡ false = sym (w.value-is ∙ all_over (directs z.width.bits m z.pages) 3 w.all.ensures.ran refl (λ x b q k. search (rules, tests)) ∙ ap₂ (λ (x y : ℕ). all (directs x m y) (from 3 0)) e q) ∙ c.if-all.false in
          c.if-all.false ∙ sym (rw (d, k) refl) ∙ five b m (pages b m)
      | else-root_descriptor w ↦
          let d : described b m ≡ false = sym (c.root_descriptor.ensures ∙ ap (λ (x : ℕ). described x m) e) ∙ w.if-root_descriptor.false in
          c.if-all.false ∙ sym (rw d refl) ∙ five b m (pages b m)
    ]
