-- `header::root::root_descriptor` meets its contract. Assumes nothing.
use mathlib.Core.Path.{◌≡◌, refl, sym, ap, ◌∙◌}
use mathlib.Core.List.{List}
use mathlib.Core.Bool.{Bool, ◌||◌}
use Prim.Native.Nat.{ℕ, ◌≤◌}
use native.Mathlib.Omega.{arith}
use lib.Dec.{eqb}
use borrow.Author.Tests.{ne_eqb}
use Rattle.std.proofs.Common.{rules, tests}
use Rattle.walk.specs.Finite.{from, all}
use Rattle.memory.specs.Format.{root_descriptor_word}
use Rattle.memory.specs.Geometry.{page_words}
use Rattle.memory.specs.Words.{word}
use Rattle.memory.proofs.Widths.{words-least}
use Rattle.header.proofs.Laws.Formatted.{descriptor-zeros, flag-passes}
use Rattle.own_pages.proofs.Laws.Loops.{all_over, all_same, rest-stop, rest_end}
use Rattle.header.proofs.root.root_descriptor.Goals as goal

-- word j of the descriptor is as format leaves it; that, or the flag
abbrev as_left : ℕ → List ℕ → ℕ → Bool
as_left b m j = eqb (word b m 1 j) (root_descriptor_word b j)

abbrev passes : ℕ → List ℕ → ℕ → Bool
passes b m j = eqb j 12 || as_left b m j

-- behind the flag the words are 0
behind : (b : ℕ) (m : List ℕ) (j : ℕ) → 13 ≤ j → passes b m j ≡ eqb (word b m 1 j) 0
behind b m j h = rw (ne_eqb j 12 (λ e. omega arith)) (ap (eqb (word b m 1 j)) (descriptor-zeros b j (omega arith)))

-- the words below the flag
before : (b : ℕ) (m : List ℕ) → all (as_left b m) (from 12 0) ≡ all (passes b m) (from 13 0)
before b m = all_same (as_left b m) (passes b m) 12 0 (λ j a l. rw (ne_eqb j 12 (λ e. omega arith)) refl) ∙ sym (flag-passes (as_left b m))

pub returns-else-all : goal.returns-else-all
returns-else-all c =
    let z = c.args.z.now in
    let b = z.width.bits in
    let m = c.args.m.now in
    rest-stop (passes b m) (λ j. eqb (word b m 1 j) 0) 13 (page_words b) (omega (arith, words-least b z.width.known.0)) (λ j a l. behind b m j a)
    (all_over (as_left b m) 12 c.all.ensures.ran refl (λ x b q k. search (rules, tests)) ∙ before b m) c.if-all.false

pub returns-then-all : goal.returns-then-all
returns-then-all c =
    let z = c.args.z.now in
    let b = z.width.bits in
    let m = c.args.m.now in
    rest_end (passes b m) (λ j. eqb (word b m 1 j) 0) 13 (page_words b) (omega (arith, words-least b z.width.known.0)) (λ j a l. behind b m j a)
    (all_over (as_left b m) 12 c.all.ensures.ran refl (λ x b q k. search (rules, tests)) ∙ before b m) c.if-all.true c.zero_from.ensures
