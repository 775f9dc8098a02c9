-- `header::root::root_directory` meets its contract. Assumes nothing.
use mathlib.Core.Path.{refl, ap}
use mathlib.Core.Bool.{Bool}
use Prim.Native.Nat.{ℕ, ◌+◌}
use native.Mathlib.Omega.{arith}
use lib.Dec.{eqb}
use Rattle.std.proofs.Common.{rules, tests}
use Rattle.memory.specs.Format.{root_directory_word}
use Rattle.memory.specs.Geometry.{page_words}
use Rattle.memory.specs.Words.{word}
use Rattle.header.proofs.Laws.Formatted.{directory-zeros}
use Rattle.own_pages.proofs.Laws.Loops.{all_over, rest-stop, rest_end}
use Rattle.header.proofs.root.root_directory.Goals as goal

pub returns-else-all : goal.returns-else-all
returns-else-all c =
    let z = c.args.z.now in
    let b = z.width.bits in
    let m = c.args.m.now in
    let e = c.min-end.result in
    let f : ℕ → Bool = λ j. eqb (word b m (2 + c.args.k) j) (root_directory_word b z.pages c.args.k j) in
    rest-stop f (λ j. eqb (word b m (2 + c.args.k) j) 0) e (page_words b) (omega arith) (λ j a l. ap (eqb (word b m (2 + c.args.k) j)) (directory-zeros b z.pages c.args.k j (omega arith)))
    (all_over f e c.all.ensures.ran refl (λ x b q k. search (rules, tests))) c.if-all.false

pub returns-then-all : goal.returns-then-all
returns-then-all c =
    let z = c.args.z.now in
    let b = z.width.bits in
    let m = c.args.m.now in
    let e = c.min-end.result in
    let f : ℕ → Bool = λ j. eqb (word b m (2 + c.args.k) j) (root_directory_word b z.pages c.args.k j) in
    rest_end f (λ j. eqb (word b m (2 + c.args.k) j) 0) e (page_words b) (omega arith) (λ j a l. ap (eqb (word b m (2 + c.args.k) j)) (directory-zeros b z.pages c.args.k j (omega arith)))
    (all_over f e c.all.ensures.ran refl (λ x b q k. search (rules, tests))) c.if-all.true c.zero_from.ensures
