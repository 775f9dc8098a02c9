-- `deleting::releases::release_table` meets its contract. Nothing is lent to the child where there is no table, or where no word of the table is its address.
-- Assumes nothing.
use mathlib.Core.Path.{◌≡◌, sym, ap, ◌∙◌}
use mathlib.Core.Bool.{false}
use mathlib.Core.List.{List}
use Prim.Native.Nat.{ℕ, ◌≤◌, ◌<◌}
use native.Mathlib.Omega.{arith}
use native.Mathlib.Decide.{dec_lt}
use borrow.Author.Tests.{eqb-false}
use lib.Dec.{eqb}
use lib.ListN.{length, get_or}
use Rattle.memory.specs.Words.{word, page}
use Rattle.memory.specs.Geometry.{page_of}
use Rattle.memory.specs.Partition.{shadow1}
use Rattle.walk.specs.Lists.{count, at_count}
use Rattle.rules.proofs.Releases.{release_all-absent, release_all_uncounted}
use Rattle.deleting.proofs.releases.release_table.Goals as goal

-- the word w at index i of d's shadow 1, as it is read: by way of the shadow's page s
read : (b : ℕ) (m : List ℕ) (d i : ℕ) {s w : ℕ} → s ≡ shadow1 b m d → w ≡ word b m s i → w ≡ word b m (shadow1 b m d) i
read b m d i e f = f ∙ ap (λ (p : ℕ). word b m p i) e

-- x is not among the words l
uncounted : (x : ℕ) (l : List ℕ) → ((i v : ℕ) → 0 ≤ i → i < length l → eqb (get_or l i v) x ≡ false) → count x l ≡ 0
uncounted x l h =
    elim (dec_lt 0 (count x l)) [
      | yes p ↦ let (i, k, e) = at_count x l p in absurd (eqb-false _ _ (h i 0 (omega arith) k) e)
      | no q ↦ omega arith
    ]

pub returns-then-w-eq0 : goal.returns-then-w-eq0
returns-then-w-eq0 c =
    let e = read c.args.b.bits c.args.m.now c.args.d.0 c.args.i c.shadow1-s.ensures c.read_word-w.ensures in
    sym (release_all-absent c.args.b.bits c.args.d.0 c.args.c c.args.m.now c.args.i (sym e ∙ c.if-w-eq0.true) c.requires.inside.1)

pub returns-then-not-contains : goal.returns-then-not-contains
returns-then-not-contains c =
    let b = c.args.b.bits in
    let m = c.args.m.now in
    let e = read b m c.args.d.0 c.args.i c.shadow1-s.ensures c.read_word-w.ensures in
    let f = c.words_of.ensures ∙ ap (page b m) (c.page_of.ensures ∙ ap (page_of b) e) in
    let k = sym (ap (count c.args.c) f) ∙ uncounted c.args.c c.words_of.result.now c.if-not-contains.ensures.cases in
    sym (release_all_uncounted b c.args.d.0 c.args.c m c.args.i k c.requires.inside.1)
