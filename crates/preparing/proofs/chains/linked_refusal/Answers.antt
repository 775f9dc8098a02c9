-- `preparing::chains::linked_refusal` meets its contract. Each test that the code makes is one of the row. Assumes nothing.
use mathlib.Core.Bool.{Bool, ◌||◌}
use mathlib.Core.List.{List}
use mathlib.Core.Path.{◌≡◌, refl, sym, ap, ap₂, ◌∙◌}
use Prim.Native.Nat.{ℕ}
use lib.Dec.{eqb}
use Rattle.std.proofs.Common.{rules}
use Rattle.std.proofs.lemmas.List.Recursion.{or_is}
use Rattle.std.specs.List.{IsAnyAnswer}
use Rattle.walk.specs.Finite.{any}
use Rattle.rules.proofs.Rows.{on, at, none, first-is}
use Rattle.preparing.proofs.chains.linked_refusal.Goals as goal
use Rattle.preparing.proofs.chains.linked_refusal.Goals.{then-bad_page-via-then-bad_page, then-bad_page-via-else-bad_page+then-contains}

-- what `contains` answers, as the row writes it
among : (x : ℕ) (seen : List ℕ) (r : Bool) → IsAnyAnswer (λ y t. eqb y x ≡ t) seen r → r ≡ any (eqb x) seen
among x seen r e = or_is (any (eqb x)) (eqb x) refl (λ _ _. refl) seen 0 r (search rules) (search rules)

pub returns-then-bad_page : goal.returns-then-bad_page
returns-then-bad_page c =
    let s = c.args in
    elim c.then-bad_page.branch [
      | then-bad_page-via-then-bad_page w ↦ sym (first-is (at (ap (λ (u : Bool). u || any (eqb s.v) s.before.now) (sym c.bad_page.ensures ∙ w.if-bad_page.true))))
      | then-bad_page-via-else-bad_page+then-contains w ↦
          let k = sym (among s.v s.before.now _ w.contains.ensures.cases) ∙ w.if-contains.true in
          sym (first-is (at (ap₂ ◌||◌ (sym c.bad_page.ensures ∙ w.if-bad_page.false) k)))
    ]

pub returns-then-not_in_hand : goal.returns-then-not_in_hand
returns-then-not_in_hand c =
    let s = c.args in
    let k = sym (among s.v s.before.now _ c.contains.ensures.cases) ∙ c.if-contains.false in
    let g = ap₂ ◌||◌ (sym c.bad_page.ensures ∙ c.if-bad_page.false) k in
    sym (first-is (on g (at (sym c.not_in_hand.ensures ∙ c.if-not_in_hand.true))))

pub returns-then-lacks : goal.returns-then-lacks
returns-then-lacks c =
    let s = c.args in
    let k = sym (among s.v s.before.now _ c.contains.ensures.cases) ∙ c.if-contains.false in
    let g = ap₂ ◌||◌ (sym c.bad_page.ensures ∙ c.if-bad_page.false) k in
    sym (first-is (on g (on (sym c.not_in_hand.ensures ∙ c.if-not_in_hand.false) (at (sym c.lacks.ensures ∙ c.if-lacks.true)))))

pub returns : goal.returns
returns c =
    let s = c.args in
    let k = sym (among s.v s.before.now _ c.contains.ensures.cases) ∙ c.if-contains.false in
    let g = ap₂ ◌||◌ (sym c.bad_page.ensures ∙ c.if-bad_page.false) k in
    sym (first-is (on g (on (sym c.not_in_hand.ensures ∙ c.if-not_in_hand.false) (on (sym c.lacks.ensures ∙ c.if-lacks.false) none))))
