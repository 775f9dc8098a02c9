-- `preparing::chains::chain_refusal` meets its contract. The pages are tested one after the other, as the row has them. Assumes nothing.
use mathlib.Core.Bool.{not}
use mathlib.Core.Path.{refl, sym, ap, ◌∙◌}
use borrow.Author.Tests.{eq-eqb, ne_eqb}
use Rattle.answers.proofs.Numbers.{stopped}
use Rattle.rules.proofs.Rows.{on, at, none, first-is}
use Rattle.preparing.proofs.ChainLaws.{behind-first, behind-second, behind-third}
use Rattle.preparing.proofs.chains.chain_refusal.Goals as goal

pub returns-in_err-linked_refusal : goal.returns-in_err-linked_refusal
returns-in_err-linked_refusal c = stopped _ _ c.from_residual.result _ c.from_residual.ensures.1 c.in_err-linked_refusal.ensures

pub returns-in_err-linked_refusal-2 : goal.returns-in_err-linked_refusal-2
returns-in_err-linked_refusal-2 c =
    let s = c.args in
    stopped _ _ c.from_residual-in_err-linked_refusal-2.result _ c.from_residual-in_err-linked_refusal-2.ensures.1 c.in_err-linked_refusal-2.ensures
    ∙ behind-first s.b.bits s.m.now s.p c.link-q.ensures refl c.in_ok-linked_refusal.ensures

pub returns-in_err-linked_refusal-3 : goal.returns-in_err-linked_refusal-3
returns-in_err-linked_refusal-3 c =
    let s = c.args in
    stopped _ _ c.from_residual-in_err-linked_refusal-3.result _ c.from_residual-in_err-linked_refusal-3.ensures.1 c.in_err-linked_refusal-3.ensures
    ∙ behind-second s.b.bits s.m.now s.p c.link-q.ensures c.link-s.ensures c.in_ok-linked_refusal.ensures c.in_ok-linked_refusal-2.ensures

pub returns-then-link-ne0 : goal.returns-then-link-ne0
returns-then-link-ne0 c =
    let s = c.args in
    sym (first-is (at (ap not (ne_eqb _ 0 (λ e. c.if-link-ne0.true (c.link.ensures ∙ e))))))
    ∙ behind-third s.b.bits s.m.now s.p c.link-q.ensures c.link-s.ensures c.in_ok-linked_refusal.ensures c.in_ok-linked_refusal-2.ensures
    c.in_ok-linked_refusal-3.ensures

pub returns : goal.returns
returns c =
    let s = c.args in
    sym (first-is (on (ap not (eq-eqb _ 0 (sym c.link.ensures ∙ c.if-link-ne0.false))) none))
    ∙ behind-third s.b.bits s.m.now s.p c.link-q.ensures c.link-s.ensures c.in_ok-linked_refusal.ensures c.in_ok-linked_refusal-2.ensures
    c.in_ok-linked_refusal-3.ensures
