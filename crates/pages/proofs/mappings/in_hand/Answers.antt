-- `pages::mappings::in_hand` meets its contract. Each test that the code makes is one of the definition. Assumes nothing.
use mathlib.Core.Path.{sym}
use Rattle.pages.proofs.Laws.{hand-absent, hand-shut, hand-rest}
use Rattle.pages.proofs.mappings.in_hand.Goals as goal

pub returns-then-w-eq0 : goal.returns-then-w-eq0
returns-then-w-eq0 c =
    let s = c.args in
    sym (hand-absent s.b.bits s.m.now s.d.0 s.a (cc))

pub returns-then-accessible-ne1 : goal.returns-then-accessible-ne1
returns-then-accessible-ne1 c =
    let s = c.args in
    sym (hand-shut s.b.bits s.m.now s.d.0 s.a (λ e. c.if-w-eq0.false (cc)) (λ e. c.if-accessible-ne1.true (cc)))

pub returns : goal.returns
returns c =
    let s = c.args in
    cc (hand-rest s.b.bits s.m.now s.d.0 s.a (λ e. c.if-w-eq0.false (cc)) (cc))
