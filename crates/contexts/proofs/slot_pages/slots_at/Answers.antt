-- `contexts::slot_pages::slots_at` meets its contract. By whether it is the root. Assumes nothing.
use Rattle.contexts.proofs.SlotPages.{slots-root, slots-other}
use Rattle.contexts.proofs.slot_pages.slots_at.Goals as goal

pub returns-then-d-eq1 : goal.returns-then-d-eq1
returns-then-d-eq1 c =
    let s = c.args in
    slots-root s.b.bits s.m.now s.d.0 c.if-d-eq1.true c.pages.ensures c.flat_pages.ensures

pub returns : goal.returns
returns c =
    let s = c.args in
    slots-other s.b.bits s.m.now s.d.0 c.args.b.known.1 c.if-d-eq1.false
