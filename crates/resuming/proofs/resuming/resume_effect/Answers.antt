-- `resuming::resuming::resume_effect` meets its contract. By whether the slot is valid. Assumes nothing.
use mathlib.Core.Path.{sym, ap, ◌∙◌}
use Rattle.memory.specs.Contexts.{slot_page}
use Rattle.resuming.proofs.Resumption.{to-root, to-target}
use Rattle.resuming.proofs.resuming.resume_effect.Goals as goal

pub returns-then-valid : goal.returns-then-valid
returns-then-valid c =
    let clear = c.clear_valid in
    let saved = c.saved-words.ensures in
    let current = c.current-d.ensures in
    let target = c.target_word-w.ensures in
    let s = c.args in
    let b = s.b.bits in
    let m = s.m.now in
    let page = c.slot_page.ensures ∙ ap (slot_page b m) (c.page_of.ensures ∙ target) in
    let valid = sym c.valid.ensures ∙ c.if-valid.true in
    to-target b m s.t s.s current page clear.new.m target valid saved clear.ensures c.switch_to.ensures

pub returns : goal.returns
returns c =
    let current = c.current-d.ensures in
    let target = c.target_word-w.ensures in
    let s = c.args in
    let b = s.b.bits in
    let m = s.m.now in
    let page = c.slot_page.ensures ∙ ap (slot_page b m) (c.page_of.ensures ∙ target) in
    let empty = sym c.valid.ensures ∙ c.if-valid.false in
    to-root b m s.t s.s current page empty c.address.ensures c.switch_to-2.ensures
