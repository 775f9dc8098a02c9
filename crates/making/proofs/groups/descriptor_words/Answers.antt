-- `making::groups::descriptor_words` meets its contract. Each second word is the frame of the address before it. Assumes nothing.
use native.Mathlib.Omega.{arith}
use Rattle.making.proofs.Create.{descriptor-is}
use Rattle.making.proofs.groups.descriptor_words.Goals as goal

pub returns : goal.returns
returns c =
    let frame_at = c.frame_at-a0 in
    let frame-at2 = c.frame_at-a1 in
    let frame-at3 = c.frame_at-a2 in
    let s = c.args in
    descriptor-is s.b.bits s.m.now s.d.0 s.own frame_at.result frame-at2.result frame-at3.result c.frame_at-a3.result
    c.frame_at-a4.result s.five (omega arith) frame_at.ensures.0 frame-at2.ensures.0 frame-at3.ensures.0 c.frame_at-a3.ensures.0
    c.frame_at-a4.ensures.0
