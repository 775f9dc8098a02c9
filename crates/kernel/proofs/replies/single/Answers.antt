-- `kernel::replies::single` meets its contract. The number and the words behind it are the call. Assumes nothing.
use native.Mathlib.Omega.{arith}
use Rattle.kernel.proofs.Words.{whole_parts}
use Rattle.kernel.proofs.Numbered.{same-call, fourteen, call-of, is-notify, is-dispatch}
use Rattle.kernel.proofs.replies.single.Goals as goal

pub returns-in-0-to-12 : goal.returns-in-0-to-12
returns-in-0-to-12 c =
    let s = c.args in
    same-call s.m.now (call-of s.ws.now s.i c.read-n.ensures c.arguments-a.ensures (omega arith)) c.numbered_call.ensures

pub returns-in-13 : goal.returns-in-13
returns-in-13 c =
    let s = c.args in
    same-call s.m.now (is-notify s.ws.now s.i c.read-n.ensures c.arguments-a.ensures c.registers.ensures c.in-13.is) c.notify.ensures

pub returns-in_default : goal.returns-in_default
returns-in_default c =
    let s = c.args in
    let known = (whole_parts s.ws.now s.i c.requires.i_value).0 in
    let k = fourteen c.read-n.ensures known c.requires.other (omega arith) (omega arith) in
    same-call s.m.now (is-dispatch s.ws.now s.i c.read-n.ensures c.arguments-a.ensures k) c.dispatch.ensures
