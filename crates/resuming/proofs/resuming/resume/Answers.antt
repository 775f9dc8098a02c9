-- `resuming::resuming::resume` meets its contract. The answer, the words and the memory go by what the test gave. Assumes nothing.
use mathlib.Core.Path.{refl}
use Rattle.std.specs.Prelude.{Err}
use Rattle.rules.specs.Call.{resume}
use Rattle.rules.specs.Calls.{result}
use Rattle.answers.specs.Said.{number_of}
use Rattle.answers.proofs.Numbers.{number-some}
use Rattle.moves.proofs.Whole.{refused, done}
use Rattle.resuming.proofs.Beside.{context-refused, context-done}
use Rattle.resuming.proofs.resuming.resume.Goals as goal

pub returns-in-Err : goal.returns-in-Err
returns-in-Err c =
    let s = c.args in
    let r = c.in-Err.refusal in
    let x = refused s.b.bits s.m.now (resume s.t s.s) (Err r) r refl c.in-Err.ensures in
    (x.0, context-refused s.b.bits s.m.now s.t s.s (number_of r) c.in-Err.ensures (number-some r), x.1)

pub returns : goal.returns
unfolding result
returns c =
    let s = c.args in
    let e = c.resume_effect-words.ensures in
    let x = done s.b.bits s.m.now (resume s.t s.s) c.in_default.ensures 0 refl e.1 in
    (x.0, context-done s.b.bits s.m.now s.t s.s 0 c.in_default.ensures refl e.0, x.1)
