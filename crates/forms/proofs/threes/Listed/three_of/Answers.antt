-- `forms::threes::Listed::three_of` meets its contract. Assumes nothing.
use Prim.Native.Nat.{◌+◌, ◌*◌}
use native.Mathlib.Omega.{arith}
use Rattle.forms.proofs.Laws.Whole.{listed-room}
use Rattle.forms.proofs.threes.Listed.three_of.Goals as goal

pub overflow_add-result : goal.overflow_add-result
overflow_add-result c =
    let s = c.args in
    omega (arith, listed-room s.self.now.own.width.bits s.self.now.own.words.now s.self.now.own.descriptor.0 s.self.now.passed (3 * s.j) (2 + 6 * s.j) (omega arith) (omega arith) c.list_at-x.ensures (omega arith))

pub overflow_add-result-2 : goal.overflow_add-result-2
overflow_add-result-2 c =
    let s = c.args in
    omega (arith, listed-room s.self.now.own.width.bits s.self.now.own.words.now s.self.now.own.descriptor.0 s.self.now.passed (3 * s.j + 1) (4 + 6 * s.j) (omega arith) (omega arith) c.list_at-y.ensures (omega arith))

pub overflow_add-result-3 : goal.overflow_add-result-3
overflow_add-result-3 c =
    let s = c.args in
    omega (arith, listed-room s.self.now.own.width.bits s.self.now.own.words.now s.self.now.own.descriptor.0 s.self.now.passed (3 * s.j + 2) (6 + 6 * s.j) (omega arith) (omega arith) c.list_at-z.ensures (omega arith))
