-- `pages::partitions::threes` meets its contract. A first word of 0 counts no three, as 0 - 1 is 0. Assumes nothing.
use mathlib.Core.Path.{◌≡◌, ap}
use Prim.Native.Nat.{ℕ, ◌-◌, ◌/◌}
use native.Mathlib.Omega.{arith}
use Rattle.memory.specs.Partition.{list}
use Rattle.memory.specs.Words.{word}
use Rattle.pages.proofs.partitions.threes.Goals as goal

pub returns-then-free-eq0 : goal.returns-then-free-eq0
returns-then-free-eq0 c =
    let s = c.args in
    let e : c.read_word-free.result ≡ word s.b.bits s.m.now (list s.b.bits s.m.now s.d.0) 0 = cc in
    omega arith

pub returns : goal.returns
returns c =
    let s = c.args in
    let e : c.read_word-free.result ≡ word s.b.bits s.m.now (list s.b.bits s.m.now s.d.0) 0 = cc in
    ap (λ (x : ℕ). (x - 1) / 6) e
