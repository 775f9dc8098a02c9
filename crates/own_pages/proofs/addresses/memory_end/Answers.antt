-- `own_pages::addresses::memory_end` meets its contract. Assumes nothing.
use mathlib.Core.Path.{◌≡◌, ap₂}
use Prim.Native.Nat.{ℕ, ◌*◌, ◌≤◌}
use native.Mathlib.Nat.{mul-le-mul}
use native.Mathlib.Omega.{arith}
use Rattle.memory.specs.Geometry.{page_bytes}
use Rattle.memory.specs.Partition.{pages}
use Rattle.own_pages.proofs.addresses.memory_end.Goals as goal

pub overflow_mul-result : goal.overflow_mul-result
overflow_mul-result c =
    let n : c.from.result ≤ 4294967295 = omega arith in
    let k : c.from-2.result ≤ 4096 = omega arith in
    omega (arith, mul-le-mul {n₂ = 4294967295} {m₂ = 4096} n k)

pub returns : goal.returns
returns c =
    let n : c.from.result ≡ pages c.args.b.bits c.args.m.now = cc in
    let k : c.from-2.result ≡ page_bytes c.args.b.bits = cc in
    ap₂ (λ (x y : ℕ). x * y) n k
