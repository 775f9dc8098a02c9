-- `script::lines::put_first_line` meets its contract. The four parts of the line stand one behind the other. Assumes nothing.
use mathlib.Core.Path.{ap}
use mathlib.Core.List.{[], ◌∷◌, ◌++◌}
use Prim.Native.Nat.{ℕ}
use native.Mathlib.Omega.{arith}
use Rattle.rules.specs.Replay.{decimal}
use Rattle.script.proofs.Puts.{put_then, put_same}
use Rattle.script.proofs.Lengths.{first-most}
use Rattle.script.proofs.Decimals.{decimal-most}
use Rattle.script.proofs.lines.put_first_line.Goals as goal

pub put_decimal-p-requires : goal.put_decimal-p-requires
put_decimal-p-requires c = omega (arith, decimal-most c.args.n)

pub put-q-requires : goal.put-q-requires
put-q-requires c = omega (arith, decimal-most c.args.n)

pub put_decimal-r-requires : goal.put_decimal-r-requires
put_decimal-r-requires c = omega (arith, decimal-most c.args.n, decimal-most c.flat_pages-f.result)

pub put-requires : goal.put-requires
put-requires c = omega (arith, decimal-most c.args.n, decimal-most c.flat_pages-f.result)

pub returns : goal.returns
returns c =
    let flat-pages = c.flat_pages-f in
    let put-decimal = c.put_decimal-p in
    let put = c.put-q in
    let put-decimal2 = c.put_decimal-r in
    let s = c.args in
    let e = ap (λ (f : ℕ). decimal s.n ++ (32 ∷ []) ++ decimal f ++ (10 ∷ [])) flat-pages.ensures in
    let p = put_same e (put_then (put_then (put_then put-decimal.ensures put.ensures) put-decimal2.ensures) c.put.ensures) in
    (p, omega (arith, p.next, first-most s.b.bits s.n))
