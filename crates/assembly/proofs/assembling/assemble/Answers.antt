-- `assembly::assembling::assemble` meets its contract. The script is copied only where there is one. Assumes nothing.
use native.Mathlib.Omega.{arith}
use lib.ListN.{length-take}
use Rattle.assembly.proofs.Answers.{long, refused, answered}
use Rattle.assembly.proofs.assembling.assemble.Goals as goal

pub returns-then-text-gt65536 : goal.returns-then-text-gt65536
returns-then-text-gt65536 c = long c.args.text.now c.args.out.now c.if-text-gt65536.true

pub returns-in_err-n : goal.returns-in_err-n
returns-in_err-n c =
    refused c.args.text.now c.args.out.now c.read_text.new.out c.from_residual.result _ c.from_residual.ensures.1 (omega arith) c.in_err-n.ensures.0

pub slice_bounds-put-end-2 : goal.slice_bounds-put-end-2
slice_bounds-put-end-2 c = simp length-take (omega (arith, c.in_ok-n.ensures.1))

pub put-requires : goal.put-requires
put-requires c = simp length-take (omega (arith, c.in_ok-n.ensures.1))

pub returns : goal.returns
returns c =
    let r = c.in_ok-n.ensures in
    answered c.args.text.now c.args.out.now c.read_text.new.out c.put.new.out c.put.result c.in_ok-n.n (omega arith) (omega arith) r.0 r.1 (omega arith)
    c.put.ensures (omega arith)
