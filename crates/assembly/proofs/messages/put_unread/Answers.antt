-- `assembly::messages::put_unread` meets its contract. The five parts of the message stand one behind the other. Assumes nothing.
use native.Mathlib.Omega.{arith}
use Rattle.script.proofs.Decimals.{decimal-most}
use Rattle.script.proofs.Puts.{put_then, put_same}
use Rattle.assembly.specs.Messages.{message}
use Rattle.assembly.proofs.messages.put_unread.Goals as goal

pub put_decimal-q-requires : goal.put_decimal-q-requires
put_decimal-q-requires c =
    omega (arith, c.put-p.ensures.next, decimal-most c.args.k)

pub put-r-requires : goal.put-r-requires
put-r-requires c =
    omega (arith, c.put-p.ensures.next, c.put_decimal-q.ensures.next, decimal-most c.args.k)

pub put-e-requires : goal.put-e-requires
put-e-requires c =
    omega (arith, c.put-p.ensures.next, c.put_decimal-q.ensures.next, c.put-r.ensures.next, decimal-most c.args.k)

pub put-requires : goal.put-requires
put-requires c =
    omega (
      arith,
      c.put-p.ensures.next,
      c.put_decimal-q.ensures.next,
      c.put-r.ensures.next,
      c.put-e.ensures.next,
      c.text_of.ensures.1,
      decimal-most c.args.k,
    )

pub returns : goal.returns
unfolding message
returns c =
    let last = c.put.ensures in (
      put_then (put_then (put_then (put_then c.put-p.ensures c.put_decimal-q.ensures) c.put-r.ensures) (put_same c.text_of.ensures.0 c.put-e.ensures)) last,
      omega (
        arith,
        c.put-p.ensures.next,
        c.put_decimal-q.ensures.next,
        c.put-r.ensures.next,
        c.put-e.ensures.next,
        c.text_of.ensures.1,
        last.next,
        decimal-most c.args.k,
      ),
    )
