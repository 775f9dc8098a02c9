-- `record::bytes::put_bytes` meets its contract. The part that was lent comes back written, and the bytes around it as they were. Assumes nothing.
use native.Mathlib.Omega.{arith}
use Rattle.record.proofs.Append.{written}
use Rattle.record.proofs.bytes.put_bytes.Goals as goal

pub returns : goal.returns
returns c = rw c.copy_from_slice.ensures.after (written c.args.out.now c.args.at _ c.args.ws.now (omega arith) (omega arith))
