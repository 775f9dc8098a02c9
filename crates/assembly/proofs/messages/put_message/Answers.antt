-- `assembly::messages::put_message` meets its contract. Each arm is its answer's. Assumes nothing.
use mathlib.Core.Path.{sym, ap}
use mathlib.Core.List.{[]}
use borrow.Author.Rules.{rules}
use Rattle.script.proofs.Puts.{put_same}
use Rattle.assembly.specs.Told.{told}
use Rattle.assembly.specs.Messages.{message}
use Rattle.assembly.proofs.Records.{put-none}
use Rattle.assembly.proofs.messages.put_message.Goals as goal

pub returns-in-Ok : goal.returns-in-Ok
unfolding message
returns-in-Ok c = (put_same (ap (λ a. message (told a [])) (sym c.in-Ok.is)) (put-none c.args.out.now 0), search rules)
