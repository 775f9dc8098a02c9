-- `script::records::all_records` meets its contract. The records left decide as all of them do. Assumes nothing.
use mathlib.Core.Path.{◌≡◌}
use Prim.Native.Nat.{◌-◌, ◌≤◌}
use lib.ListN.{length}
use Rattle.rules.specs.Replay.{records}
use Rattle.script.specs.Walk.{is_script}
use Rattle.script.proofs.records.all_records.Given as goal

abbrev pub invariant-loop : goal.invariant-loop
invariant-loop l = (is_script (records (l.count - l.counter) l.bytes l.i) ≡ is_script (records l.count l.bytes l.first)) × (l.i ≤ length l.bytes)
