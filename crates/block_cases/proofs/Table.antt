-- The table holds: computed, without the test of soundness. Assumes nothing.
use mathlib.Core.Path.{◌≡◌, refl, fun_ext}
use mathlib.Core.List.{List}
use mathlib.Core.Bool.{true}
use Prim.Native.Nat.{ℕ}
use Rattle.common.specs.Expected.{all_hold}
use Rattle.block_memory.specs.Format.{format}
use Rattle.block_rules.specs.Call.{Service}
use Rattle.block_cases.specs.Reached.{reached, refused_after}
use Rattle.block_cases.specs.Table.{six_calls, slot_is, eight_enabled, structures, sixteen, levels, level_now, rows, table}
use Rattle.block_cases.proofs.Later.{later, run_later, reached-is, refused-is}
use Rattle.block_cases.proofs.Computing.{computing}

unfoldable reached_later : List Service → List ℕ
reached_later ss = run_later (format 4096) ss

unfoldable refused_later : List Service → Service → ℕ
refused_later ss s = later (run_later (format 4096) ss) s

computed : all_hold (rows reached_later refused_later) ≡ true
unfolding computing rows six_calls slot_is eight_enabled structures sixteen levels level_now reached_later refused_later
computed = refl

pub table-holds : all_hold table ≡ true
unfolding table reached_later refused_later
table-holds =
    let r : reached ≡ reached_later = fun_ext reached-is in
    let f : refused_after ≡ refused_later = fun_ext (λ ss. fun_ext (refused-is ss)) in
    rw (r, f) computed
