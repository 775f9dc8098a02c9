-- What the rules promise of single calls on sound memory. Assumes nothing.
use mathlib.Core.Path.{◌≡◌, refl, sym, subst}
use mathlib.Core.List.{List}
use Prim.Native.Nat.{ℕ}
use Rattle.common.specs.Row.{pass}
use Rattle.common.proofs.Rows.{Passed}
use Rattle.block_memory.specs.Partition.{current, used}
use Rattle.block_rules.specs.Call.{serve, delete}
use Rattle.block_rules.specs.Refusals.{refusals_of, refusals}
use Rattle.block_rules.specs.Effects.{delete_child, effect_of, effect}
use Rattle.block_rules.specs.Calls.{after}
use Rattle.block_rules.specs.Deleted.{Deleted, EveryDelete}
use Rattle.block_rules.proofs.Rows.{passed, is}
use Rattle.block_rules.proofs.steps.Delete.{deleted}

-- delete that isn't refused names a child
names-child : (m : List ℕ) (c : ℕ) → Passed (refusals m (serve (delete c))) → used m (current m) c ≡ 3
unfolding refusals refusals_of
names-child m c (a, (e, u)) = is _ _ e

pub every-delete : EveryDelete
unfolding after pass effect effect_of
every-delete m s c e =
    let d = current m in
    subst (λ (n : ℕ). Deleted m (pass n (delete_child m d c) m) d c) (sym e)
    (deleted m s d c s.header.current_word (names-child m c (passed (refusals m (serve (delete c))) e)) refl)
