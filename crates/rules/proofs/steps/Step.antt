-- Every call but format keeps the invariant of its width, on any memory that has it. Assumes an index width of 6 or more.
use mathlib.Core.Path.{◌≡◌}
use mathlib.Core.List.{List}
use mathlib.Core.Option.{none}
use Prim.Native.Nat.{ℕ, ◌≤◌}
use native.Mathlib.Omega.{arith}
use Rattle.rules.specs.Call.{Call, format_all, create_partition, delete_partition, add_vaddr, remove_vaddr, page_count, prepare, collect, mapped_in_child}
use Rattle.rules.specs.Call.{enter, leave, load, store, notify, dispatch, resume, choice}
use Rattle.rules.specs.Calls.{after}
use Rattle.rules.proofs.model.Inv.{Inv}
use Rattle.rules.proofs.steps.Unchanged.{inv-after, inv-page_count, inv-mapped_in_child, inv-load}
use Rattle.rules.proofs.steps.KeepMove.{keep-enter, keep-leave, keep-store}
use Rattle.rules.proofs.steps.KeepAdd.{keep-add, keep-remove}
use Rattle.rules.proofs.steps.KeepCreate.{keep-create}
use Rattle.rules.proofs.steps.KeepDelete.{keep-delete}
use Rattle.rules.proofs.steps.Prepare.{keep-prepare}
use Rattle.rules.proofs.steps.CollectThree.{keep-collect}
use Rattle.rules.proofs.steps.Live.{live-inv}
use Rattle.rules.proofs.steps.KeepContexts.{notified, dispatched, resumed}

module _ {b : ℕ} (wide : 6 ≤ b) where
  pub inv-step : (m : List ℕ) → Inv b m → (c : Call) → choice c ≡ none → Inv b (after b m c)
  unfolding choice
  inv-step m i (format_all e) n = let z : ◌≡◌ {A = ℕ} 0 1 = cc in absurd (omega arith)
  inv-step m i (create_partition p d s t l) n = inv-after wide m i _ (keep-create wide m i p d s t l)
  inv-step m i (delete_partition c) n = inv-after wide m i _ (keep-delete wide m i c)
  inv-step m i (add_vaddr p c t r) n = inv-after wide m i _ (keep-add wide m i p c t r)
  inv-step m i (remove_vaddr c t) n = inv-after wide m i _ (keep-remove wide m i c t)
  inv-step m i (page_count c t) n = inv-page_count wide m i c t
  inv-step m i (prepare c t p) n = inv-after wide m i _ (keep-prepare wide m i c t p)
  inv-step m i (collect c t) n = inv-after wide m i _ (keep-collect wide m i c t)
  inv-step m i (mapped_in_child p) n = inv-mapped_in_child wide m i p
  inv-step m i (enter c) n = inv-after wide m i _ (keep-enter wide m i c)
  inv-step m i leave n = inv-after wide m i _ (keep-leave wide m i)
  inv-step m i (load a) n = inv-load wide m i a
  inv-step m i (store a x) n = inv-after wide m i _ (keep-store wide m i a x)
  inv-step m i (notify t p q r) n = inv-after wide m i _ (λ e. live-inv wide m i (notified wide m i t p q r e))
  inv-step m i (dispatch t) n = inv-after wide m i _ (λ e. live-inv wide m i (dispatched wide m i t e))
  inv-step m i (resume t s) n = inv-after wide m i _ (λ e. live-inv wide m i (resumed wide m i t s e))
