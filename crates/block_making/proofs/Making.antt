-- A call that isn't refused found the memory sound, so that a level is small and the table short; and create step by step. Assumes nothing.
use mathlib.Core.Path.{◌≡◌, sym, ap, subst}
use mathlib.Core.List.{List}
use Prim.Native.Nat.{ℕ, ◌/◌, ◌≤◌, ◌<◌}
use native.Mathlib.Omega.{arith}
use native.Mathlib.Decide.{ℕ_discrete}
use lib.ListN.{length}
use borrow.Author.Tests.{not-false}
use Rattle.common.proofs.Rows
use Rattle.block_memory.specs.Partition.{Partition, current, root, level}
use Rattle.block_memory.specs.Sound.{Sound}
use Rattle.block_soundness.specs.Test.{sound_test}
use Rattle.block_soundness.proofs.Ranges.{permitted-now}
use Rattle.block_soundness.proofs.Whole.{sound?}
use Rattle.block_rules.specs.Refusal.{number, DAMAGED}
use Rattle.block_rules.specs.Call.{Service, serve}
use Rattle.block_rules.specs.Conditions.{damaged}
use Rattle.block_rules.specs.Refusals.{refusals_of, refusals, refusal}
use Rattle.block_rules.proofs.Rows.{number-some}

module _ (m : List ℕ) where
  -- the table has 512 words at most
  pub short : Sound m → length m / 32 ≤ 512
  short s = let p = permitted-now m s in omega (arith, p.whole, p.most)

  pub passed-sound : (s : Service) → 0 ≡ refusal m (serve s) → Sound m
  unfolding refusals
  passed-sound s e =
      (sound? m).0 (not-false (sound_test m) (Rows.clear number number-some DAMAGED (damaged m) (refusals_of m (current m) s) (sym e)).0)

  -- d was read for the current partition
  pub passed-partition : (s : Service) {d : ℕ} → 0 ≡ refusal m (serve s) → d ≡ current m → Partition m d
  passed-partition s e here = subst (Partition m) (sym here) (passed-sound s e).header.current_word

  -- d was read for the current partition
  pub small : (s : Service) {d : ℕ} → 0 ≡ refusal m (serve s) → d ≡ current m → level m d < 4294967295
  small s e here =
      let x = passed-sound s e in
      let p = x.descriptors (current m) x.header.current_word in
      let h : level m (current m) < 4294967295 = elim (ℕ_discrete (current m) (root m)) [
        | yes q ↦ omega (arith, ap (level m) q, (p.of_root q).top)
        | no q ↦ omega (arith, (p.of_other q).few, short x)
      ] in
      omega (arith, ap (level m) here)
