-- Sound memory has all that demand 3 asks. Assumes nothing.
use mathlib.Core.Path.{◌≡◌, sym, ap, ap₂, ◌∙◌}
use mathlib.Core.List.{List}
use mathlib.Core.Logic.{◌≢◌, ◌⊎◌, inl, inr}
use Prim.Native.Nat.{ℕ, ◌≤◌, ◌<◌}
use native.Mathlib.Omega.{arith}
use lib.ListN.{length}
use Rattle.block_memory.specs.Geometry.{flat_bytes}
use Rattle.block_memory.specs.Partition.{root, Partition, entry, start, end, used}
use Rattle.block_memory.specs.Bytes.{Live, HasByte}
use Rattle.block_memory.specs.Sound.{Sound}
use Rattle.block_soundness.proofs.Ranges.{entry-range}
use Rattle.block_soundness.proofs.Blocks.{used_as, block}
use Rattle.block_soundness.proofs.Once.{once, one-block, siblings}
use Rattle.block_soundness.proofs.Counted.{counted}
use Rattle.block_soundness.proofs.Up.{up, one-child, above-first}
use Rattle.block_claim.specs.Kept.{KernelByte, InParent, Kept}

module _ (m : List ℕ) (s : Sound m) where
  closed : (d n x : ℕ) → HasByte m d n x → used m d n ≡ 1 → KernelByte m x → ⊥
  closed d n x b e (inl h) = omega (arith, above-first m s b.live, b.from)
  closed d n x b e (inr (u, o, k, w)) = go w
    where
      apart : used m u o ≢ 2 → used m u o ≢ 1 → ⊥
      apart f g =
          let (i, j) = once m s d u n o x (record { has = b; not_lent = λ z. omega (arith, z, e) }) (record { has = k; not_lent = f }) in
          g (sym (ap₂ (λ (y z : ℕ). used m y z) i j) ∙ e)

      go : (used m u o ≡ 3) ⊎ (used m u o ≡ 4) → ⊥
      go (inl f) = apart (λ z. omega (arith, z, f)) (λ z. omega (arith, z, f))
      go (inr f) = apart (λ z. omega (arith, z, f)) (λ z. omega (arith, z, f))

  vertical : (d n : ℕ) → Partition m d → d ≢ root m → used m d n ≢ 0 → InParent m d n
  vertical d n p h z =
      let l : Live m d n = record { partition = p; block = z } in
      let u = up m s l h in
      record { lent = u.lent; to_this = u.to_this; low = u.low; high = u.high; no_more = ((block m s l).sources.of_other h).no_more }

  shut : (d e x : ℕ) → Partition m d → entry m d e ≢ 0 → start m d (entry m d e) ≤ x → x < end m d (entry m d e) → KernelByte m x → ⊥
  shut d e x p z a b k =
      let u = (s.entries d p).in_hand e z in
      closed d (entry m d e) x (record { live = used_as p u; from = a; up_to = b }) u k

  pub kept_from : (w : ℕ) → length m ≡ w → Kept m w
  kept_from w e = record {
    size = e;
    sound = s;
    one_block = λ x a b. one-block m s x (omega arith) (omega arith);
    vertical = vertical;
    one_child = one-child m s;
    siblings = siblings m s;
    closed = closed;
    enabled = λ d k p z. let (a, b) = entry-range m d k z in ((s.entries d p).in_hand k z, a, omega arith);
    shut = shut;
    counted = counted m s ∙ ap flat_bytes e;
  }
