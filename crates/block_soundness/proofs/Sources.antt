-- Where a block's source starts and ends, and its link: words of the parent's lent block, in the root fixed. Assumes nothing.
use mathlib.Core.Path.{◌≡◌}
use mathlib.Core.List.{List}
use mathlib.Core.Logic.{◌≢◌}
use Prim.Native.Nat.{ℕ, ◌*◌}
use lib.ListN.{length}
use borrow.Author.Tests.{eq-eqb, ne_eqb}
use Rattle.block_memory.specs.Geometry.{first_byte}
use Rattle.block_memory.specs.Partition.{root, parent, start, end, link, source}
use Rattle.block_memory.specs.Sound.{source_start, source_end, source_link}

module _ (m : List ℕ) (d n : ℕ) where
  pub source-start : d ≢ root m → source_start m d n ≡ start m (parent m d) (source m d n)
  source-start h = rw (ne_eqb d (root m) h)

  pub source-end : d ≢ root m → source_end m d n ≡ end m (parent m d) (source m d n)
  source-end h = rw (ne_eqb d (root m) h)

  pub source-link : d ≢ root m → source_link m d n ≡ link m (parent m d) (source m d n)
  source-link h = rw (ne_eqb d (root m) h)

  pub root-start : d ≡ root m → source_start m d n ≡ first_byte (length m)
  root-start e = rw (eq-eqb d (root m) e)

  pub root-end : d ≡ root m → source_end m d n ≡ 4 * length m
  root-end e = rw (eq-eqb d (root m) e)

  pub root-link : d ≡ root m → source_link m d n ≡ 8
  root-link e = rw (eq-eqb d (root m) e)
