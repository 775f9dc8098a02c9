-- Sound memory has as many pages by its header as by its length. Assumes nothing.
use mathlib.Core.Path.{◌≡◌, sym, ap, ◌∙◌}
use mathlib.Core.List.{List}
use Prim.Native.Nat.{ℕ, ◌/◌}
use lib.ListN.{length}
use Rattle.memory.specs.Geometry.{page_words}
use Rattle.memory.specs.Partition.{pages}
use Rattle.memory.specs.Sound.{Sound}
use Rattle.rules.specs.Conditions.{pages_in}
use Rattle.rules.proofs.Size.{counted-pages}

pub pages-kept : (b : ℕ) (m m' : List ℕ) → length m' ≡ length m → Sound b m' → pages b m' ≡ pages_in b m
pages-kept b m m' l s = sym (counted-pages b m' s.header) ∙ ap (λ (x : ℕ). x / page_words b) l
