-- The caller's word for an address: the mapping of the current partition. Assumes nothing.
use mathlib.Core.Path.{◌≡◌, ap, ◌∙◌}
use mathlib.Core.List.{List}
use Prim.Native.Nat.{ℕ}
use Rattle.memory.specs.Partition.{current, mapping}

pub caller-mapping : (b : ℕ) (m : List ℕ) (a : ℕ) {d w : ℕ} → d ≡ current b m → w ≡ mapping b m d a → w ≡ mapping b m (current b m) a
caller-mapping b m a e f = f ∙ ap (λ (d : ℕ). mapping b m d a) e
