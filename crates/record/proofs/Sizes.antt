-- The sizes of a sound memory's parts. Assumes nothing.
use mathlib.Core.Path.{◌≡◌}
use mathlib.Core.Bool.{true}
use mathlib.Core.List.{List}
use Prim.Native.Nat.{ℕ, ◌+◌, ◌≤◌, ◌<◌}
use native.Mathlib.Omega.{arith}
use Rattle.memory.specs.Geometry.{address, flat_pages}
use Rattle.memory.specs.Partition.{pages}
use Rattle.memory.proofs.Widths.{words-most}
use Rattle.pages.proofs.Fits.{address-small}
use Rattle.soundness.specs.Test.{sound_test}
use Rattle.soundness.proofs.Whole.{test-sound}

-- a virtual page up to the end of the root's pages has an address
pub end_fits : (b : ℕ) (m : List ℕ) → b ≤ 10 → sound_test b m ≡ true → (v : ℕ) → v ≤ flat_pages b (pages b m) + 1 → address b v < 4294967296
end_fits b m h e v l =
    let s = test-sound b m e in
    omega (arith, address-small b v h (omega (arith, words-most b h, s.header.least, s.header.most)))
