-- What prepare and collect leave, in the terms of the functions that they are made of. Assumes nothing.
use mathlib.Core.Path.{◌≡◌}
use mathlib.Core.List.{List, [], ◌∷◌}
use Prim.Native.Nat.{ℕ, ◌+◌, ◌*◌}
use Rattle.memory.specs.Geometry.{address, page_of, directory_index}
use Rattle.memory.specs.Words.{index, word, put, overwrite}
use Rattle.memory.specs.Partition.{current, directory, shadow1, shadow2, list, mapping}
use Rattle.rules.specs.Call.{prepare, collect}
use Rattle.rules.specs.Moves.{take_all, return_all}
use Rattle.rules.specs.Conditions.{child, link}
use Rattle.rules.specs.Effects.{three_place, prepare_three, collect_three, effect}
use Rattle.rules.specs.Calls.{result}
use Rattle.threes.specs.Standing.{put_three, dropped}

module _ (b : ℕ) (m : List ℕ) (c t p : ℕ) where
  pub prepare-is : {d k l free dir s₁ s₂ u i q s x y z : ℕ} {m₁ m₂ m₃ : List ℕ} → d ≡ current b m → k ≡ child b m c → l ≡ list b m k → free ≡ word b m l 0
      → dir ≡ directory b m k → s₁ ≡ shadow1 b m k → s₂ ≡ shadow2 b m k → u ≡ page_of b t → i ≡ directory_index b u → q ≡ link b m p → s ≡ link b m q
      → x ≡ address b (page_of b (mapping b m d p)) → y ≡ address b (page_of b (mapping b m d q)) → z ≡ address b (page_of b (mapping b m d s))
      → m₁ ≡ take_all b m d (p ∷ q ∷ s ∷ []) → m₂ ≡ put_three b m₁ dir s₁ s₂ i (x + 1) (y + 1) (z + 1)
      → m₃ ≡ put b (overwrite m₂ (index b l free) (p ∷ x ∷ q ∷ y ∷ s ∷ z ∷ [])) l 0 (free + 6) → m₃ ≡ effect b m (prepare c t p)
  unfolding effect prepare_three
  prepare-is hd hk hl hf h₀ h₁ h₂ hu hi hq hs hx hy hz k₁ k₂ k₃ =
      rw (k₃, k₂, k₁, hx, hy, hz, hs, hq, hi, hu, h₀, h₁, h₂, hf, hl, hk, hd)

module _ (b : ℕ) (m : List ℕ) (c t : ℕ) where
  pub collect-is : {d k j l v x y w₁ w₂ q₁ q₂ : ℕ} {m₁ m₂ : List ℕ} → d ≡ current b m → k ≡ child b m c → j ≡ three_place b m k t → l ≡ list b m k
      → v ≡ word b m l (1 + 6 * j) → x ≡ word b m l (3 + 6 * j) → y ≡ word b m l (5 + 6 * j)
      → w₁ ≡ mapping b m d v → q₁ ≡ page_of b w₁ → w₂ ≡ mapping b m d x → q₂ ≡ page_of b w₂
      → m₁ ≡ dropped b m k t j → m₂ ≡ put b (put b (return_all b m₁ d (v ∷ x ∷ y ∷ [])) q₁ 0 x) q₂ 0 y
      → (v ≡ result b m (collect c t)) × (m₂ ≡ effect b m (collect c t))
  unfolding effect collect_three result
  collect-is hd hk hj hl hv hx hy e₁ f₁ e₂ f₂ k₁ k₂ = (
    rw (hv, hl, hj, hk),
    rw (k₂, k₁, f₂, f₁, e₂, e₁, hy, hx, hv, hl, hj, hk, hd),
  )
