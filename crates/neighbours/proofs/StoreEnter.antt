-- store, enter and leave in both memories: what they leave agrees again on what B sees. Assumes an index width of 6 or more.
use mathlib.Core.Path.{◌≡◌, subst}
use mathlib.Core.List.{List}
use Prim.Native.Nat.{ℕ, ◌/◌, ◌<◌}
use native.Mathlib.Omega.{arith}
use Rattle.memory.specs.Geometry
use Rattle.memory.specs.Partition.{current, mapping}
use Rattle.memory.proofs.Geometry.{place-lt}
use Rattle.rules.specs.Call.{enter, leave, store}
use Rattle.rules.specs.Refusals.{refusals, refusal}
use Rattle.rules.specs.Effects.{effect}
use Rattle.rules.proofs.Rows.{passed}
use Rattle.rules.proofs.model.Words.{W, put, twelve-lt}
use Rattle.rules.proofs.sound.Words.{virtual-fits}
use Rattle.neighbours.proofs.Twin.{Twin}
use Rattle.neighbours.proofs.Near.{Near, near-start, both_zero, both-mapped, near-put}
use Rattle.neighbours.proofs.Lookups.{good-virtual, word_fits, cur-mapping, child-same, cur-parent}

place-fits : (b a : ℕ) → Geometry.place b a / 4 < W b
unfolding W
place-fits b a = omega (arith, place-lt b a)

module _ {b B : ℕ} {m n : List ℕ} (t : Twin b B m n) where
  open t use {wide}

  -- the caller
  abbrev c : ℕ
  c = current b m

  -- ---- store: a word of a page that the caller maps

  pub near_store : (a x : ℕ) → refusal b m (store a x) ≡ 0 → Near t (effect b m (store a x)) (effect b n (store a x))
  unfolding refusals effect put
  near_store a x e =
      let f = word_fits wide a (passed _ e).1.0 in
      let j : ℕ = Geometry.place b a / 4 in
      subst (λ (w : ℕ). Near t (effect b m (store a x)) (put b n (Geometry.page_of b w) j x)) (cur-mapping t a f)
      (near-put t (near-start t) (Geometry.page_of b (mapping b m c a)) j x (place-fits b a) (both-mapped t a f))

  -- ---- enter and leave: word 4 of page 0, the current partition

  near-current : (d e : ℕ) → d ≡ e → Near t (put b m 0 4 (Geometry.address b d)) (put b n 0 4 (Geometry.address b e))
  near-current d e q =
      subst (λ (k : ℕ). Near t (put b m 0 4 (Geometry.address b d)) (put b n 0 4 (Geometry.address b k))) q
      (near-put t (near-start t) 0 4 (Geometry.address b d) (twelve-lt wide 4 (omega arith)) (both_zero t))

  pub near-enter : (u : ℕ) → refusal b m (enter u) ≡ 0 → Near t (effect b m (enter u)) (effect b n (enter u))
  unfolding refusals effect put
  near-enter u e = near-current _ _ (child-same t u (virtual-fits wide u (good-virtual wide u (passed _ e).1.0)))

  pub near-leave : Near t (effect b m leave) (effect b n leave)
  unfolding effect put
  near-leave = near-current _ _ (cur-parent t)
