-- "Disable n: every entry that is n becomes 0": what that changes. Assumes nothing.
use mathlib.Core.Path.{◌≡◌, refl, sym, ap, ◌∙◌, subst}
use mathlib.Core.List.{List, [], ◌∷◌}
use mathlib.Core.Bool.{Bool, true, false, cond}
use mathlib.Core.Logic.{◌≢◌}
use Prim.Native.Nat.{ℕ, ◌+◌, ◌≤◌, ◌<◌}
use native.Mathlib.Omega.{arith}
use native.Mathlib.Decide.{ℕ_discrete}
use lib.Dec.{eqb}
use lib.ListN.{length}
use borrow.Author.Tests.{eqb-false}
use Rattle.walk.specs.Lists.{count, hit_same, hit_other}
use Rattle.walk.specs.Finite.{from, from_in, in_from}
use Rattle.block_memory.specs.Words.{put, over}
use Rattle.block_memory.specs.Partition.{current, Partition, entry}
use Rattle.block_soundness.proofs.Ranges.{Permitted, entry-range}
use Rattle.block_rules.specs.Effects.{disable}
use Rattle.block_rules.proofs.Frame.{Placed, Frame, frame_self, frame_then, placed-kept, to}
use Rattle.block_rules.proofs.EntryWrite.{SameFields, entry-put}

-- entries that are 0 or as they were
abbrev pub FewerEntries : List ℕ → List ℕ → Type 0
FewerEntries m m' = (d e : ℕ) → Partition m d → entry m' d e ≢ 0 → entry m' d e ≡ entry m d e

pub record Disabled (m m' : List ℕ) (d : ℕ) : Type 0 where
  pub frame : Frame m m'
  pub now : current m' ≡ current m
  pub fields : SameFields m m'
  pub others : (t e : ℕ) → Partition m t → t ≢ d → entry m' t e ≡ entry m t e
  pub kept : (e : ℕ) → entry m' d e ≢ 0 → entry m' d e ≡ entry m d e

pub fewer : {m m' : List ℕ} {d : ℕ} → Disabled m m' d → FewerEntries m m'
fewer {m} {m'} {d} x t e v z = elim (ℕ_discrete t d) [
  | yes y ↦ subst (λ (u : ℕ). entry m' u e ≡ entry m u e) (sym y) (x.kept e (λ k. z (ap (λ (u : ℕ). entry m' u e) y ∙ k)))
  | no y ↦ x.others t e v y
]

self : (m : List ℕ) (d : ℕ) → Disabled m m d
self m d = record { frame = frame_self m; now = refl; fields = λ t o f v i. refl; others = λ t k v g. refl; kept = λ k z. refl }

then : (m m₁ m₂ : List ℕ) (d : ℕ) → Permitted (length m) → Disabled m m₁ d → Disabled m₁ m₂ d → Disabled m m₂ d
then m m₁ m₂ d p a b = record {
  frame = frame_then m m₁ m₂ p a.frame b.frame;
  now = b.now ∙ a.now;
  fields = λ t o f v i. b.fields t o f (to m m₁ p a.frame v) i ∙ a.fields t o f v i;
  others = λ t k v g. b.others t k (to m m₁ p a.frame v) g ∙ a.others t k v g;
  kept = λ k z. b.kept k z ∙ a.kept k (λ w. z (b.kept k z ∙ w));
}

module _ (d n : ℕ) where
  -- entry e of d isn't n, unless n is 0
  abbrev Off : List ℕ → ℕ → Type 0
  Off m e = entry m d e ≢ 0 → entry m d e ≢ n

  abbrev off : List ℕ → ℕ → List ℕ
  off w e = cond (eqb (entry w d e) n) (put w (d + 7 + e) 0) w

  one-off : (m : List ℕ) → Placed m → Partition m d → (e : ℕ) → 1 ≤ e → e ≤ 8 → Disabled m (off m e) d × Off (off m e) e
  one-off m p h e a b = go (eqb (entry m d e) n) refl
    where
      go : (t : Bool) → eqb (entry m d e) n ≡ t → Disabled m (cond t (put m (d + 7 + e) 0) m) d × Off (cond t (put m (d + 7 + e) 0) m) e
      go true q =
          let w = entry-put m p d e 0 h a b in (
            record {
              frame = w.frame;
              now = w.now;
              fields = w.fields;
              others = λ t k v g. w.others t k v (λ (x, y). g x);
              kept = λ k z. w.others d k h (λ (x, y). z (ap (entry (put m (d + 7 + e) 0) d) y ∙ w.at));
            },
            (λ z. absurd (z w.at)),
          )
      go false q = (self m d, λ z w. eqb-false (entry m d e) n q w)

  offs : (es m : List ℕ) → Placed m → Partition m d → ((e : ℕ) → 0 < count e es → (1 ≤ e) × (e ≤ 8))
      → Disabled m (over off m es) d × ((e : ℕ) → 0 < count e es → Off (over off m es) e)
  unfolding over count
  offs [] m p h r = (self m d, λ e c. absurd (omega arith))
  offs (e ∷ es) m p h r =
      let (a, b) = r e (omega (arith, hit_same e)) in
      let (x, y) = one-off m p h e a b in
      let (u, w) = offs es (off m e) (placed-kept m (off m e) p x.frame) (to m (off m e) p.permits x.frame h) (λ k c. r k (omega arith)) in (
        then m (off m e) (over off (off m e) es) d p.permits x u,
        λ k c z. elim (ℕ_discrete k e) [
          | yes q ↦ let v = u.kept k z ∙ ap (entry (off m e) d) q in λ g. y (λ i. z (v ∙ i)) (sym v ∙ g)
          | no q ↦ w k (omega (arith, hit_other k e q)) z
        ],
      )

  pub disabled : (m : List ℕ) → Placed m → Partition m d → Disabled m (disable m d n) d × ((e : ℕ) → Off (disable m d n) e)
  unfolding disable
  disabled m p h =
      let (a, b) = offs (from 8 1) m p h (λ e c. let r = from_in 8 1 e c in (r.0, omega (arith, r.1))) in
      (a, λ e z. let r = entry-range (over off m (from 8 1)) d e z in b e (in_from 8 1 e r.0 r.1) z)
