-- Numbers that rise: none of them stands twice. Assumes nothing.
use mathlib.Core.Path.{◌≡◌, refl, ap, ◌∙◌}
use mathlib.Core.List.{List, [], ◌∷◌}
use mathlib.Core.Bool.{Bool, true, false, cond, ◌&&◌}
use mathlib.Core.Logic.{◌≢◌}
use Prim.Native.Nat.{ℕ, ◌≤◌, ◌<◌}
use native.Mathlib.Omega.{arith}
use native.Mathlib.Decide.{ℕ_discrete, dec_lt}
use lib.Dec.{ltb}
use borrow.Author.Tests.{lt-ltb, le-ltb}
use Rattle.walk.specs.Lists.{count, hit_eq, hit_other}
use Rattle.judging.specs.Quick.{largest, rise, top}

rise-back : (t y : ℕ) → y ≤ t → rise t y ≡ largest
rise-back t y h = rw (le-ltb t y h) refl

rise-past : (t y : ℕ) → largest ≤ y → rise t y ≡ largest
rise-past t y h = go (ltb t y) (ltb y largest) (le-ltb y largest h)
  where
    go : (p q : Bool) → q ≡ false → cond (p && q) y largest ≡ largest
    go true q e = rw e refl
    go false q e = refl

rise-on : (t y : ℕ) → t < y → y < largest → rise t y ≡ y
rise-on t y h l = rw (lt-ltb t y h, lt-ltb y largest l) refl

-- the largest word stays
stays : (ys : List ℕ) → top largest ys ≡ largest
unfolding top
stays [] = refl
stays (y ∷ ys) = ap (λ (z : ℕ). top z ys) (elim (dec_lt largest y) [ yes h ↦ rise-past largest y (omega arith) | no h ↦ rise-back largest y (omega arith) ])
    ∙ stays ys

pub rising-once : (ys : List ℕ) (t : ℕ) → top t ys ≢ largest → (z : ℕ) → (count z ys ≤ 1) × (0 < count z ys → t < z)
unfolding top count
rising-once [] t n z = (omega arith, λ h. absurd (omega arith))
rising-once (y ∷ ys) t n z = elim (dec_lt t y) [
  | no h ↦ absurd (n (ap (λ (x : ℕ). top x ys) (rise-back t y (omega arith)) ∙ stays ys))
  | yes h ↦ elim (dec_lt y largest) [
    | no l ↦ absurd (n (ap (λ (x : ℕ). top x ys) (rise-past t y (omega arith)) ∙ stays ys))
    | yes l ↦
        let r = rising-once ys y (λ e. n (ap (λ (x : ℕ). top x ys) (rise-on t y h l) ∙ e)) z in
        elim (ℕ_discrete z y) [
          | yes e ↦ elim (dec_lt 0 (count z ys)) [ yes p ↦ absurd (omega (arith, r.1 p)) | no q ↦ (omega (arith, hit_eq z y e), λ p. omega arith) ]
          | no o ↦ (omega (arith, r.0, hit_other z y o), λ p. omega (arith, h, r.1 (omega (arith, hit_other z y o))))
        ]
  ]
]
