-- Words as names of calls. Assumes nothing.
use mathlib.Core.Path.{◌≡◌, refl, sym, ap, ◌∙◌}
use mathlib.Core.Bool.{Bool, true, false, not, cond, ◌&&◌}
use mathlib.Core.List.{List, [], ◌∷◌}
use Prim.Native.Nat.{ℕ, suc, ◌+◌, ◌≤◌, ◌<◌}
use native.Mathlib.Decide.{dec_lt}
use native.Mathlib.Omega.{arith}
use lib.Dec.{eqb}
use lib.ListN.{length}
use borrow.Author.Tests.{lt-ltb, le-ltb}
use Rattle.std.specs.Prelude.{Option, Some, None}
use Rattle.std.specs.List.{prefix_len, position}
use Rattle.std.specs.Cmp.Lexicographic.{pointwise}
use Rattle.rules.specs.Replay.{known_call}
use Rattle.text.specs.Numbers.{number, is_number}
use Rattle.text.specs.Names.{names, same, place_from, named, call_number}

-- ---- a word among the names

same-is : (a b : List ℕ) → pointwise eqb a b ≡ same a b
unfolding same
same-is [] [] = refl
same-is [] (y ∷ ys) = refl
same-is (x ∷ xs) [] = refl
same-is (x ∷ xs) (y ∷ ys) = ap (λ (t : Bool). eqb x y && t) (same-is xs ys)

module _ (w : List ℕ) where
  -- how many names stand before w
  abbrev pub before : List (List ℕ) → ℕ
  before ns = prefix_len (λ (n : List ℕ). not (pointwise eqb w n)) ns

  at-name : (k : ℕ) (ns : List (List ℕ)) → before ns < length ns → place_from k w ns ≡ k + before ns
  unfolding place_from
  at-name k [] h = absurd (omega arith)
  at-name k (n ∷ ns) h = ap (λ (t : Bool). cond t k (place_from (suc k) w ns)) (sym (same-is w n)) ∙ pick (pointwise eqb w n) h (at-name (suc k) ns)
    where
      pick : (t : Bool) → cond (not t) (1 + before ns) 0 < suc (length ns) → (before ns < length ns → place_from (suc k) w ns ≡ suc k + before ns)
          → cond t k (place_from (suc k) w ns) ≡ k + cond (not t) (1 + before ns) 0
      pick true l f = omega arith
      pick false l f = omega (arith, f (omega arith))

  no-name : (k : ℕ) (ns : List (List ℕ)) → length ns ≤ before ns → place_from k w ns ≡ 0
  unfolding place_from
  no-name k [] h = refl
  no-name k (n ∷ ns) h = ap (λ (t : Bool). cond t k (place_from (suc k) w ns)) (sym (same-is w n)) ∙ pick (pointwise eqb w n) h (no-name (suc k) ns)
    where
      pick : (t : Bool) → suc (length ns) ≤ cond (not t) (1 + before ns) 0 → (length ns ≤ before ns → place_from (suc k) w ns ≡ 0) → cond t k (place_from (suc k) w ns) ≡ 0
      pick true l f = absurd (omega arith)
      pick false l f = f (omega arith)

  abbrev pub place : List (List ℕ) → Option ℕ
  place ns = position (λ (n : List ℕ). pointwise eqb w n) ns

  pub nowhere : place names ≡ None → 0 ≡ named w
  nowhere e = elim (dec_lt (before names) (length names)) [
    | yes l ↦ absurd (let z : ◌≡◌ {A = Option ℕ} (Some (before names)) None = (rw (lt-ltb (before names) (length names) l) at e) in cc)
    | no l ↦ sym (no-name 1 names (omega arith))
  ]

  pub somewhere : (i : ℕ) → place names ≡ Some i → (i + 1 ≡ named w) × (i < 12)
  somewhere i e = elim (dec_lt (before names) (length names)) [
    | yes l ↦
        let z : ◌≡◌ {A = Option ℕ} (Some (before names)) (Some i) = (rw (lt-ltb (before names) (length names) l) at e) in
        let f : before names ≡ i = cc in
        (omega (arith, f, at-name 1 names l), omega (arith, f, l))
    | no l ↦ absurd (let z : ◌≡◌ {A = Option ℕ} None (Some i) = (rw (le-ltb (before names) (length names) (omega arith)) at e) in cc)
  ]

-- ---- by its name, or by its number

module _ (w : List ℕ) (n : ℕ) (e : n ≡ named w) where
  pub by_name : 0 < n → n ≡ call_number w
  unfolding call_number
  by_name h = rw (← e, lt-ltb 0 n h) refl

  pub no_call : n ≤ 0 → is_number w ≡ false → 0 ≡ call_number w
  unfolding call_number
  no_call h f = rw (← e, le-ltb 0 n h, f) refl

  pub no-known : n ≤ 0 → is_number w ≡ true → known_call (number w) ≡ false → 0 ≡ call_number w
  unfolding call_number
  no-known h f g = rw (← e, le-ltb 0 n h, f, g) refl

  pub by_number : n ≤ 0 → is_number w ≡ true → known_call (number w) ≡ true → number w ≡ call_number w
  unfolding call_number
  by_number h f g = rw (← e, le-ltb 0 n h, f, g) refl
