-- Words wiped, one step after the other: each word that is Of is 0, and all others stay. Assumes nothing.
use mathlib.Core.Path.{◌≡◌, refl, ◌∙◌, ap, subst}
use mathlib.Core.List.{List, [], ◌∷◌}
use mathlib.Core.Logic.{◌≢◌, ◌⊎◌, inl, inr}
use Prim.Native.Nat.{ℕ, ◌+◌, ◌-◌, ◌≤◌, ◌<◌}
use native.Mathlib.Omega.{arith}
use native.Mathlib.Decide.{ℕ_discrete, dec_lt}
use lib.ListN.{length, replicate, get_or-replicate, length-replicate}
use Rattle.walk.specs.Lists.{count, count_nil, count_cons, hit_eq, hit_other}
use Rattle.common.proofs.Overwrite.{length-overwrite, overwrite-before, overwrite-after, overwrite-at, overwrite-one}
use Rattle.block_memory.specs.Words.{word, put, wipe, over}

pub record Zeroed (x y : List ℕ) (Of : ℕ → Type 0) : Type 0 where
  pub size : length y ≡ length x
  pub kept : (j : ℕ) → ¬ (Of j) → word y j ≡ word x j
  pub zero : (j : ℕ) → Of j → word y j ≡ 0
  -- what is 0 stays so
  pub still : (j : ℕ) → word x j ≡ 0 → word y j ≡ 0

-- n words from a on
pub wipe_zeroed : (x : List ℕ) (a n : ℕ) → a + n ≤ length x → Zeroed x (wipe x a n) (λ j. (a ≤ j) × (j < a + n))
wipe_zeroed x a n fits = record {
  size = length-overwrite x a (replicate n 0);
  kept = λ j o. elim (dec_lt j a) [
    | yes b ↦ overwrite-before x a (replicate n 0) j b
    | no b ↦ elim (dec_lt j (a + n)) [ yes c ↦ absurd (o (omega arith, c)) | no c ↦ behind j (omega arith) ]
  ];
  zero = λ j (b, c). among j b c;
  still = λ j z. elim (dec_lt j a) [
    | yes b ↦ overwrite-before x a (replicate n 0) j b ∙ z
    | no b ↦ elim (dec_lt j (a + n)) [ yes c ↦ among j (omega arith) c | no c ↦ behind j (omega arith) ∙ z ]
  ];
}
  where
    behind : (j : ℕ) → a + n ≤ j → word (wipe x a n) j ≡ word x j
    behind j h = overwrite-after x a (replicate n 0) j (omega (arith, length-replicate {A = ℕ} n 0))

    among : (j : ℕ) → a ≤ j → j < a + n → word (wipe x a n) j ≡ 0
    among j b c =
        ap (word (wipe x a n)) (omega arith)
        ∙ overwrite-at x a (replicate n 0) (j - a) (omega (arith, length-replicate {A = ℕ} n 0)) (omega arith)
        ∙ get_or-replicate n (j - a) 0 0 (omega arith)

-- one word
pub put_zeroed : (x : List ℕ) (a : ℕ) → a < length x → Zeroed x (put x a 0) (λ j. (a ≤ j) × (j < a + 1))
put_zeroed x a fits = subst (λ (y : List ℕ). Zeroed x y (λ j. (a ≤ j) × (j < a + 1))) (overwrite-one x a 0) (wipe_zeroed x a 1 (omega arith))

pub zeroed_then : {x y z : List ℕ} {A B : ℕ → Type 0} → Zeroed x y A → Zeroed y z B → Zeroed x z (λ j. A j ⊎ B j)
zeroed_then {x} {y} {z} {A} {B} a b = record {
  size = b.size ∙ a.size;
  kept = λ j n. b.kept j (λ o. n (inr o)) ∙ a.kept j (λ o. n (inl o));
  zero = zero;
  still = λ j e. b.still j (a.still j e);
}
  where
    zero : (j : ℕ) → A j ⊎ B j → word z j ≡ 0
    zero j (inl o) = b.still j (a.zero j o)
    zero j (inr o) = b.zero j o

-- f for each element of a list that has each once. Step u wipes the words that are Of u; it needs Fine, which the steps of others leave.
module _ (f : List ℕ → ℕ → List ℕ) (Of : ℕ → ℕ → Type 0) (Fine : List ℕ → ℕ → Type 0)
    (step : (x : List ℕ) (u : ℕ) → Fine x u → Zeroed x (f x u) (Of u))
    (next : (x : List ℕ) (u v : ℕ) → v ≢ u → Fine x u → Fine x v → Fine (f x u) v) where
  pub over_zeroed : (us x : List ℕ) → ((u : ℕ) → 0 < count u us → Fine x u) → ((u : ℕ) → count u us ≤ 1)
      → Zeroed x (over f x us) (λ j. (u : ℕ) × (0 < count u us) × Of u j)
  unfolding over
  over_zeroed [] x fine one = record { size = refl; kept = λ j n. refl; zero = λ j (u, h, o). absurd (omega (arith, count_nil u)); still = λ j z. z }
  over_zeroed (u ∷ us) x fine one =
      let first : 0 < count u (u ∷ us) = omega (arith, count_cons u u us, hit_eq u u refl) in
      let more : (v : ℕ) → 0 < count v us → 0 < count v (u ∷ us) = λ v h. omega (arith, count_cons v u us) in
      let a = step x u (fine u first) in
      let b = over_zeroed us (f x u)
      (λ v h. next x u v (λ e. omega (arith, one v, count_cons v u us, hit_eq v u e)) (fine u first) (fine v (more v h)))
      (λ v. omega (arith, one v, count_cons v u us)) in
      record {
        size = b.size ∙ a.size;
        kept = λ j n. b.kept j (λ (v, h, o). n (v, more v h, o)) ∙ a.kept j (λ o. n (u, first, o));
        zero = λ j (v, h, o). elim (ℕ_discrete v u) [
          | yes e ↦ b.still j (a.zero j (subst (λ (w : ℕ). Of w j) e o))
          | no e ↦ b.zero j (v, omega (arith, count_cons v u us, hit_other v u e), o)
        ];
        still = λ j z. b.still j (a.still j z);
      }
