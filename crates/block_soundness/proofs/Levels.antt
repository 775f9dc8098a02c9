-- Sound memory: a partition's level and 1 is at most the number of table words that its ancestors and itself take. Assumes nothing.
use mathlib.Core.Path.{◌≡◌, refl, sym, ap, ◌∙◌}
use mathlib.Core.List.{List, [], ◌∷◌}
use mathlib.Core.Logic.{◌≢◌}
use Prim.Native.Nat.{ℕ, zero, suc, ◌+◌, ◌/◌, ◌≤◌, ◌<◌}
use native.Mathlib.Omega.{arith}
use native.Mathlib.Decide.{ℕ_discrete, dec_lt}
use lib.ListN.{length}
use Rattle.walk.specs.Lists.{count, hit_same, hit_eq, hit_other, sum_of, taken}
use Rattle.block_memory.specs.Geometry.{table_words}
use Rattle.block_memory.specs.Words.{word}
use Rattle.block_memory.specs.Partition.{Partition, parent, level}
use Rattle.block_memory.specs.Sound.{Sound}
use Rattle.block_soundness.proofs.Ranges.{permitted-now, table-has}
use Rattle.block_soundness.proofs.Up.{other}

-- ---- numbers below n with no repeat are n at most

ones : (l : List ℕ) → sum_of (λ x. 1) l ≡ length l
unfolding sum_of
ones [] = refl
ones (x ∷ l) = omega (arith, ones l)

empty : (l : List ℕ) → ((x : ℕ) → 0 < count x l → x < 0) → length l ≡ 0
unfolding count
empty [] h = refl
empty (x ∷ l) h = absurd (omega (arith, h x (omega (arith, hit_same x))))

pub few : (n : ℕ) (l : List ℕ) → ((x : ℕ) → count x l ≤ 1) → ((x : ℕ) → 0 < count x l → x < n) → length l ≤ n
few zero l one low = omega (arith, empty l low)
few (suc n) l one low = elim (dec_lt 0 (count n l)) [
  | yes h ↦
      let (k, a, b) = taken (λ x. 1) n l h in
      omega (
        arith,
        ones l,
        ones k,
        b,
        few n k (λ x. omega (arith, a x, one x)) (λ x c. elim (ℕ_discrete x n) [
          | yes e ↦ absurd (omega (arith, a n, hit_same n, one n, ap (λ (y : ℕ). count y k) e))
          | no e ↦ omega (arith, low x (omega (arith, a x)))
        ]),
      )
  | no h ↦
      omega (
        arith,
        few n l one (λ x c. elim (ℕ_discrete x n) [
          | yes e ↦ absurd (omega (arith, ap (λ (y : ℕ). count y l) e))
          | no e ↦ omega (arith, low x c)
        ]),
      )
]

-- ---- the table words of a partition and its ancestors

module _ (m : List ℕ) (s : Sound m) where
  line : ℕ → ℕ → List ℕ
  line zero d = d / 32 ∷ []
  line (suc k) d = d / 32 ∷ line k (parent m d)

  length-line : (k d : ℕ) → length (line k d) ≡ suc k
  unfolding line
  length-line zero d = refl
  length-line (suc k) d = ap suc (length-line k (parent m d))

  -- one table word, one partition
  pub same_word : (d e : ℕ) → Partition m d → Partition m e → d / 32 ≡ e / 32 → d ≡ e
  same_word d e p q h = sym p.listed ∙ ap (λ (j : ℕ). word m (8 + j)) h ∙ q.listed

  up-listed : (d : ℕ) → Partition m d → 0 < level m d → Partition m (parent m d) × (level m d ≡ level m (parent m d) + 1)
  up-listed d p h = let b = (s.descriptors d p).of_other (other m s d h) in (b.parent_listed, b.below)

  -- what is in the line is the table word of a partition at that level or above
  in_line : (k d x : ℕ) → Partition m d → level m d ≡ k → 0 < count x (line k d) → (e : ℕ) × Partition m e × (e / 32 ≡ x) × (level m e ≤ k)
  unfolding line count
  in_line zero d x p e h = elim (ℕ_discrete x (d / 32)) [ yes q ↦ (d, p, sym q, omega arith) | no q ↦ absurd (omega (arith, hit_other x (d / 32) q)) ]
  in_line (suc k) d x p e h = elim (ℕ_discrete x (d / 32)) [
    | yes q ↦ (d, p, sym q, omega arith)
    | no q ↦
        let (u, v) = up-listed d p (omega arith) in
        let (f, a, b, c) = in_line k (parent m d) x u (omega arith) (omega (arith, hit_other x (d / 32) q)) in
        (f, a, b, omega arith)
  ]

  line-once : (k d x : ℕ) → Partition m d → level m d ≡ k → count x (line k d) ≤ 1
  unfolding line count
  line-once zero d x p e = elim (ℕ_discrete x (d / 32)) [ yes q ↦ omega (arith, hit_eq x (d / 32) q) | no q ↦ omega (arith, hit_other x (d / 32) q) ]
  line-once (suc k) d x p e =
      let (u, v) = up-listed d p (omega arith) in
      let ih = line-once k (parent m d) x u (omega arith) in
      elim (ℕ_discrete x (d / 32)) [
        | yes q ↦ elim (dec_lt 0 (count x (line k (parent m d)))) [
          | yes h ↦ let (f, a, b, c) = in_line k (parent m d) x u (omega arith) h in absurd (omega (arith, ap (level m) (same_word f d a p (b ∙ q))))
          | no h ↦ omega (arith, hit_eq x (d / 32) q)
        ]
        | no q ↦ omega (arith, hit_other x (d / 32) q)
      ]

  -- with a table word besides that no partition has
  pub room-below : (d j : ℕ) → Partition m d → j < table_words (length m) → ((e : ℕ) → Partition m e → e / 32 ≢ j) → level m d + 1 < table_words (length m)
  unfolding count
  room-below d j p h free =
      let k = level m d in
      omega (
        arith,
        length-line k d,
        few (table_words (length m)) (j ∷ line k d)
            (λ x. elim (ℕ_discrete x j) [
              | yes q ↦ elim (dec_lt 0 (count x (line k d))) [
                | yes c ↦ let (f, a, b, g) = in_line k d x p refl c in absurd (free f a (b ∙ q))
                | no c ↦ omega (arith, hit_eq x j q)
              ]
              | no q ↦ omega (arith, hit_other x j q, line-once k d x p refl)
            ])
            (λ x c. elim (ℕ_discrete x j) [
              | yes q ↦ omega arith
              | no q ↦ let (f, a, b, g) = in_line k d x p refl (omega (arith, hit_other x j q)) in omega (arith, table-has m (permitted-now m s) f a, b)
            ]),
      )
