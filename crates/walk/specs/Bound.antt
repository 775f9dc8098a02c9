-- The judge stops at the first page that it meets twice: it looks at no more partitions than there are pages, whatever the lists say. Assumes only that
-- each partition lists a page.
use Rattle.std.proofs.Math.Path.{◌≡◌, refl, ap}
use Rattle.std.proofs.Common.{sym}
use mathlib.Core.List.{List, [], ◌∷◌}
use Rattle.std.specs.Prelude.{Bool, length, get_or, set}
use Rattle.std.proofs.Math.Bool.{true, false}
use Rattle.std.proofs.Math.Option.{Option, none, some}
use Prim.Native.Nat.{ℕ, zero, suc, ◌+◌, ◌≤◌, ◌<◌}
use native.Mathlib.Omega.{arith}
use Rattle.walk.specs.Lists.{hit, hit_same, hit_eq, hit_other, count}
use Rattle.walk.specs.Marks.{Seen, and_then-is, each, mark, mark_was, marks}
use Rattle.walk.specs.Walk.{one-is, child, clear}

count_set : (x : ℕ) (s : List ℕ) (p v : ℕ) → p < length s → count x (set s p v) + hit x (get_or s p 0) ≡ count x s + hit x v
unfolding count
count_set x [] p v h = absurd (omega arith)
count_set x (a ∷ s) zero v h = omega arith
count_set x (a ∷ s) (suc p) v h = omega (arith, count_set x s p v (omega arith))

-- the pages from 1 on that have no mark
unfoldable pub room : Seen → ℕ
room [] = 0
room (a ∷ s) = count 0 s

room-set : (s : Seen) (p : ℕ) → 0 < p → p < length s → get_or s p 0 ≡ 0 → room (set s p 1) + 1 ≡ room s
unfolding room
room-set [] p a b c = absurd (omega arith)
room-set (x ∷ s) zero a b c = absurd (omega arith)
room-set (x ∷ s) (suc p) a b c = omega (arith, count_set 0 s p 1 (omega arith), hit_eq 0 (get_or s p 0) (sym c), hit_other 0 1 (omega arith))

room-marks : (s : Seen) (ps : List ℕ) (t : Seen) → marks s ps ≡ some t → room t + length ps ≡ room s
unfolding each
room-marks s [] t e = let q : s ≡ t = cc in omega (arith, ap room q)
room-marks s (q ∷ ps) t e =
    let (u, m, r) = and_then-is (mark s q) (λ v. marks v ps) t e in
    let w = mark_was s q u m in
    omega (arith, room-marks u ps t r, ap room w.3, room-set s q w.0 w.1 w.2)

all-zero : (k : ℕ) → count 0 (clear k) ≡ k
unfolding count
all-zero zero = refl
all-zero (suc k) = omega (arith, all-zero k, hit_same 0)

room-clear : (n : ℕ) → 0 < n → suc (room (clear n)) ≡ n
unfolding room
room-clear zero h = absurd (omega arith)
room-clear (suc n) h = omega (arith, all-zero n)

-- ---- the partitions looked at

unfoldable pub go_on : Option Seen → (Seen → ℕ) → ℕ
go_on none g = 0
go_on (some t) g = g t

unfoldable pub looks_each : (Seen → ℕ → Option Seen) → (Seen → ℕ → ℕ) → Seen → List ℕ → ℕ
looks_each f v s [] = 0
looks_each f v s (x ∷ l) = v s x + go_on (f s x) (λ t. looks_each f v t l)

module _ (f : Seen → ℕ → Option Seen) (v : Seen → ℕ → ℕ) (pass : (s : Seen) (x : ℕ) (t : Seen) → f s x ≡ some t → v s x + room t ≤ room s) where
  each-most : ((s : Seen) (x : ℕ) → v s x ≤ suc (room s)) → (l : List ℕ) (s : Seen) → looks_each f v s l ≤ suc (room s)
  unfolding looks_each go_on
  each-most most [] s = omega arith
  each-most most (x ∷ l) s = go (each-most most l) (f s x) refl
    where
      go : ((t : Seen) → looks_each f v t l ≤ suc (room t)) → (o : Option Seen) → f s x ≡ o → v s x + go_on o (λ t. looks_each f v t l) ≤ suc (room s)
      go h none e = omega (arith, most s x)
      go h (some t) e = omega (arith, pass s x t e, h t)

  each-pass : (l : List ℕ) (s t : Seen) → each f s l ≡ some t → looks_each f v s l + room t ≤ room s
  unfolding each looks_each go_on
  each-pass [] s t e = let q : s ≡ t = cc in omega (arith, ap room q)
  each-pass (x ∷ l) s t e =
      let (u, a, b) = and_then-is (f s x) (λ w. each f w l) t e in
      rw a (omega (arith, pass s x u a, each-pass l u t b))

module _ (kids own : ℕ → List ℕ) (ok : ℕ → Bool) where
  unfoldable pub looks : ℕ → Seen → ℕ → ℕ
  looks zero s d = 1
  looks (suc k) s d = suc (elim (ok d) [ true ↦ go_on (marks s (own d)) (λ t. looks_each (child kids own ok k) (looks k) t (kids d)) | false ↦ 0 ])

  module _ (some-page : (d : ℕ) → 0 < length (own d)) where
    looks-pass : (k : ℕ) (s : Seen) (d : ℕ) (t : Seen) → child kids own ok k s d ≡ some t → looks k s d + room t ≤ room s
    unfolding looks child go_on
    looks-pass zero s d t e = let z : ◌≡◌ {A = ℕ} 0 1 = cc in absurd (omega arith)
    looks-pass (suc k) s d t e =
        let (o, (u, m, r)) = one-is kids own ok (child kids own ok k) s d t e in
        rw (o, m) (omega (arith, room-marks s (own d) u m, some-page d, each-pass (child kids own ok k) (looks k) (looks-pass k) (kids d) u t r))

    looks-most : (k : ℕ) (s : Seen) (d : ℕ) → looks k s d ≤ suc (room s)
    unfolding looks go_on
    looks-most zero s d = omega arith
    looks-most (suc k) s d = test (looks-most k) (ok d) (marks s (own d)) refl
      where
        test : ((t : Seen) (x : ℕ) → looks k t x ≤ suc (room t)) → (b : Bool) (o : Option Seen) → marks s (own d) ≡ o → suc (elim b [ true ↦ go_on o (λ t. looks_each (child kids own ok k) (looks k) t (kids d)) | false ↦ 0 ]) ≤ suc (room s)
        test h false o e = omega arith
        test h true none e = omega arith
        test h true (some t) e = omega (arith, room-marks s (own d) t e, some-page d, each-most (child kids own ok k) (looks k) (looks-pass k) h (kids d) t)

    pub looks-bound : (k n r : ℕ) → 0 < n → looks k (clear n) r ≤ n
    looks-bound k n r h = omega (arith, looks-most k (clear n) r, room-clear n h)
