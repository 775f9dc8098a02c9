-- Part of the memory: n words from s on, or as many of them as there are. Assumes nothing.
use mathlib.Core.Path.{◌≡◌, sym, ap, ◌∙◌}
use mathlib.Core.List.{List}
use Prim.Native.Nat.{ℕ, min, ◌+◌, ◌-◌, ◌≤◌}
use native.Mathlib.Omega.{arith}
use native.Mathlib.Decide.{dec_le}
use lib.ListN.{length, take, drop, length-drop, drop_of_length-le}
use lib.Seq.{take_all, take-nil}

pub part-is : (m : List ℕ) (s n : ℕ) {a e : ℕ} → a ≡ min s (length m) → e ≡ min (s + n) (length m) → take (e - a) (drop a m) ≡ take n (drop s m)
part-is m s n {a} {e} p q = pick (dec_le s (length m)) (dec_le (s + n) (length m))
  where
    pick : Dec (s ≤ length m) → Dec (s + n ≤ length m) → take (e - a) (drop a m) ≡ take n (drop s m)
    pick (yes l) (yes t) =
        let z : a ≡ s = omega arith in
        let y : e - a ≡ n = omega arith in
        ap (λ (i : ℕ). take (e - a) (drop i m)) z ∙ ap (λ (k : ℕ). take k (drop s m)) y
    pick (yes l) (no t) =
        let z : a ≡ s = omega arith in
        ap (λ (i : ℕ). take (e - a) (drop i m)) z
        ∙ take_all (e - a) (drop s m) (omega (arith, length-drop s m))
        ∙ sym (take_all n (drop s m) (omega (arith, length-drop s m)))
    pick (no l) t =
        ap (take (e - a)) (drop_of_length-le m {i = a} (omega arith)) ∙ take-nil (e - a) ∙ sym (ap (take n) (drop_of_length-le m {i = s} (omega arith)) ∙ take-nil n)
