-- Bytes put behind bytes. Assumes nothing.
use mathlib.Core.Path.{◌≡◌, refl, ap, ◌∙◌, subst}
use mathlib.Core.List.{List, [], ◌∷◌, ◌++◌}
use Prim.Native.Nat.{ℕ, ◌≤◌}
use native.Mathlib.Omega.{arith}
use lib.ListN.{length, take, length-append}
use Rattle.memory.specs.Words.{overwrite}
use Rattle.common.proofs.Overwrite.{length-overwrite}
use Rattle.record.proofs.Append.{overwrite_append}
use Rattle.script.specs.Lines.{Put}

pub put_then : {m n o : List ℕ} {i j k : ℕ} {xs ys : List ℕ} → Put m n i j xs → Put n o j k ys → Put m o i k (xs ++ ys)
put_then {m} {n} {o} {i} {j} {k} {xs} {ys} p q = record {
  next = omega (arith, p.next, q.next, length-append xs ys);
  bytes = q.bytes ∙ ap (λ (l : List ℕ). overwrite l j ys) p.bytes ∙ overwrite_append m i xs ys j p.next;
}

pub put_same : {m n : List ℕ} {i j : ℕ} {xs ys : List ℕ} → xs ≡ ys → Put m n i j xs → Put m n i j ys
put_same {m} {n} {i} {j} e p = subst (λ (l : List ℕ). Put m n i j l) e p

-- ---- what was put is read back

pub take-over : (m xs : List ℕ) → length xs ≤ length m → take (length xs) (overwrite m 0 xs) ≡ xs
take-over m [] h = refl
take-over [] (x ∷ xs) h = absurd (omega arith)
take-over (y ∷ m) (x ∷ xs) h = ap (λ (l : List ℕ). x ∷ l) (take-over m xs (omega arith))

pub put_front : (m out ws : List ℕ) (r : ℕ) → Put m out 0 r ws → r ≤ length out → take r out ≡ ws
put_front m out ws r p h =
    let same : r ≡ length ws = omega (arith, p.next) in
    let size : length out ≡ length m = ap length p.bytes ∙ length-overwrite m 0 ws in
    ap (λ (k : ℕ). take k out) same ∙ ap (λ (l : List ℕ). take (length ws) l) p.bytes ∙ take-over m ws (omega arith)
