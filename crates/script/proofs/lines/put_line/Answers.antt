-- `script::lines::put_line` meets its contract. The four parts of the line stand one behind the other. Assumes nothing.
use denote.Ref.{Bor}
use mathlib.Core.Path.{◌≡◌, refl, sym, ap, ◌∙◌}
use mathlib.Core.List.{List, [], ◌∷◌, ◌++◌}
use Prim.Native.Nat.{ℕ}
use lib.ListN.{length}
use native.Mathlib.Omega.{arith}
use Rattle.rules.specs.Replay.{decimal, line}
use Rattle.std.specs.Prelude.{Result}
use Rattle.common.specs.Packed.{said}
use Rattle.script.proofs.Puts.{put_then, put_same}
use Rattle.script.proofs.Lengths.{line-most}
use Rattle.script.proofs.Decimals.{decimal-most}
use Rattle.script.proofs.lines.put_line.Goals as goal
use Rattle.script.proofs.lines.put_line.Goals.{in-Ok, in-Err}

-- " ok " and a word, or " no " and a number
abbrev Told : Type 0
Told = Bor (List ℕ) × ℕ

four : (p q : Told) → p ≡ q → length q.0.now ≡ 4 → length p.0.now ≡ 4
four p q e h = ap (λ (t : Told). length t.0.now) e ∙ h

told : (k : ℕ) (p q : Told) → p ≡ q → decimal k ++ p.0.now ++ decimal p.1 ++ (10 ∷ []) ≡ decimal k ++ q.0.now ++ decimal q.1 ++ (10 ∷ [])
told k p q e = ap (λ (t : Told). decimal k ++ t.0.now ++ decimal t.1 ++ (10 ∷ [])) e

pub put_decimal-p-requires : goal.put_decimal-p-requires
put_decimal-p-requires c = omega (arith, decimal-most c.args.k)

pub put-q-requires : goal.put-q-requires
put-q-requires c =
    let h : length c.match-a.x.0.now ≡ 4 = elim c.match-a.branch [ in-Ok w ↦ four _ _ w.x-is refl | in-Err w ↦ four _ _ w.x-is refl ] in
    omega (arith, decimal-most c.args.k)

pub put_decimal-r-requires : goal.put_decimal-r-requires
put_decimal-r-requires c =
    let h : length c.match-a.x.0.now ≡ 4 = elim c.match-a.branch [ in-Ok w ↦ four _ _ w.x-is refl | in-Err w ↦ four _ _ w.x-is refl ] in
    omega (arith, decimal-most c.args.k, decimal-most c.match-a.x.1)

pub put-requires : goal.put-requires
put-requires c =
    let h : length c.match-a.x.0.now ≡ 4 = elim c.match-a.branch [ in-Ok w ↦ four _ _ w.x-is refl | in-Err w ↦ four _ _ w.x-is refl ] in
    omega (arith, decimal-most c.args.k, decimal-most c.match-a.x.1)

pub returns : goal.returns
unfolding line
returns c =
    let s = c.args in
    let e : decimal s.k ++ c.match-a.x.0.now ++ decimal c.match-a.x.1 ++ (10 ∷ []) ≡ line s.k (said (λ n. n) s.a) = elim c.match-a.branch [
      | in-Ok w ↦ told s.k _ _ w.x-is ∙ ap (λ (a : Result ℕ ℕ). line s.k (said (λ n. n) a)) (sym w.in-Ok.is)
      | in-Err w ↦ told s.k _ _ w.x-is ∙ ap (λ (a : Result ℕ ℕ). line s.k (said (λ n. n) a)) (sym w.in-Err.is)
    ] in
    let p = put_same e (put_then (put_then (put_then c.put_decimal-p.ensures c.put-q.ensures) c.put_decimal-r.ensures) c.put.ensures) in
    (p, omega (arith, p.next, line-most s.k (said (λ n. n) s.a)))
