-- The revision is the part of the caller's bytes that starts at byte 12 and has its length: 64, or 0 exactly where the record is refused. Assumes nothing.
use mathlib.Core.Path.{◌≡◌, refl, ap}
use mathlib.Core.Bool.{Bool, true, false, cond}
use mathlib.Core.List.{List, [], ◌∷◌}
use Prim.Native.Nat.{ℕ, zero, suc}
use native.Mathlib.Omega.{arith}
use lib.Dec.{eqb}
use lib.ListN.{length, take, drop, length-take, length-drop}
use borrow.Author.Tests.{eqb-true}
use Rattle.rules.specs.Record.{reader_refusal, revision_of}
use Rattle.record.proofs.Readings.{passed-long}

take-length : (n : ℕ) (xs : List ℕ) → take n xs ≡ take (length (take n xs)) xs
take-length zero xs = refl
take-length (suc n) [] = refl
take-length (suc n) (x ∷ xs) = ap (λ (l : List ℕ). x ∷ l) (take-length n xs)

module _ (bs : List ℕ) where
  pub revision_part : {n : ℕ} → n ≡ length (revision_of bs) → revision_of bs ≡ take n (drop 12 bs)
  unfolding revision_of
  revision_part e = rw e (part (eqb (reader_refusal bs) 0))
    where
      part : (t : Bool) → cond t (take 64 (drop 12 bs)) [] ≡ take (length (cond t (take 64 (drop 12 bs)) [])) (drop 12 bs)
      part true = take-length 64 (drop 12 bs)
      part false = refl

  pub revision-length : length (revision_of bs) ≡ cond (eqb (reader_refusal bs) 0) 64 0
  unfolding revision_of
  revision-length = pick (eqb (reader_refusal bs) 0) refl
    where
      pick : (t : Bool) → eqb (reader_refusal bs) 0 ≡ t → length (cond t (take 64 (drop 12 bs)) []) ≡ cond t 64 0
      pick true e = let h = passed-long bs (eqb-true (reader_refusal bs) 0 e) in simp (length-take, length-drop) (omega arith)
      pick false e = refl
