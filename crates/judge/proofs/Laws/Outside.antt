-- Marks past those of the pages, all set: a walk goes as it would without them. Assumes nothing.
use mathlib.Core.Path.{◌≡◌, refl, sym, ap, ◌∙◌}
use mathlib.Core.Bool.{Bool, true, false}
use mathlib.Core.List.{List, [], ◌∷◌, ◌++◌}
use mathlib.Core.Logic.{◌≢◌}
use mathlib.Core.Option.{Option, none, some}
use Prim.Native.Nat.{ℕ, zero, suc, ◌+◌, ◌-◌, ◌*◌, ◌≤◌, ◌<◌}
use native.Mathlib.Omega.{arith}
use native.Mathlib.Decide.{ℕ_discrete, dec_lt}
use lib.Dec.{eqb}
use lib.ListN.{length, get_or, take, drop, length-append, length-drop, length-replicate, get_or-replicate, take-append-drop, get_or-append}
use lib.Seq.{get_or-append-add, set-append_left}
use borrow.Author.Tests.{eqb-true, eq-eqb}
use Rattle.walk.specs.Finite.{from, all}
use Rattle.walk.specs.Marks.{Seen, and_then, and_then-is, and_then-assoc, and_then_ext, each, mark, marks, mark-is, mark-zero, mark-out, mark-taken}
use Rattle.walk.specs.Walk as W
use Rattle.own_pages.proofs.Laws.Tests.{same_test}
use Rattle.own_pages.proofs.Laws.Loops.{all-at, all_yes}
use Rattle.tally.specs.Bits.{marks_in, OutsideMarked}
use Rattle.tally.proofs.Laws.Bits.{length-marks, all_marked}

-- r are those marks
module _ (r : List ℕ) (taken : (i : ℕ) → i < length r → get_or r i 0 ≢ 0) where
  abbrev more : Seen → Option Seen
  more s = some (s ++ r)

  mark-more : (s : Seen) (p : ℕ) → mark (s ++ r) p ≡ and_then (mark s p) more
  unfolding and_then
  mark-more s p = elim (ℕ_discrete p 0) [
    | yes e ↦ refused (mark-zero (s ++ r) p e) (mark-zero s p e)
    | no n ↦ elim (dec_lt p (length s)) [
      | yes l ↦ elim (ℕ_discrete (get_or s p 0) 0) [
        | yes e ↦
            mark-is (s ++ r) p (omega arith) (omega (arith, length-append s r)) (get_or-append s r 0 p l ∙ e) ∙ ap some (set-append_left s r p 1 l)
            ∙ sym (ap (λ (o : Option Seen). and_then o more) (mark-is s p (omega arith) l e))
        | no k ↦ refused (mark-taken (s ++ r) p (λ e. k (sym (get_or-append s r 0 p l) ∙ e))) (mark-taken s p k)
      ]
      | no l ↦ elim (dec_lt p (length (s ++ r))) [
        | yes k ↦
            let past = taken (p - length s) (omega (arith, length-append s r)) in
            refused (mark-taken (s ++ r) p (λ e. past (sym (beyond s p (omega arith)) ∙ e))) (mark-out s p (omega arith))
        | no k ↦ refused (mark-out (s ++ r) p (omega arith)) (mark-out s p (omega arith))
      ]
    ]
  ]
    where
      refused : {o u : Option Seen} → o ≡ none → u ≡ none → o ≡ and_then u more
      refused e q = e ∙ sym (ap (λ (v : Option Seen). and_then v more) q)

      beyond : (s : Seen) (p : ℕ) → length s ≤ p → get_or (s ++ r) p 0 ≡ get_or r (p - length s) 0
      beyond s p h = let e : p ≡ length s + (p - length s) = omega arith in ap (λ (i : ℕ). get_or (s ++ r) i 0) e ∙ get_or-append-add s r (p - length s) 0

  then-more : {o : Option Seen} (u : Option Seen) (f : Seen → Option Seen) → o ≡ and_then u more → ((s : Seen) → f (s ++ r) ≡ and_then (f s) more)
      → and_then o f ≡ and_then (and_then u f) more
  unfolding and_then
  then-more u f e step = ap (λ (v : Option Seen). and_then v f) e ∙ and_then-assoc u more f ∙ and_then_ext u _ _ step ∙ sym (and_then-assoc u f more)

  each_more : (f : Seen → ℕ → Option Seen) → ((s : Seen) (x : ℕ) → f (s ++ r) x ≡ and_then (f s x) more) → (s : Seen) (l : List ℕ)
      → each f (s ++ r) l ≡ and_then (each f s l) more
  unfolding each and_then
  each_more f step s [] = refl
  each_more f step s (x ∷ l) = then-more (f s x) (λ t. each f t l) (step s x) (λ t. each_more f step t l)

  module _ (kids own : ℕ → List ℕ) (ok : ℕ → Bool) where
    child-more : (k : ℕ) (s : Seen) (d : ℕ) → W.child kids own ok k (s ++ r) d ≡ and_then (W.child kids own ok k s d) more
    unfolding W.child W.one and_then
    child-more zero s d = refl
    child-more (suc k) s d = go (ok d) refl (child-more k)
      where
        go : (t : Bool) → ok d ≡ t → ((s : Seen) (c : ℕ) → W.child kids own ok k (s ++ r) c ≡ and_then (W.child kids own ok k s c) more)
            → W.child kids own ok (suc k) (s ++ r) d ≡ and_then (W.child kids own ok (suc k) s d) more
        go true e step =
            rw (e, W.one) (then-more (marks s (own d)) (λ t. each (W.child kids own ok k) t (kids d)) (each_more mark mark-more s (own d))
            (λ t. each_more (W.child kids own ok k) step t (kids d)))
        go false e step = rw (e, W.one) refl

-- the walk over the marks of n pages, where that over all marks in ws is known
module _ (n : ℕ) (ws : List ℕ) (h : OutsideMarked n ws) (kids own : ℕ → List ℕ) (ok : ℕ → Bool) (k d : ℕ) where
  abbrev rest : List ℕ
  rest = drop n (marks_in ws)

  rest-one : (i : ℕ) → i < length rest → get_or rest i 0 ≡ 1
  rest-one i l =
      let e = ap length h.1 ∙ length-replicate (32 * length ws - n) 1 in
      ap (λ (t : List ℕ). get_or t i 0) h.1 ∙ get_or-replicate (32 * length ws - n) i 1 0 (omega arith)

  within : W.judge kids own ok k (marks_in ws) d ≡ and_then (W.judge kids own ok k (take n (marks_in ws)) d) (λ s. some (s ++ rest))
  within =
      ap (λ (s : Seen). W.judge kids own ok k s d) (sym (take-append-drop n (marks_in ws)))
      ∙ child-more rest (λ i l e. absurd (omega (arith, rest-one i l))) kids own ok (suc k) (take n (marks_in ws)) d

  pub within-no : W.judge kids own ok k (marks_in ws) d ≡ none → W.judge kids own ok k (take n (marks_in ws)) d ≡ none
  unfolding and_then
  within-no e = go (W.judge kids own ok k (take n (marks_in ws)) d) (sym within ∙ e)
    where
      go : (o : Option Seen) → and_then o (λ s. some (s ++ rest)) ≡ none → o ≡ none
      go none q = refl
      go (some s) q = let z : ◌≡◌ {A = ℕ} 0 1 = cc in absurd (omega arith)

  -- us has the marks that it left, of which s are those of the pages
  module _ (us : List ℕ) (same : length us ≡ length ws) (s : Seen) (e : s ++ rest ≡ marks_in us) where
    long : length s ≡ n
    long = omega (arith, ap length e, length-append s rest, length-drop n (marks_in ws), length-marks us, length-marks ws, h.0)

    inside : (p : ℕ) → p < n → get_or (marks_in us) p 0 ≡ get_or s p 0
    inside p l = ap (λ (t : List ℕ). get_or t p 0) (sym e) ∙ get_or-append s rest 0 p (omega (arith, long))

    outside : (p : ℕ) → n ≤ p → p < 32 * length us → get_or (marks_in us) p 0 ≡ 1
    outside p a l =
        let q : p ≡ length s + (p - n) = omega (arith, long) in
        ap (λ (t : List ℕ). get_or t p 0) (sym e) ∙ ap (λ (i : ℕ). get_or (s ++ rest) i 0) q ∙ get_or-append-add s rest (p - n) 0
        ∙ rest-one (p - n) (omega (arith, length-drop n (marks_in ws), length-marks ws))

    all-within : all (λ p. eqb (get_or s p 0) 1) (from (n - 1) 1) ≡ all_marked us
    all-within =
        same_test (all (λ p. eqb (get_or s p 0) 1) (from (n - 1) 1)) (all_marked us)
        (λ t. all_yes (λ p. eqb (get_or (marks_in us) p 0) 1) (32 * length us - 1) 1 (λ p a l. eq-eqb (get_or (marks_in us) p 0) 1 (elim (dec_lt p n) [
          | yes y ↦ inside p y ∙ eqb-true (get_or s p 0) 1 (all-at (λ i. eqb (get_or s i 0) 1) (n - 1) 1 t p a (omega arith))
          | no y ↦ outside p (omega arith) (omega arith)
        ])))
        (λ t. all_yes (λ p. eqb (get_or s p 0) 1) (n - 1) 1 (λ p a l. eq-eqb (get_or s p 0) 1 (sym (inside p (omega arith))
        ∙ eqb-true (get_or (marks_in us) p 0) 1 (all-at (λ i. eqb (get_or (marks_in us) i 0) 1) (32 * length us - 1) 1 t p a (omega (arith, h.0))))))

  pub within-yes : (us : List ℕ) → length us ≡ length ws → W.judge kids own ok k (marks_in ws) d ≡ some (marks_in us)
      → (s : Seen) × (W.judge kids own ok k (take n (marks_in ws)) d ≡ some s) × (all (λ p. eqb (get_or s p 0) 1) (from (n - 1) 1) ≡ all_marked us)
  within-yes us l e =
      let (s, o, q) = and_then-is (W.judge kids own ok k (take n (marks_in ws)) d) (λ s. some (s ++ rest)) (marks_in us) (sym within ∙ e) in
      let a : s ++ rest ≡ marks_in us = cc in
      (s, o, all-within us l s a)
