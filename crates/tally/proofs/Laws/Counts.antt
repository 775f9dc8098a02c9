-- How many of the k words of a table are v, where those past the end of its part s are 0. Assumes nothing.
use mathlib.Core.Path.{◌≡◌, sym, ap, ◌∙◌}
use mathlib.Core.Logic.{◌≢◌}
use mathlib.Core.List.{List}
use Prim.Native.Nat.{ℕ, zero, suc, ◌+◌, ◌-◌, ◌≤◌, ◌<◌}
use native.Mathlib.Omega.{arith}
use native.Mathlib.Decide.{ℕ_discrete}
use native.Mathlib.Numerals.{add-one}
use lib.Dec.{eqb}
use lib.ListN.{length, get_or, drop, drop_of_length-le, get_or-eq_default}
use lib.Seq.{drop-cons}
use borrow.Author.Tests.{eq-eqb, ne_eqb}
use Rattle.walk.specs.Lists.{hit, hit_eq, hit_other, count, count_nil, count_cons}
use Rattle.walk.specs.Finite.{from}
use Rattle.tally.specs.Run.{run, adding, bit}
use Rattle.tally.proofs.Laws.Run.{run-start, run-next, run-skip, run_end}
use Rattle.tally.proofs.Laws.Blocks.{count_most}

-- ---- past the end

ones : (s : List ℕ) (v : ℕ) → v ≡ 0 → (n i c : ℕ) → length s ≤ i → run (adding (λ j. bit (eqb (get_or s j 0) v))) c (from n i) ≡ c + n
unfolding run from
ones s v e zero i c l = omega arith
ones s v e (suc n) i c l =
    let q : bit (eqb (get_or s i 0) v) ≡ 1 = ap bit (eq-eqb (get_or s i 0) v (get_or-eq_default s 0 l ∙ sym e)) in
    ap (λ (x : ℕ). run (adding (λ j. bit (eqb (get_or s j 0) v))) (c + x) (from n (suc i))) q ∙ ones s v e n (suc i) (c + 1) (omega arith) ∙ omega arith

zeros-past : (s : List ℕ) (k c v : ℕ) → v ≡ 0 → run (adding (λ j. bit (eqb (get_or s j 0) v))) c (from (k - length s) (length s)) ≡ c + (k - length s)
zeros-past s k c v e = ones s v e (k - length s) (length s) c (omega arith)

others-past : (s : List ℕ) (k c v : ℕ) → v ≢ 0 → length s ≤ k → run (adding (λ j. bit (eqb (get_or s j 0) v))) c (from (k - length s) (length s)) ≡ c
others-past s k c v e h =
    run-skip (adding (λ j. bit (eqb (get_or s j 0) v))) k (length s) k c h
    (λ x a l. let q : bit (eqb (get_or s x 0) v) ≡ 0 = ap bit (ne_eqb (get_or s x 0) v (λ z. e (sym z ∙ get_or-eq_default s 0 a))) in omega arith)
    ∙ run_end (adding (λ j. bit (eqb (get_or s j 0) v))) k k c (omega arith)

-- ---- up to the end

bit_is : (x v : ℕ) → bit (eqb x v) ≡ hit v x
bit_is x v = elim (ℕ_discrete v x) [ yes e ↦ ap bit (eq-eqb x v (sym e)) ∙ sym (hit_eq v x e) | no n ↦ ap bit (ne_eqb x v (λ e. n (sym e))) ∙ sym (hit_other v x n) ]

module _ (s : List ℕ) (k v : ℕ) (short : length s ≤ k) where
  abbrev counting : ℕ → ℕ → ℕ
  counting = adding (λ j. bit (eqb (get_or s j 0) v))

  count-drop : (i : ℕ) → i < length s → count v (drop i s) ≡ hit v (get_or s i 0) + count v (drop (i + 1) s)
  count-drop i h = rw (add-one i, drop-cons s i 0 h) (count_cons v (get_or s i 0) (drop (suc i) s))

  count-run : (n i c : ℕ) → i + n ≡ length s → run counting c (from (k - i) i) ≡ run counting (c + count v (drop i s)) (from (k - length s) (length s))
  count-run zero i c e =
      let q : i ≡ length s = omega arith in
      let z : c ≡ c + count v (drop i s) = omega (arith, ap (count v) (drop_of_length-le s {i = i} (omega arith)), count_nil v) in
      ap (λ (j : ℕ). run counting c (from (k - j) j)) q ∙ ap (λ (x : ℕ). run counting x (from (k - length s) (length s))) z
  count-run (suc n) i c e =
      let z : c + bit (eqb (get_or s i 0) v) + count v (drop (i + 1) s) ≡ c + count v (drop i s) = omega (arith, bit_is (get_or s i 0) v, count-drop i (omega arith)) in
      run-next counting k i (omega arith) c ∙ count-run n (i + 1) (c + bit (eqb (get_or s i 0) v)) (omega arith) ∙ ap (λ (x : ℕ). run counting x (from (k - length s) (length s))) z

  whole : run counting 0 (from k 0) ≡ run counting (count v s) (from (k - length s) (length s))
  whole =
      let z : 0 + count v s ≡ count v s = omega arith in
      run-start counting k 0 ∙ count-run (length s) 0 0 (omega arith) ∙ ap (λ (x : ℕ). run counting x (from (k - length s) (length s))) z

  -- c is the count of the words of s, w the words of a page
  module _ {c : ℕ} (few : k ≤ 1024) (e : c ≡ count v s) where
    pub count-zero : {w : ℕ} → v ≡ 0 → w ≡ k → (c + (w - length s) ≡ run counting 0 (from k 0)) × (c + (w - length s) ≤ 1024)
    count-zero {w} z f =
        let q : count v s + (k - length s) ≡ c + (w - length s) = omega arith in
        (sym (whole ∙ zeros-past s k (count v s) v z ∙ q), omega (arith, count_most v s))

    pub count-other : v ≢ 0 → (c ≡ run counting 0 (from k 0)) × (c ≤ 1024)
    count-other n = (sym (whole ∙ others-past s k (count v s) v n short ∙ sym e), omega (arith, count_most v s))
