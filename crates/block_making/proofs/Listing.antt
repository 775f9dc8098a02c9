-- A loop over the numbers up to e that lists those at which a test holds: each is put behind those so far. Assumes nothing.
use mathlib.Core.Path.{◌≡◌, refl, sym, ap, ◌∙◌}
use mathlib.Core.List.{List, [], ◌∷◌, ◌++◌, append-nil}
use mathlib.Core.Bool.{Bool, true, false, cond}
use Prim.Native.Nat.{ℕ, zero, suc, ◌+◌, ◌-◌, ◌≤◌, ◌<◌}
use native.Mathlib.Numerals.{add-one}
use native.Mathlib.Omega.{arith}
use lib.ListN.{length, set, take}
use lib.Seq.{append_snoc, take-suc-set}
use Rattle.walk.specs.Finite.{keep}
use Rattle.block_memory.specs.Words.{over}
use Rattle.block_memory.proofs.Loops.{left, over-next}

module _ (f : ℕ → Bool) where
  -- n is put behind the numbers so far if the test holds at it
  abbrev pub behind : List ℕ → ℕ → List ℕ
  behind w n = cond (f n) (w ++ n ∷ []) w

  pub listed : (w xs : List ℕ) → over behind w xs ≡ w ++ keep f xs
  unfolding over keep
  listed w [] = sym (append-nil w)
  listed w (x ∷ xs) = go (f x) (λ v. listed v xs)
    where
      go : (t : Bool) → ((v : List ℕ) → over behind v xs ≡ v ++ keep f xs)
          → over behind (cond t (w ++ x ∷ []) w) xs ≡ w ++ cond t (x ∷ keep f xs) (keep f xs)
      go true ih = ih (w ++ x ∷ []) ∙ append_snoc w x (keep f xs)
      go false ih = ih w

  -- the numbers so far are the first r of out; t was found for the test of n
  module _ (e n : ℕ) (l : n < e) {t : Bool} (read : t ≡ f n) where
    pub list-off : t ≡ false → (w : List ℕ) → over behind w (left e (n + 1)) ≡ over behind w (left e n)
    list-off h w =
        ap (λ (v : List ℕ). over behind v (left e (n + 1))) (sym (ap (λ (b : Bool). cond b (w ++ n ∷ []) w) (sym read ∙ h)))
        ∙ over-next behind e n w l

    pub list_on : t ≡ true → (r : ℕ) (out : List ℕ) → r < length out
        → over behind (take (r + 1) (set out r n)) (left e (n + 1)) ≡ over behind (take r out) (left e n)
    list_on h r out k =
        let w = take r out in
        let more : take (r + 1) (set out r n) ≡ w ++ n ∷ [] = ap (λ (i : ℕ). take i (set out r n)) (add-one r) ∙ take-suc-set out r n k in
        ap (λ (v : List ℕ). over behind v (left e (n + 1))) (more ∙ sym (ap (λ (b : Bool). cond b (w ++ n ∷ []) w) (sym read ∙ h)))
        ∙ over-next behind e n w l

  -- several at once, from i to j
  list_steps : (e j : ℕ) → j ≤ e → (w : List ℕ) (k i : ℕ) → i + k ≡ j → ((x : ℕ) → i ≤ x → x < j → f x ≡ false)
      → over behind w (left e j) ≡ over behind w (left e i)
  list_steps e j top w zero i q h = ap (λ (x : ℕ). over behind w (left e x)) (omega arith)
  list_steps e j top w (suc k) i q h =
      list_steps e j top w k (i + 1) (omega arith) (λ x a b. h x (omega arith) b)
      ∙ list-off e i (omega arith) (sym (h i (omega arith) (omega arith))) refl w

  pub list-skip : (e j : ℕ) → j ≤ e → (w : List ℕ) (i : ℕ) → i ≤ j → ((x : ℕ) → i ≤ x → x < j → f x ≡ false)
      → over behind w (left e j) ≡ over behind w (left e i)
  list-skip e j top w i l h = list_steps e j top w (j - i) i (omega arith) h
