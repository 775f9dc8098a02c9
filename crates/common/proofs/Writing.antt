-- Numbers written one after the other. Assumes nothing.
use mathlib.Core.Path.{◌≡◌, refl, sym, ap, ◌∙◌}
use mathlib.Core.List.{List, [], ◌∷◌, ◌++◌}
use Prim.Native.Nat.{ℕ, zero, suc, ◌+◌, ◌<◌, ◌≤◌}
use native.Mathlib.Nat.{add-zero, add-suc}
use native.Mathlib.Numerals.{add-one}
use native.Mathlib.Omega.{arith}
use lib.ListN.{length, get_or, set, drop, length-set, drop_of_length-le}
use Rattle.common.specs.Words.{overwrite}
use Rattle.common.proofs.Overwrite.{length-overwrite, overwrite-one}

pub overwrite-none : (out : List ℕ) (p : ℕ) → overwrite out p [] ≡ out
overwrite-none [] p = refl
overwrite-none (x ∷ xs) zero = refl
overwrite-none (x ∷ xs) (suc p) = ap (λ (l : List ℕ). x ∷ l) (overwrite-none xs p)

overwrite-next : (out : List ℕ) (p w : ℕ) (ws : List ℕ) → overwrite out p (w ∷ ws) ≡ overwrite (set out p w) (suc p) ws
overwrite-next [] p w ws = refl
overwrite-next (x ∷ xs) zero w ws = refl
overwrite-next (x ∷ xs) (suc p) w ws = ap (λ (l : List ℕ). x ∷ l) (overwrite-next xs p w ws)

overwrite-more : (out : List ℕ) (p w : ℕ) (ws : List ℕ) → overwrite out p (w ∷ ws) ≡ overwrite (set out p w) (p + 1) ws
overwrite-more out p w ws = rw add-one (overwrite-next out p w ws)

overwrite_append : (out : List ℕ) (p : ℕ) (vs ws : List ℕ) → overwrite out p (vs ++ ws) ≡ overwrite (overwrite out p vs) (p + length vs) ws
overwrite_append out p [] ws = rw add-zero (sym (ap (λ (l : List ℕ). overwrite l p ws) (overwrite-none out p)))
overwrite_append out p (v ∷ vs) ws =
    let s : suc p + length vs ≡ p + suc (length vs) = omega arith in
    overwrite-next out p v (vs ++ ws) ∙ overwrite_append (set out p v) (suc p) vs ws
    ∙ ap (λ (k : ℕ). overwrite (overwrite (set out p v) (suc p) vs) k ws) s
    ∙ ap (λ (l : List ℕ). overwrite l (p + suc (length vs)) ws) (sym (overwrite-next out p v vs))

-- two lists, one behind the other
pub overwrite-both : (out : List ℕ) (p : ℕ) (vs ws : List ℕ) {q : ℕ} {out' : List ℕ} → q ≡ p + length vs → out' ≡ overwrite out p vs
    → overwrite out' q ws ≡ overwrite out p (vs ++ ws)
overwrite-both out p vs ws e f = rw (e, f) (sym (overwrite_append out p vs ws))

-- ---- a reply: number y at place p, written as x, and the words ys behind it

none : (xs : List ℕ) → length xs ≡ 0 → xs ≡ []
none [] e = refl
none (x ∷ xs) e = absurd (omega (arith, e))

module _ (out : List ℕ) (p : ℕ) where
  module _ {x y : ℕ} (e : x ≡ y) (ys : List ℕ) where
    pub reply-alone : length ys ≡ 0 → set out p x ≡ overwrite out p (y ∷ ys)
    reply-alone z = rw (e, none ys z) (sym (overwrite-one out p y))

    pub reply-beside : {words out' : List ℕ} → words ≡ ys → out' ≡ overwrite (set out p x) (p + 1) words → out' ≡ overwrite out p (y ∷ ys)
    reply-beside f o = o ∙ rw (e, f) (sym (overwrite-more out p y ys))

  -- no place is added
  pub reply-length : (x : ℕ) (words : List ℕ) {out' : List ℕ} → out' ≡ overwrite (set out p x) (p + 1) words → length out' ≡ length out
  reply-length x words e = ap length e ∙ length-overwrite (set out p x) (p + 1) words ∙ length-set out p x

-- ---- a loop that writes the words ws from place p on: k are written

drop_more : (k : ℕ) (ws : List ℕ) → k < length ws → drop k ws ≡ get_or ws k 0 ∷ drop (suc k) ws
drop_more k [] h = absurd (omega arith)
drop_more zero (w ∷ ws) h = refl
drop_more (suc k) (w ∷ ws) h = drop_more k ws (omega arith)

pub words-none : (out ws : List ℕ) (p : ℕ) → overwrite out (p + 0) (drop 0 ws) ≡ overwrite out p ws
words-none out ws p = ap (λ (i : ℕ). overwrite out i ws) (add-zero p)

pub words_more : (out ws : List ℕ) (p k : ℕ) {x : ℕ} → k < length ws → x ≡ get_or ws k 0
    → overwrite (set out (p + k) x) (p + (k + 1)) (drop (k + 1) ws) ≡ overwrite out (p + k) (drop k ws)
words_more out ws p k h e =
    let d = ap (λ (l : List ℕ). overwrite out (p + k) l) (drop_more k ws h) in
    rw (e, add-one, add-suc) (sym (d ∙ overwrite-next out (p + k) (get_or ws k 0) (drop (suc k) ws)))

pub words-all : (out ws : List ℕ) (p k : ℕ) → length ws ≤ k → overwrite out (p + k) (drop k ws) ≡ out
words-all out ws p k h = ap (λ (l : List ℕ). overwrite out (p + k) l) (drop_of_length-le ws h) ∙ overwrite-none out (p + k)
