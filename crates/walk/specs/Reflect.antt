-- A test and the statement that it decides: `Tells t P`. A test that is put together from tests tells what is put together from their statements,
-- so that one term proves both directions. Assumes nothing.
use Rattle.std.specs.Prelude.{◌≡◌, refl, Bool, true, false, cond, not, ◌&&◌, ◌||◌, ◌↔◌, ◌⊎◌, ℕ, ◌≤◌, ◌<◌, leb, ltb, eqb}
use Rattle.std.proofs.Common.{ap, ◌∙◌, inl, inr, eqb-true, eq-eqb, leb-true, le-leb, ltb-true, lt-ltb}
use Rattle.std.proofs.lemmas.Bool.{false≢true}

abbrev pub Tells : Bool → Type 0 → Type 0
Tells t P = (t ≡ true) ↔ P

-- the same under another name
pub via : {t : Bool} {P Q : Type 0} → Tells t P → (P → Q) → (Q → P) → Tells t Q
via h f g = ((λ e. f (h.0 e)), λ q. h.1 (g q))

pub eq? : {x y : ℕ} → Tells (eqb x y) (x ≡ y)
eq? {x} {y} = (eqb-true x y, eq-eqb x y)

pub le? : {x y : ℕ} → Tells (leb x y) (x ≤ y)
le? {x} {y} = (leb-true x y, le-leb x y)

pub lt? : {x y : ℕ} → Tells (ltb x y) (x < y)
lt? {x} {y} = (ltb-true x y, lt-ltb x y)

pub both : {s t : Bool} {P Q : Type 0} → Tells s P → Tells t Q → Tells (s && t) (P × Q)
both {s} {t} {P} {Q} p q = (there s p, back)
  where
    there : (u : Bool) → Tells u P → u && t ≡ true → P × Q
    there true h e = (h.0 refl, q.0 e)
    there false h e = absurd (false≢true e)

    back : P × Q → s && t ≡ true
    back (x, y) = ap (λ (u : Bool). u && t) (p.1 x) ∙ q.1 y

pub either : {s t : Bool} {P Q : Type 0} → Tells s P → Tells t Q → Tells (s || t) (P ⊎ Q)
either {s} {t} {P} {Q} p q = (there s p, back s p)
  where
    there : (u : Bool) → Tells u P → u || t ≡ true → P ⊎ Q
    there true h e = inl (h.0 refl)
    there false h e = inr (q.0 e)

    back : (u : Bool) → Tells u P → P ⊎ Q → u || t ≡ true
    back true h x = refl
    back false h (inl x) = absurd (false≢true (h.1 x))
    back false h (inr y) = q.1 y

pub isn't : {t : Bool} {P : Type 0} → Tells t P → Tells (not t) (¬ P)
isn't {t} {P} p = (there t p, back t p)
  where
    there : (u : Bool) → Tells u P → not u ≡ true → ¬ P
    there true h e x = false≢true e
    there false h e x = false≢true (h.1 x)

    back : (u : Bool) → Tells u P → ¬ P → not u ≡ true
    back true h n = absurd (n (h.0 refl))
    back false h n = refl

-- `s || t`: where the first fails the second holds
pub unless : {s t : Bool} {P Q : Type 0} → Tells s P → Tells t Q → Tells (s || t) (¬ P → Q)
unless {s} {t} {P} {Q} p q = (there s p, back s p)
  where
    there : (u : Bool) → Tells u P → u || t ≡ true → ¬ P → Q
    there true h e n = absurd (n (h.0 refl))
    there false h e n = q.0 e

    back : (u : Bool) → Tells u P → (¬ P → Q) → u || t ≡ true
    back true h f = refl
    back false h f = q.1 (f (λ x. false≢true (h.1 x)))

-- `not s || t`: where the first holds so does the second
pub given : {s t : Bool} {P Q : Type 0} → Tells s P → Tells t Q → Tells (not s || t) (P → Q)
given {s} {t} {P} {Q} p q = (there s p, back s p)
  where
    there : (u : Bool) → Tells u P → not u || t ≡ true → P → Q
    there true h e x = q.0 e
    there false h e x = absurd (false≢true (h.1 x))

    back : (u : Bool) → Tells u P → (P → Q) → not u || t ≡ true
    back true h f = q.1 (f (h.0 refl))
    back false h f = refl

pub choose : {s t u : Bool} {P Q R : Type 0} → Tells s P → Tells t Q → Tells u R → Tells (cond s t u) ((P → Q) × (¬ P → R))
choose {s} {t} {u} {P} {Q} {R} p q r = (there s p, back s p)
  where
    there : (w : Bool) → Tells w P → cond w t u ≡ true → (P → Q) × (¬ P → R)
    there true h e = ((λ x. q.0 e), λ n. absurd (n (h.0 refl)))
    there false h e = ((λ x. absurd (false≢true (h.1 x))), λ n. r.0 e)

    back : (w : Bool) → Tells w P → (P → Q) × (¬ P → R) → cond w t u ≡ true
    back true h f = q.1 (f.0 (h.0 refl))
    back false h f = r.1 (f.1 (λ x. false≢true (h.1 x)))
