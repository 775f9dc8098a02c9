-- What the tests of a row say of the words, where they are false: of a call that is not refused.
use mathlib.Core.Path.{◌≡◌, refl}
use mathlib.Core.Logic.{◌≢◌}
use mathlib.Core.Bool.{Bool, true, false, not, ◌&&◌, ◌||◌, true≢false, false≢true}
use mathlib.Core.List.{List, [], ◌∷◌}
use Prim.Native.Nat.{ℕ, ◌/◌}
use native.Mathlib.Omega.{arith}
use borrow.Author.Tests.{eqb-true, eqb-false, not-false}
use lib.Dec.{eqb}
use lib.Bits.{bit_and, and_step, and_le_r}
use Rattle.walk.specs.Finite.{any}
use Rattle.memory.specs.Entry.{accessible}
use Rattle.memory.specs.Partition.{current, mapping, lent, in_hand}
use Rattle.rules.specs.Conditions.{twice, no_child, lacks, no_three, unmapped, mapped}
use Rattle.rules.proofs.model.Words.{page_of, acc_of, rights_of}
use Rattle.rules.proofs.model.Abs.{pt, s1, Sub}
use Rattle.rules.proofs.model.Read.{root_page, table_at, entry_at}

-- ---- tests that are put together

pub false_or : (s t : Bool) → (s || t) ≡ false → (s ≡ false) × (t ≡ false)
false_or true t e = absurd (true≢false e)
false_or false t e = (refl, e)

pub true-and : (s t : Bool) → (s && t) ≡ true → (s ≡ true) × (t ≡ true)
true-and true t e = (refl, e)
true-and false t e = absurd (false≢true e)

-- a statement on each of a list
abbrev pub Each : (ℕ → Type 0) → List ℕ → Type 0
Each P [] = Unit {0}
Each P (x ∷ xs) = P x × Each P xs

pub none_of : (f : ℕ → Bool) (xs : List ℕ) → any f xs ≡ false → Each (λ x. f x ≡ false) xs
none_of f [] e = tt
none_of f (x ∷ xs) e = let y = false_or (f x) (any f xs) e in (y.0, none_of f xs y.1)

-- none equals a later one
abbrev pub Distinct : List ℕ → Type 0
Distinct [] = Unit {0}
Distinct (x ∷ xs) = Each (λ y. x ≢ y) xs × Distinct xs

pub not-twice : (xs : List ℕ) → twice xs ≡ false → Distinct xs
not-twice [] e = tt
not-twice (x ∷ xs) e = let y = false_or (any (eqb x) xs) (twice xs) e in (go xs (none_of (eqb x) xs y.0), not-twice xs y.1)
  where
    go : (ys : List ℕ) → Each (λ y. eqb x y ≡ false) ys → Each (λ y. x ≢ y) ys
    go [] h = tt
    go (y ∷ ys) h = (eqb-false x y h.0, go ys h.1)

-- ---- the conditions, with virtual pages as numbers

module _ (b : ℕ) (m : List ℕ) where
  pub a-child : (c : ℕ) → no_child b m c ≡ false → entry_at b m s1 (current b m) (page_of b c) ≡ 1
  unfolding entry_at root_page page_of
  a-child c e = eqb-true _ _ (not-false _ e)

  module _ (d v : ℕ) where
    pub in-hand : not (in_hand b m d v) ≡ false → (acc_of (entry_at b m pt d (page_of b v)) ≡ 1) × (entry_at b m s1 d (page_of b v) ≡ 0)
    unfolding entry_at root_page page_of acc_of
    in-hand e =
        let x = true-and (not (eqb (mapping b m d v) 0) && eqb (accessible (mapping b m d v)) 1) (eqb (lent b m d v) 0) (not-false _ e) in
        let y = true-and (not (eqb (mapping b m d v) 0)) (eqb (accessible (mapping b m d v)) 1) x.0 in
        (eqb-true _ _ y.1, eqb-true _ _ x.1)

    pub has-three : no_three b m d v ≡ false → table_at b m pt d (page_of b v) ≢ 0
    unfolding table_at root_page page_of
    has-three e = eqb-false _ _ e

    pub is_mapped : unmapped b m d v ≡ false → entry_at b m pt d (page_of b v) ≢ 0
    unfolding entry_at root_page page_of
    is_mapped e = eqb-false _ _ e

    pub not-mapped : mapped b m d v ≡ false → entry_at b m pt d (page_of b v) ≡ 0
    unfolding entry_at root_page page_of
    not-mapped e = eqb-true _ _ (not-false _ e)

-- ---- rights

-- a number that is left whole by another has each of its bits in it
pub and_sub : (r s : ℕ) → bit_and r s ≡ r → Sub r s
and_sub r s e =
    let x : bit_and (r / 2) (s / 2) ≡ r / 2 = omega (arith, and_step r s) in
    let y : bit_and (r / 2 / 2) (s / 2 / 2) ≡ r / 2 / 2 = omega (arith, and_step (r / 2) (s / 2)) in
    record { read = omega (arith, and_step r s); write = omega (arith, and_step (r / 2) (s / 2)); exec = omega (arith, and_le_r (r / 2 / 2) (s / 2 / 2)) }

module _ (b : ℕ) (m : List ℕ) where
  pub has-rights : (r v : ℕ) → lacks b r m v ≡ false → Sub r (rights_of (entry_at b m pt (current b m) (page_of b v)))
  unfolding entry_at root_page page_of rights_of
  has-rights r v e = and_sub r _ (eqb-true _ _ (not-false _ e))
