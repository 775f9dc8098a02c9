-- Constructors told apart, and what two equal ones are made of. Assumes nothing.
use mathlib.Core.Path.{◌≡◌}
use mathlib.Core.List.{List, ◌∷◌}
use Prim.Native.Nat.{ℕ, ◌≤◌}
use native.Mathlib.Omega.{arith}
use Rattle.rules.proofs.model.Abs.{Kind, pt, s1, s2, Role, header, hand, blank, desc, root, lst, tab, own_word}

pub pt-s1 : {P : Type 0} → pt ≡ s1 → P
pt-s1 e = let z : ◌≡◌ {A = ℕ} 0 1 = cc in absurd (omega arith)

pub pt-s2 : {P : Type 0} → pt ≡ s2 → P
pt-s2 e = let z : ◌≡◌ {A = ℕ} 0 1 = cc in absurd (omega arith)

pub s1-s2 : {P : Type 0} → s1 ≡ s2 → P
s1-s2 e = let z : ◌≡◌ {A = ℕ} 0 1 = cc in absurd (omega arith)

pub cons_head : {x y : ℕ} {xs ys : List ℕ} → x ∷ xs ≡ y ∷ ys → x ≡ y
cons_head e = cc

pub root-part : {k k' : Kind} {d e : ℕ} → root k d ≡ root k' e → d ≡ e
root-part e = cc

pub lst-part : {d e : ℕ} → lst d ≡ lst e → d ≡ e
lst-part e = cc

pub tab-part : {k k' : Kind} {d d' j j' : ℕ} → tab k d j ≡ tab k' d' j' → d ≡ d'
tab-part e = cc

pub tab-kind : {k k' : Kind} {d d' j j' : ℕ} → tab k d j ≡ tab k' d' j' → k ≡ k'
tab-kind e = cc

-- the shadow 1 word of a page that is not lent
pub own-small : (r : Role) → own_word r ≤ 1
own-small header = omega arith
own-small hand = omega arith
own-small blank = omega arith
own-small desc = omega arith
own-small (root k d) = omega arith
own-small (lst d) = omega arith
own-small (tab k d j) = omega arith
