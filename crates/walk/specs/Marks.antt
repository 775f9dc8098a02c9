-- Marking pages one after another in a list of marks, 0 or 1, one for each page; and what a run that passes tells. Assumes nothing.
use Rattle.std.specs.Prelude.{◌≡◌, refl, List, [], ◌∷◌, ◌++◌, Bool, true, false, ◌&&◌, ◌≢◌, ℕ, ◌+◌, ◌≤◌, ◌<◌, eqb, ltb, length, get_or, set}
use Rattle.std.proofs.Common.{sym, ap, ◌∙◌, subst, arith, length-set, get_or-set_same, get_or-set_other, eqb-true, eq-eqb, ne_eqb, ltb-true, lt-ltb, le-ltb}
use Rattle.std.proofs.Math.Option.{Option, none, some}
use Rattle.std.proofs.Math.Decide.{ℕ_discrete, dec_lt}
use Rattle.walk.specs.Lists.{hit, hit_same, hit_eq, hit_other, count, flat}

-- ---- steps that may fail

abbrev pub Seen : Type 0
Seen = List ℕ

unfoldable pub and_then : Option Seen → (Seen → Option Seen) → Option Seen
and_then none f = none
and_then (some s) f = f s

-- a step for each element, on the state that the one before left; the first failure ends it
unfoldable pub each : (Seen → ℕ → Option Seen) → Seen → List ℕ → Option Seen
each f s [] = some s
each f s (x ∷ l) = and_then (f s x) (λ t. each f t l)

pub and_then-is : (o : Option Seen) (f : Seen → Option Seen) (u : Seen) → and_then o f ≡ some u → (t : Seen) × (o ≡ some t) × (f t ≡ some u)
unfolding and_then
and_then-is none f u e = let z : ◌≡◌ {A = ℕ} 0 1 = cc in absurd (omega arith)
and_then-is (some t) f u e = (t, refl, e)

pub and_then_ext : (o : Option Seen) (f g : Seen → Option Seen) → ((t : Seen) → f t ≡ g t) → and_then o f ≡ and_then o g
unfolding and_then
and_then_ext none f g h = refl
and_then_ext (some t) f g h = h t

pub and_then-assoc : (o : Option Seen) (f g : Seen → Option Seen) → and_then (and_then o f) g ≡ and_then o (λ t. and_then (f t) g)
unfolding and_then
and_then-assoc none f g = refl
and_then-assoc (some t) f g = refl

pub each_append : (f : Seen → ℕ → Option Seen) (s : Seen) (l m : List ℕ) → each f s (l ++ m) ≡ and_then (each f s l) (λ t. each f t m)
unfolding each and_then
each_append f s [] m = refl
each_append f s (x ∷ l) m = and_then_ext (f s x) _ _ (λ t. each_append f t l m) ∙ sym (and_then-assoc (f s x) (λ t. each f t l) (λ t. each f t m))

-- what a function that answers by a flag leaves: the marks, where it passed
abbrev pub answer : Bool → Seen → Option Seen
answer true s = some s
answer false s = none

-- ---- marks

unfoldable pub fresh : Seen → ℕ → Bool
fresh s p = ltb 0 p && (ltb p (length s) && eqb (get_or s p 0) 0)

-- page 0, a page outside and a page that has a mark are refused
unfoldable pub mark : Seen → ℕ → Option Seen
mark s p = elim (fresh s p) [ true ↦ some (set s p 1) | false ↦ none ]

abbrev pub marks : Seen → List ℕ → Option Seen
marks s ps = each mark s ps

and_is : (a b : Bool) → a && b ≡ true → (a ≡ true) × (b ≡ true)
and_is true b e = (refl, e)
and_is false b e = let z : ◌≡◌ {A = ℕ} 0 1 = cc in absurd (omega arith)

pub mark-is : (s : Seen) (p : ℕ) → 0 < p → p < length s → get_or s p 0 ≡ 0 → mark s p ≡ some (set s p 1)
unfolding mark fresh
mark-is s p a b c =
    let e : fresh s p ≡ true = rw (lt-ltb 0 p a, lt-ltb p (length s) b, eq-eqb (get_or s p 0) 0 c) in
    rw (e, mark)

mark-not : (s : Seen) (p : ℕ) → fresh s p ≡ false → mark s p ≡ none
unfolding mark
mark-not s p e = rw (e, mark)

pub mark-zero : (s : Seen) (p : ℕ) → p ≡ 0 → mark s p ≡ none
mark-zero s p e = mark-not s p (unfold fresh in (rw (le-ltb 0 p (omega arith)) refl))

and-false : (b : Bool) → b && false ≡ false
and-false true = refl
and-false false = refl

pub mark-out : (s : Seen) (p : ℕ) → length s ≤ p → mark s p ≡ none
mark-out s p h = mark-not s p (unfold fresh in (rw (le-ltb p (length s) h) (and-false (ltb 0 p))))

pub mark-taken : (s : Seen) (p : ℕ) → (get_or s p 0 ≡ 0 → ⊥) → mark s p ≡ none
mark-taken s p h = mark-not s p (unfold fresh in (rw (ne_eqb (get_or s p 0) 0 h, and-false (ltb p (length s))) (and-false (ltb 0 p))))

pub mark_was : (s : Seen) (p : ℕ) (t : Seen) → mark s p ≡ some t → (0 < p) × (p < length s) × (get_or s p 0 ≡ 0) × (t ≡ set s p 1)
unfolding mark fresh
mark_was s p t e = go (fresh s p) refl
  where
    go : (b : Bool) → fresh s p ≡ b → (0 < p) × (p < length s) × (get_or s p 0 ≡ 0) × (t ≡ set s p 1)
    go true f =
        let m : mark s p ≡ some (set s p 1) = rw (f, mark) in
        let a = and_is (ltb 0 p) (ltb p (length s) && eqb (get_or s p 0) 0) f in
        let b = and_is (ltb p (length s)) (eqb (get_or s p 0) 0) a.1 in
        (ltb-true 0 p a.0, ltb-true p (length s) b.0, eqb-true (get_or s p 0) 0 b.1, cc)
    go false f =
        let m : mark s p ≡ none = rw (f, mark) in
        let z : ◌≡◌ {A = ℕ} 0 1 = cc in
        absurd (omega arith)

pub record Marked (s : Seen) (ps : List ℕ) (t : Seen) : Type 0 where
  pub long : length t ≡ length s
  pub inside : (p : ℕ) → 0 < count p ps → (0 < p) × (p < length s)
  pub once : (p : ℕ) → 0 < count p ps → get_or s p 0 + count p ps ≡ 1
  pub after : (p : ℕ) → get_or t p 0 ≡ get_or s p 0 + count p ps

marked_nil : (s : Seen) → Marked s [] s
unfolding count
marked_nil s = record { long = refl; inside = λ p h. absurd (omega arith); once = λ p h. absurd (omega arith); after = λ p. omega arith }

-- one page more in front
marked_cons : (s : Seen) (q : ℕ) (ps : List ℕ) (t : Seen) → 0 < q → q < length s → get_or s q 0 ≡ 0 → Marked (set s q 1) ps t → Marked s (q ∷ ps) t
unfolding count
marked_cons s q ps t a b c m = record {
  long = m.long ∙ length-set s q 1;
  inside = λ p h. elim (ℕ_discrete p q) [ yes e ↦ omega arith | no n ↦ omega (arith, length-set s q 1, m.inside p (omega (arith, hit_other p q n))) ];
  once = λ p h. elim (ℕ_discrete p q) [ yes e ↦ itself p e | no n ↦ omega (arith, other p n, hit_other p q n, m.once p (omega (arith, hit_other p q n))) ];
  after = λ p. elim (ℕ_discrete p q) [ yes e ↦ omega (arith, here p e, was p e, hit_eq p q e, m.after p) | no n ↦ omega (arith, other p n, hit_other p q n, m.after p) ];
}
  where
    here : (p : ℕ) → p ≡ q → get_or (set s q 1) p 0 ≡ 1
    here p e = rw e (get_or-set_same s q 1 0 b)

    was : (p : ℕ) → p ≡ q → get_or s p 0 ≡ 0
    was p e = rw e c

    other : (p : ℕ) → p ≢ q → get_or (set s q 1) p 0 ≡ get_or s p 0
    other p n = get_or-set_other s q p 1 0 n

    itself : (p : ℕ) → p ≡ q → get_or s p 0 + (hit p q + count p ps) ≡ 1
    itself p e = elim (dec_lt 0 (count p ps)) [
      | yes h ↦ absurd (omega (arith, here p e, m.once p h))
      | no n ↦ omega (arith, was p e, hit_eq p q e)
    ]

pub marked : (s : Seen) (ps : List ℕ) (t : Seen) → marks s ps ≡ some t → Marked s ps t
unfolding each
marked s [] t e = let q : s ≡ t = cc in subst (λ (u : Seen). Marked s [] u) q (marked_nil s)
marked s (q ∷ ps) t e =
    let (u, m, r) = and_then-is (mark s q) (λ v. marks v ps) t e in
    let w = mark_was s q u m in
    marked_cons s q ps t w.0 w.1 w.2 (subst (λ (v : Seen). Marked v ps t) w.3 (marked u ps t r))

pub can_mark : (s : Seen) (ps : List ℕ) → ((p : ℕ) → 0 < count p ps → (0 < p) × (p < length s)) → ((p : ℕ) → 0 < count p ps → get_or s p 0 + count p ps ≡ 1) → (t : Seen) × (marks s ps ≡ some t)
unfolding each and_then count
can_mark s [] inside once = (s, refl)
can_mark s (q ∷ ps) inside once =
    let h : 0 < count q (q ∷ ps) = omega (arith, hit_same q) in
    let a = inside q h in
    let c : get_or s q 0 ≡ 0 = omega (arith, once q h, hit_same q) in
    let (t, e) = can_mark (set s q 1) ps (λ p k. omega (arith, inside p (omega arith), length-set s q 1)) rest in
    (t, rw (mark-is s q a.0 a.1 c) e)
  where
    rest : (p : ℕ) → 0 < count p ps → get_or (set s q 1) p 0 + count p ps ≡ 1
    rest p k = elim (ℕ_discrete p q) [
      | yes e ↦ absurd (omega (arith, once p (omega arith), hit_eq p q e))
      | no n ↦ omega (arith, once p (omega arith), hit_other p q n, get_or-set_other s q p 1 0 n)
    ]

-- ---- a step for each, and marks

-- what each passed step tells of its element
pub each_in : (f : Seen → ℕ → Option Seen) (P : ℕ → Type 0) → ((s t : Seen) (x : ℕ) → f s x ≡ some t → P x) → (s : Seen) (l : List ℕ) (u : Seen) → each f s l ≡ some u → (x : ℕ) → 0 < count x l → P x
unfolding each count
each_in f P tells s [] u e x h = absurd (omega arith)
each_in f P tells s (y ∷ l) u e x h =
    let (t, a, b) = and_then-is (f s y) (λ v. each f v l) u e in
    elim (ℕ_discrete x y) [ yes q ↦ subst P (sym q) (tells s t y a) | no n ↦ each_in f P tells t l u b x (omega (arith, hit_other x y n)) ]

pub marks_append : (s : Seen) (l m : List ℕ) → marks s (l ++ m) ≡ and_then (marks s l) (λ t. marks t m)
marks_append s l m = each_append mark s l m

-- where each step marks some pages, all the steps mark all the pages
pub each-marks : (f : Seen → ℕ → Option Seen) (g : ℕ → List ℕ) (l : List ℕ) → ((x : ℕ) → 0 < count x l → (s : Seen) → f s x ≡ marks s (g x)) → (s : Seen) → each f s l ≡ marks s (flat g l)
unfolding each marks flat count
each-marks f g [] h s = refl
each-marks f g (y ∷ l) h s =
    and_then_ext (f s y) _ _ (λ t. each-marks f g l (λ x k. h x (omega arith)) t)
    ∙ ap (λ (o : Option Seen). and_then o (λ t. marks t (flat g l))) (h y (omega (arith, hit_same y)) s)
    ∙ sym (marks_append s (g y) (flat g l))

-- ---- for code that answers by a flag

pub passed : (o : Option Seen) (r : Bool) (t : Seen) → o ≡ answer r t → r ≡ true → o ≡ some t
passed o r t e q = e ∙ ap (λ (b : Bool). answer b t) q

pub failed : (o : Option Seen) (r : Bool) (t : Seen) → o ≡ answer r t → r ≡ false → o ≡ none
failed o r t e q = e ∙ ap (λ (b : Bool). answer b t) q

pub each-go : (f : Seen → ℕ → Option Seen) (s : Seen) (x : ℕ) (l : List ℕ) (t : Seen) → f s x ≡ some t → each f s (x ∷ l) ≡ each f t l
unfolding each and_then
each-go f s x l t e = ap (λ (o : Option Seen). and_then o (λ u. each f u l)) e

pub each-stop : (f : Seen → ℕ → Option Seen) (s : Seen) (x : ℕ) (l : List ℕ) → f s x ≡ none → each f s (x ∷ l) ≡ none
unfolding each and_then
each-stop f s x l e = ap (λ (o : Option Seen). and_then o (λ u. each f u l)) e

pub each-done : (f : Seen → ℕ → Option Seen) (s : Seen) → each f s [] ≡ some s
unfolding each
each-done f s = refl
