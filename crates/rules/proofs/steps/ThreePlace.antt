-- The place of a three in its list, as collect finds it, and the list without that three.
use mathlib.Core.Path.{◌≡◌, refl, sym, ap, ◌∙◌}
use mathlib.Core.Logic.{◌≢◌}
use mathlib.Core.Bool.{Bool, cond}
use mathlib.Core.Option.{some}
use mathlib.Core.List.{List, [], ◌∷◌, ◌++◌}
use Prim.Native.Nat.{ℕ, suc, ◌+◌, ◌*◌, ◌≤◌, ◌<◌}
use native.Mathlib.Omega.{arith}
use borrow.Author.Tests.{eq-eqb, ne_eqb}
use lib.ListN.{length, get_or}
use lib.Seq.{get_or-append-add}
use Rattle.rules.specs.Effects.{place_of}
use Rattle.rules.proofs.model.Base.{eqd}
use Rattle.rules.proofs.model.Words.{addr, word, addr_inj}
use Rattle.rules.proofs.model.Abs.{Kind, pt, Role, tab, Hop, Three, three_at, Tabs, list_pairs}
use Rattle.rules.proofs.model.Facts.{none-some, some_inj}
use Rattle.rules.proofs.model.Read.{ThreeIs, three-is}
use Rattle.rules.proofs.steps.Prep.{at_here, at_on, at_nil}
use Rattle.rules.proofs.steps.Collect.{without, without-here, without_on}

-- no page table of ts is page q
abbrev pub Apart : ℕ → List Three → Type 0
Apart q [] = Unit {0}
Apart q (x ∷ xs) = (x.page pt ≢ q) × Apart q xs

-- ts taken apart at the three t of index i
pub record Split (i : ℕ) (ts : List Three) (t : Three) : Type 0 where
  pub before : List Three
  pub after : List Three
  pub is : ts ≡ before ++ t ∷ after
  pub apart : Apart (t.page pt) before
  pub rest : without i ts ≡ before ++ after

tab-at : {k k' : Kind} {d d' j j' : ℕ} → tab k d j ≡ tab k' d' j' → j ≡ j'
tab-at e = cc

module _ {b : ℕ} (wide : 6 ≤ b) where
  pub split : (role : ℕ → Role) (d i : ℕ) (ts : List Three) (t : Three) → Tabs b role d ts → three_at i ts ≡ some t → Split i ts t
  split role d i [] t g e = none-some (sym (at_nil i) ∙ e)
  split role d i (x ∷ xs) t g e = go (eqd i x.at) (split role d i xs t g.1)
    where
      go : Dec (i ≡ x.at) → (three_at i xs ≡ some t → Split i xs t) → Split i (x ∷ xs) t
      go (yes y) ih =
          let f : x ≡ t = some_inj (sym (at_here i x xs y) ∙ e) in
          record { before = []; after = xs; is = ap (λ (z : Three). z ∷ xs) f; apart = tt; rest = without-here i x xs y }
      go (no n) ih =
          let f : three_at i xs ≡ some t = sym (at_on i x xs n) ∙ e in
          let r : Split i xs t = ih f in
          let s : ThreeIs b role d i t = three-is wide role d i xs t g.1 f in
          record {
            before = x ∷ r.before;
            after = r.after;
            is = ap (λ (z : List Three). x ∷ z) r.is;
            apart = ((λ y. n (sym (tab-at (sym (g.0.pages pt) ∙ ap role y ∙ s.pages pt)))), r.apart);
            rest = without_on i x xs n ∙ ap (λ (z : List Three). x ∷ z) r.rest;
          }

module _ (b : ℕ) (ch : ℕ → List Hop) where
  -- the words of page l from word 1 + 6j on are those of ts
  abbrev pub Shown : List ℕ → ℕ → ℕ → List Three → Type 0
  Shown m l j ts = (y : ℕ) → y < 6 * length ts → word b m l (1 + 6 * j + y) ≡ get_or (list_pairs b ch ts) y 0

  shown-on : (m : List ℕ) (l j : ℕ) (t : Three) (ts : List Three) → Shown m l j (t ∷ ts) → Shown m l (suc j) ts
  unfolding list_pairs
  shown-on m l j t ts h y β =
      let e : 1 + 6 * suc j + y ≡ 1 + 6 * j + suc (suc (suc (suc (suc (suc y))))) = omega arith in
      ap (word b m l) e ∙ h (suc (suc (suc (suc (suc (suc y)))))) (omega arith)

  shown-table : (m : List ℕ) (l j : ℕ) (t : Three) (ts : List Three) → Shown m l j (t ∷ ts) → word b m l (2 + 6 * j) ≡ addr b (t.page pt)
  unfolding list_pairs
  shown-table m l j t ts h =
      let e : 2 + 6 * j ≡ 1 + 6 * j + 1 = omega arith in
      ap (word b m l) e ∙ h 1 (omega arith)

module _ {b : ℕ} (wide : 6 ≤ b) where
  pub place_is : (ch : ℕ → List Hop) (m : List ℕ) (l j : ℕ) (xs : List Three) (t : Three) (ys : List Three) → Apart (t.page pt) xs
      → Shown b ch m l j (xs ++ t ∷ ys) → place_of b (length (xs ++ t ∷ ys)) j m l (addr b (t.page pt)) ≡ j + length xs
  unfolding place_of word
  place_is ch m l j [] t ys a h =
      ap (λ (z : Bool). cond z j (place_of b (length ys) (suc j) m l (addr b (t.page pt)))) (eq-eqb (word b m l (2 + 6 * j)) (addr b (t.page pt)) (shown-table b ch m l j t ys h)) ∙ omega arith
  place_is ch m l j (x ∷ xs) t ys a h =
      let w : word b m l (2 + 6 * j) ≢ addr b (t.page pt) = λ e. a.0 (addr_inj wide (x.page pt) (t.page pt) (sym (shown-table b ch m l j x (xs ++ t ∷ ys) h) ∙ e)) in
      let r = place_is ch m l (suc j) xs t ys a.1 (shown-on b ch m l j x (xs ++ t ∷ ys) h) in
      ap (λ (z : Bool). cond z j (place_of b (length (xs ++ t ∷ ys)) (suc j) m l (addr b (t.page pt)))) (ne_eqb (word b m l (2 + 6 * j)) (addr b (t.page pt)) w) ∙ r ∙ omega arith

  pub pairs-length : (ch : ℕ → List Hop) (ts : List Three) → length (list_pairs b ch ts) ≡ 6 * length ts
  unfolding list_pairs
  pairs-length ch [] = refl
  pairs-length ch (t ∷ ts) = let e = pairs-length ch ts in omega arith

  pub pairs_append : (ch : ℕ → List Hop) (xs ys : List Three) → list_pairs b ch (xs ++ ys) ≡ list_pairs b ch xs ++ list_pairs b ch ys
  unfolding list_pairs
  pairs_append ch [] ys = refl
  pairs_append ch (x ∷ xs) ys = rw (pairs_append ch xs ys) refl

  -- word y of the six of a three
  pub six-at : (ch : ℕ → List Hop) (xs : List Three) (t : Three) (ys : List Three) (y : ℕ)
      → get_or (list_pairs b ch (xs ++ t ∷ ys)) (6 * length xs + y) 0 ≡ get_or (list_pairs b ch (t ∷ ys)) y 0
  six-at ch xs t ys y =
      let e : 6 * length xs + y ≡ length (list_pairs b ch xs) + y = omega (arith, pairs-length ch xs) in
      ap (λ (z : List ℕ). get_or z (6 * length xs + y) 0) (pairs_append ch xs (t ∷ ys))
      ∙ ap (λ (z : ℕ). get_or (list_pairs b ch xs ++ list_pairs b ch (t ∷ ys)) z 0) e
      ∙ get_or-append-add (list_pairs b ch xs) (list_pairs b ch (t ∷ ys)) y 0
