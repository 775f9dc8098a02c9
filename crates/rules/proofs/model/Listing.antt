-- The pairs of a list page, by place: pair 3j + k is page k of three j.
use mathlib.Core.Path.{◌≡◌, refl, sym, ap, ap₂, ◌∙◌}
use mathlib.Core.Logic.{◌≢◌}
use mathlib.Core.Option.{some}
use mathlib.Core.List.{List, [], ◌∷◌}
use Prim.Native.Nat.{ℕ, zero, suc, ◌+◌, ◌-◌, ◌*◌, ◌/◌, ◌%◌, ◌≤◌, ◌<◌}
use native.Mathlib.Nat.{not-suc-le-zero, le_of_suc-le-suc}
use native.Mathlib.Omega.{arith}
use lib.ListN.{length, get_or}
use Rattle.rules.proofs.model.Base.{eqd}
use Rattle.rules.proofs.model.Words.{addr}
use Rattle.rules.proofs.model.Abs.{Kind, pt, s1, s2, Role, tab, Hop, Three, head_v, three_at, Tabs, list_pairs, list_list}
use Rattle.rules.proofs.model.Facts.{none-some, some_inj}
use Rattle.rules.proofs.model.Read.{ThreeIs, three-is}
use Rattle.rules.proofs.steps.Prep.{at_here, at_on, at_nil}
use Rattle.rules.proofs.model.Format.{kind_at, kind_no, kind-no, kind-lt, kind-back}

-- three j of a list
unfoldable pub three_no : List Three → ℕ → Three
three_no [] j = record { at = 0; page = λ k. 0 }
three_no (t ∷ ts) zero = t
three_no (t ∷ ts) (suc j) = three_no ts j

-- the page of pair j
unfoldable pub page_at : List Three → ℕ → ℕ
page_at ts j = (three_no ts (j / 3)).page (kind_at (j % 3))

pub page-no : (ts : List Three) (j : ℕ) (k : Kind) → page_at ts (3 * j + kind_no k) ≡ (three_no ts j).page k
unfolding page_at
page-no ts j k =
    let l : kind_no k < 3 = kind-lt k in
    let p : (3 * j + kind_no k) / 3 ≡ j = omega arith in
    let q : (3 * j + kind_no k) % 3 ≡ kind_no k = omega arith in
    ap₂ (λ (x y : ℕ). (three_no ts x).page (kind_at y)) p q ∙ ap (three_no ts j).page (kind-back k)

page-later : (t : Three) (ts : List Three) (j : ℕ) → page_at (t ∷ ts) (suc (suc (suc j))) ≡ page_at ts j
unfolding page_at three_no
page-later t ts j =
    let p : suc (suc (suc j)) / 3 ≡ suc (j / 3) = omega arith in
    let q : suc (suc (suc j)) % 3 ≡ j % 3 = omega arith in
    ap₂ (λ (x y : ℕ). (three_no (t ∷ ts) x).page (kind_at y)) p q

page-first : (t : Three) (ts : List Three) → (page_at (t ∷ ts) 0 ≡ t.page pt) × (page_at (t ∷ ts) 1 ≡ t.page s1) × (page_at (t ∷ ts) 2 ≡ t.page s2)
unfolding page_at three_no kind_at
page-first t ts = (refl, refl, refl)

module _ (b : ℕ) (ch : ℕ → List Hop) where
  pair-virtual : (ts : List Three) (j : ℕ) → j < 3 * length ts → get_or (list_pairs b ch ts) (2 * j) 0 ≡ addr b (head_v (ch (page_at ts j)))
  unfolding list_pairs
  pair-virtual [] j l = absurd (not-suc-le-zero l)
  pair-virtual (t ∷ ts) zero l = rw (page-first t ts).0 refl
  pair-virtual (t ∷ ts) (suc zero) l = rw (page-first t ts).1 refl
  pair-virtual (t ∷ ts) (suc (suc zero)) l = rw (page-first t ts).2 refl
  pair-virtual (t ∷ ts) (suc (suc (suc j))) l =
      let e : 2 * suc (suc (suc j)) ≡ suc (suc (suc (suc (suc (suc (2 * j)))))) = omega arith in
      ap (λ (x : ℕ). get_or (list_pairs b ch (t ∷ ts)) x 0) e ∙ pair-virtual ts j (omega arith) ∙ ap (λ (x : ℕ). addr b (head_v (ch x))) (sym (page-later t ts j))

  pair-physical : (ts : List Three) (j : ℕ) → j < 3 * length ts → get_or (list_pairs b ch ts) (suc (2 * j)) 0 ≡ addr b (page_at ts j)
  unfolding list_pairs
  pair-physical [] j l = absurd (not-suc-le-zero l)
  pair-physical (t ∷ ts) zero l = rw (page-first t ts).0 refl
  pair-physical (t ∷ ts) (suc zero) l = rw (page-first t ts).1 refl
  pair-physical (t ∷ ts) (suc (suc zero)) l = rw (page-first t ts).2 refl
  pair-physical (t ∷ ts) (suc (suc (suc j))) l =
      let e : suc (2 * suc (suc (suc j))) ≡ suc (suc (suc (suc (suc (suc (suc (2 * j))))))) = omega arith in
      ap (λ (x : ℕ). get_or (list_pairs b ch (t ∷ ts)) x 0) e ∙ pair-physical ts j (omega arith) ∙ ap (addr b) (sym (page-later t ts j))

  pairs_end : (ts : List Three) (i : ℕ) → 6 * length ts ≤ i → get_or (list_pairs b ch ts) i 0 ≡ 0
  unfolding list_pairs
  pairs_end [] i l = refl
  pairs_end (t ∷ ts) i l =
      let e : i ≡ suc (suc (suc (suc (suc (suc (i - 6)))))) = omega arith in
      ap (λ (x : ℕ). get_or (list_pairs b ch (t ∷ ts)) x 0) e ∙ pairs_end ts (i - 6) (omega arith)

  module _ (ts : List Three) where
    pub list-free : get_or (list_list b ch ts) 0 0 ≡ 1 + 6 * length ts
    unfolding list_list
    list-free = refl

    pub list-virtual : (j : ℕ) → j < 3 * length ts → get_or (list_list b ch ts) (1 + 2 * j) 0 ≡ addr b (head_v (ch (page_at ts j)))
    unfolding list_list
    list-virtual j l =
        let e : 1 + 2 * j ≡ suc (2 * j) = omega arith in
        ap (λ (x : ℕ). get_or (list_list b ch ts) x 0) e ∙ pair-virtual ts j l

    pub list-physical : (j : ℕ) → j < 3 * length ts → get_or (list_list b ch ts) (2 + 2 * j) 0 ≡ addr b (page_at ts j)
    unfolding list_list
    list-physical j l =
        let e : 2 + 2 * j ≡ suc (suc (2 * j)) = omega arith in
        ap (λ (x : ℕ). get_or (list_list b ch ts) x 0) e ∙ pair-physical ts j l

    pub list-rest : (i : ℕ) → 1 + 6 * length ts ≤ i → get_or (list_list b ch ts) i 0 ≡ 0
    unfolding list_list
    list-rest i l =
        let e : i ≡ suc (i - 1) = omega arith in
        ap (λ (x : ℕ). get_or (list_list b ch ts) x 0) e ∙ pairs_end ts (i - 1) (omega arith)

-- the place of the three at an index
pub place_of : (i : ℕ) (ts : List Three) (t : Three) → three_at i ts ≡ some t → (j : ℕ) × (j < length ts) × (three_no ts j ≡ t)
unfolding three_no
place_of i [] t e = none-some (sym (at_nil i) ∙ e)
place_of i (x ∷ xs) t e = go (eqd i x.at) (place_of i xs t)
  where
    go : Dec (i ≡ x.at) → (three_at i xs ≡ some t → (j : ℕ) × (j < length xs) × (three_no xs j ≡ t)) → (j : ℕ) × (j < suc (length xs)) × (three_no (x ∷ xs) j ≡ t)
    go (yes y) ih = (0, omega arith, some_inj (sym (at_here i x xs y) ∙ e))
    go (no n) ih = let r = ih (sym (at_on i x xs n) ∙ e) in (suc r.0, omega (arith, r.1), r.2)

module _ {b : ℕ} (wide : 6 ≤ b) (role : ℕ → Role) (d : ℕ) where
  -- a listed three stands at its index
  pub no_found : (ts : List Three) (j : ℕ) → Tabs b role d ts → j < length ts → three_at (three_no ts j).at ts ≡ some (three_no ts j)
  unfolding three_no
  no_found [] j g l = absurd (not-suc-le-zero l)
  no_found (t ∷ ts) zero g l = at_here t.at t ts refl
  no_found (t ∷ ts) (suc j) g l =
      let r : three_at (three_no ts j).at ts ≡ some (three_no ts j) = no_found ts j g.1 (le_of_suc-le-suc l) in
      let ne : (three_no ts j).at ≢ t.at = λ e. none-some (sym g.0.once ∙ ap (λ (x : ℕ). three_at x ts) (sym e) ∙ r) in
      at_on (three_no ts j).at t ts ne ∙ r

  pub no-three : (ts : List Three) (j : ℕ) → Tabs b role d ts → j < length ts → ThreeIs b role d (three_no ts j).at (three_no ts j)
  no-three ts j g l = three-is wide role d (three_no ts j).at ts (three_no ts j) g (no_found ts j g l)

  pub no_one : (ts : List Three) (i j : ℕ) → Tabs b role d ts → i < length ts → j < length ts → (three_no ts i).at ≡ (three_no ts j).at → i ≡ j
  unfolding three_no
  no_one [] i j g l k e = absurd (not-suc-le-zero l)
  no_one (t ∷ ts) zero zero g l k e = refl
  no_one (t ∷ ts) zero (suc j) g l k e = none-some (sym g.0.once ∙ ap (λ (x : ℕ). three_at x ts) e ∙ no_found ts j g.1 (le_of_suc-le-suc k))
  no_one (t ∷ ts) (suc i) zero g l k e = none-some (sym g.0.once ∙ ap (λ (x : ℕ). three_at x ts) (sym e) ∙ no_found ts i g.1 (le_of_suc-le-suc l))
  no_one (t ∷ ts) (suc i) (suc j) g l k e = ap suc (no_one ts i j g.1 (le_of_suc-le-suc l) (le_of_suc-le-suc k) e)

  -- what the page of a pair is for
  pub at-role : (ts : List Three) (j : ℕ) → Tabs b role d ts → j < 3 * length ts → role (page_at ts j) ≡ tab (kind_at (j % 3)) d (three_no ts (j / 3)).at
  unfolding page_at
  at-role ts j g l = (no-three ts (j / 3) g (omega arith)).pages (kind_at (j % 3))

  -- no page is in two pairs
  pub at_one : (ts : List Three) (i j : ℕ) → Tabs b role d ts → i < 3 * length ts → j < 3 * length ts → page_at ts i ≡ page_at ts j → i ≡ j
  at_one ts i j g l k e =
      let w : tab (kind_at (i % 3)) d (three_no ts (i / 3)).at ≡ tab (kind_at (j % 3)) d (three_no ts (j / 3)).at = sym (at-role ts i g l) ∙ ap role e ∙ at-role ts j g k in
      let x : kind_at (i % 3) ≡ kind_at (j % 3) = cc in
      let y : (three_no ts (i / 3)).at ≡ (three_no ts (j / 3)).at = cc in
      let p : i % 3 ≡ j % 3 = sym (kind-no (i % 3) (omega arith)) ∙ ap kind_no x ∙ kind-no (j % 3) (omega arith) in
      let q : i / 3 ≡ j / 3 = no_one ts (i / 3) (j / 3) g (omega arith) (omega arith) y in
      omega arith
