-- The threes of a partition: three j of its list stands at one directory index, no other three does, and their pages have the roles of its tables.
-- Assumes an index width of 6 or more.
use mathlib.Core.Path.{◌≡◌, refl, sym, ap, ap₂, ◌∙◌, subst}
use mathlib.Core.List.{List}
use mathlib.Core.Logic.{◌≢◌}
use mathlib.Core.Option.{none, some}
use Prim.Native.Nat.{ℕ, zero, suc, ◌+◌, ◌*◌, ◌/◌, ◌%◌, ◌≤◌, ◌<◌}
use native.Mathlib.Omega.{arith}
use native.Mathlib.Nat.{not-suc-le-zero}
use lib.ListN.{length}
use Rattle.memory.specs.Geometry.{page_words}
use Rattle.memory.specs.Words.{word}
use Rattle.memory.specs.Partition.{directory, threes}
use Rattle.memory.specs.Tree.{InTree}
use Rattle.memory.specs.Sound.{Stands, Sound}
use Rattle.rules.proofs.model.Base.{eqd, pick, pick_yes, pick_no}
use Rattle.rules.proofs.model.Words.{W}
use Rattle.rules.proofs.model.Abs.{Kind, tab, Three, three_at, Tabs}
use Rattle.rules.proofs.model.Format.{kind_at, kind_no, kind-no, kind-lt, kind-back}
use Rattle.rules.proofs.model.Listing.{three_no, page_at, no_found}
use Rattle.rules.proofs.steps.Prep.{at_on, at_nil}
use Rattle.rules.proofs.state.State.{listed_page, stands?, index_from, three, threes_from, threes_of, role}
use Rattle.rules.proofs.state.Used.{listed-used}

module _ (b : ℕ) (m : List ℕ) where
  -- ---- the list of threes, by place: three j, and the page of pair j

  length_from : (n d j : ℕ) → length (threes_from b m n d j) ≡ n
  unfolding threes_from
  length_from zero d j = refl
  length_from (suc n) d j = ap suc (length_from n d (suc j))

  pub length-threes : (d : ℕ) → length (threes_of b m d) ≡ threes b m d
  length-threes d = length_from (threes b m d) d 0

  no-from : (n d j i : ℕ) → i < n → three_no (threes_from b m n d j) i ≡ three b m d (j + i)
  unfolding threes_from three_no
  no-from zero d j i l = absurd (not-suc-le-zero l)
  no-from (suc n) d j zero l = ap (three b m d) (omega arith)
  no-from (suc n) d j (suc i) l = no-from n d (suc j) i (omega arith) ∙ ap (three b m d) (omega arith)

  pub three-no : (d j : ℕ) → j < threes b m d → three_no (threes_of b m d) j ≡ three b m d j
  three-no d j l = no-from (threes b m d) d 0 j l ∙ ap (three b m d) (omega arith)

  -- the page of pair j is table x of three j / 3
  pub three-page : (d j : ℕ) (x : Kind) → x ≡ kind_at (j % 3) → (three b m d (j / 3)).page x ≡ listed_page b m d j
  unfolding three
  three-page d j x e =
      let f : kind_no x ≡ j % 3 = ap kind_no e ∙ kind-no (j % 3) (omega arith) in
      ap (listed_page b m d) (omega arith)

  pub page-threes : (d j : ℕ) → j < 3 * threes b m d → page_at (threes_of b m d) j ≡ listed_page b m d j
  unfolding page_at
  page-threes d j l = ap (λ (x : Three). x.page (kind_at (j % 3))) (three-no d (j / 3) (omega arith)) ∙ three-page d j (kind_at (j % 3)) refl

  -- ---- lookups by directory index

  at_none : (n d j i : ℕ) → ((x : ℕ) → j ≤ x → x < j + n → (three b m d x).at ≢ i) → three_at i (threes_from b m n d j) ≡ none
  unfolding threes_from
  at_none zero d j i h = at_nil i
  at_none (suc n) d j i h =
      let r = at_none n d (suc j) i (λ x l k. h x (omega arith) (omega arith)) in
      at_on i (three b m d j) _ (λ e. h j (omega arith) (omega arith) (sym e)) ∙ r

  -- if three j stands at x and at no other index, x is found
  index-found : (n i d j x : ℕ) → i ≤ x → x < i + n → Stands b m d j x → ((y : ℕ) → y < i + n → Stands b m d j y → y ≡ x) → index_from b m n i d j ≡ x
  unfolding index_from
  index-found zero i d j x l k e h = absurd (omega arith)
  index-found (suc n) i d j x l k e h = go (eqd x i) (λ q. index-found n (suc i) d j x (omega arith) (omega arith) e (λ y o. h y (omega arith)))
    where
      go : Dec (x ≡ i) → (x ≢ i → index_from b m n (suc i) d j ≡ x) → pick (stands? b m d j i) i (index_from b m n (suc i) d j) ≡ x
      go (yes q) r = pick_yes (stands? b m d j i) i _ (subst (Stands b m d j) q e) ∙ sym q
      go (no q) r = pick_no (stands? b m d j i) i _ (λ f. q (sym (h i (omega arith) f))) ∙ r q

module _ {b : ℕ} (wide : 6 ≤ b) (m : List ℕ) (s : Sound b m) {k d : ℕ} (t : InTree b m k d) where
  -- ---- the index of a three of d: it stands there, and no other three does

  pub index_is : (j i : ℕ) → j < threes b m d → i < page_words b → Stands b m d j i → (three b m d j).at ≡ i
  unfolding three
  index_is j i l h e =
      let (x, y, one) = (s.threes k d t).stand j l in
      index-found b m (page_words b) 0 d j i (omega arith) (omega arith) e (λ a f c. one a (omega arith, c) ∙ sym (one i (h, e)))

  pub three-stands : (j : ℕ) → j < threes b m d → ((three b m d j).at < page_words b) × Stands b m d j (three b m d j).at
  three-stands j l =
      let (x, (h, y), one) = (s.threes k d t).stand j l in
      let e = sym (index_is j x l h y) in
      (subst (λ (a : ℕ). a < page_words b) e h, subst (Stands b m d j) e y)

  index-one : (i j : ℕ) → i < threes b m d → j < threes b m d → (three b m d i).at ≡ (three b m d j).at → i ≡ j
  index-one i j l h e =
      let (f, a) = three-stands i l in
      let c = (three-stands j h).1 in
      let (x, y, one) = (s.threes k d t).listed (three b m d i).at f (λ q. omega (arith, a.0)) in
      one i (l, a) ∙ sym (one j (h, subst (Stands b m d j) (sym e) c))

  -- ---- the pages of a three have the roles of tables

  page-role : (j : ℕ) → j < threes b m d → (x : Kind) → role b m s ((three b m d j).page x) ≡ tab x d (three b m d j).at
  unfolding three
  page-role j l x =
      let n : kind_no x < 3 = kind-lt x in
      let p : kind_at ((3 * j + kind_no x) % 3) ≡ x = ap kind_at (omega arith) ∙ kind-back x in
      let q : (3 * j + kind_no x) / 3 ≡ j = omega arith in
      (listed-used wide m s t (3 * j + kind_no x) (omega arith)).0 ∙ ap₂ (λ (y : Kind) (z : ℕ). tab y d (three b m d z).at) p q

  tabs-from : (n j : ℕ) → j + n ≤ threes b m d → Tabs b (role b m s) d (threes_from b m n d j)
  unfolding threes_from W
  tabs-from zero j l = tt
  tabs-from (suc n) j l = (
    record {
      fits = (three-stands j (omega arith)).0;
      pages = page-role j (omega arith);
      once = at_none b m n d (suc j) (three b m d j).at (λ x h i e. omega (arith, index-one x j (omega arith) (omega arith) e));
    },
    tabs-from n (suc j) (omega arith),
  )

  pub tabs : Tabs b (role b m s) d (threes_of b m d)
  tabs = tabs-from (threes b m d) 0 (omega arith)

  -- ---- what is found at a directory index

  pub three-found : (j : ℕ) → j < threes b m d → three_at (three b m d j).at (threes_of b m d) ≡ some (three b m d j)
  three-found j l =
      let e = no_found wide (role b m s) d (threes_of b m d) j tabs (omega (arith, length-threes b m d)) in
      subst (λ (x : Three). three_at x.at (threes_of b m d) ≡ some x) (three-no b m d j l) e

  -- where the directory has a table
  pub three-at : (i : ℕ) → i < page_words b → word b m (directory b m d) i ≢ 0
      → (j : ℕ) × (j < threes b m d) × Stands b m d j i × (three_at i (threes_of b m d) ≡ some (three b m d j))
  three-at i h n =
      let (j, (l, y), one) = (s.threes k d t).listed i h n in
      (j, l, y, ap (λ (x : ℕ). three_at x (threes_of b m d)) (sym (index_is j i l h y)) ∙ three-found j l)

  -- where it has none
  pub three-none : (i : ℕ) → i < page_words b → word b m (directory b m d) i ≡ 0 → three_at i (threes_of b m d) ≡ none
  three-none i h z = at_none b m (threes b m d) d 0 i none-there
    where
      none-there : (j : ℕ) → 0 ≤ j → j < 0 + threes b m d → (three b m d j).at ≢ i
      none-there j l n e = omega (arith, sym (ap (word b m (directory b m d)) e) ∙ (three-stands j (omega arith)).1.0, z)
