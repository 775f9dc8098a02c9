-- The state that format leaves, and that it is well formed: the laws can be met.
use mathlib.Core.Path.{◌≡◌, refl, sym, ap, ◌∙◌, subst}
use mathlib.Core.Option.{Option, none, some}
use mathlib.Core.List.{List, [], ◌∷◌, ◌++◌}
use Prim.Native.Nat.{ℕ, zero, suc, ◌+◌, ◌-◌, ◌*◌, ◌/◌, ◌%◌, ◌≤◌, ◌<◌}
use native.Mathlib.Omega.{arith}
use native.Mathlib.Decide.{dec_lt}
use lib.ListN.{length}
use Rattle.rules.proofs.model.Base.{eqd, pick, pick_yes, pick_no}
use lib.ListN.{length-append}
use Rattle.rules.proofs.model.Words.{W, idx, idx-lt, cover_lt}
use Rattle.rules.proofs.model.Abs.{Kind, pt, s1, s2, Role, header, hand, desc, root, lst, tab, Hop, Three, Abs, parts, Seen, seek, three_at, Good, Owner, Tabs, WF}
use Rattle.rules.proofs.model.Facts.{nil_cons, none-some, some_inj, differ, seek-here}
use Rattle.rules.proofs.steps.Prep.{at_here, at_on, at_nil, at_append, at_last, tabs_append}

unfoldable pub kind_at : ℕ → Kind
kind_at zero = pt
kind_at (suc zero) = s1
kind_at (suc (suc n)) = s2

unfoldable pub kind_no : Kind → ℕ
kind_no pt = 0
kind_no s1 = 1
kind_no s2 = 2

pub kind-back : (k : Kind) → kind_at (kind_no k) ≡ k
unfolding kind_at kind_no
kind-back pt = refl
kind-back s1 = refl
kind-back s2 = refl

pub kind-no : (n : ℕ) → n < 3 → kind_no (kind_at n) ≡ n
unfolding kind_at kind_no
kind-no zero l = refl
kind-no (suc zero) l = refl
kind-no (suc (suc zero)) l = refl
kind-no (suc (suc (suc n))) l = absurd (omega arith)

pub kind-lt : (k : Kind) → kind_no k < 3
unfolding kind_no
kind-lt pt = omega arith
kind-lt s1 = omega arith
kind-lt s2 = omega arith

module _ (N T : ℕ) where
  -- the table pages, from page 6
  unfoldable pub late_role : ℕ → Role
  late_role n = pick (dec_lt n (3 * T)) (tab (kind_at (n % 3)) 1 (n / 3)) hand

  unfoldable pub role0 : ℕ → Role
  role0 zero = header
  role0 (suc zero) = desc
  role0 (suc (suc zero)) = root pt 1
  role0 (suc (suc (suc zero))) = root s1 1
  role0 (suc (suc (suc (suc zero)))) = root s2 1
  role0 (suc (suc (suc (suc (suc zero))))) = lst 1
  role0 (suc (suc (suc (suc (suc (suc n)))))) = late_role n

  unfoldable pub flat_hop : ℕ → Hop
  flat_hop p = record { part = 1; vp = p - (5 + 3 * T); rt = 7 }

  unfoldable pub chain0 : ℕ → List Hop
  chain0 p = pick (dec_lt p (6 + 3 * T)) [] (pick (dec_lt p N) (flat_hop p ∷ []) [])

  -- the root's map
  unfoldable pub flat0 : ℕ → Option ℕ
  flat0 v = pick (dec_lt 0 v) (pick (dec_lt (5 + 3 * T + v) N) (some (5 + 3 * T + v)) none) none

  unfoldable pub maps0 : ℕ → ℕ → Option ℕ
  maps0 d v = pick (eqd d 1) (flat0 v) none

  unfoldable pub rootp0 : Kind → ℕ → ℕ
  rootp0 k d = 2 + kind_no k

  unfoldable pub three0 : ℕ → Three
  three0 i = record { at = i; page = λ k. 6 + 3 * i + kind_no k }

  unfoldable pub up_to : ℕ → List Three
  up_to zero = []
  up_to (suc n) = up_to n ++ three0 n ∷ []

  unfoldable pub start : Abs
  start = record { role = role0; chain = chain0; maps = maps0; rootp = rootp0; lstp = λ d. 5; threes = λ d. pick (eqd d 1) (up_to T) []; vcli = λ d. 0; cur = 1 }

  -- lookups among the threes
  pub at_above : (n i : ℕ) → n ≤ i → three_at i (up_to n) ≡ none
  unfolding up_to three0
  at_above zero i l = at_nil i
  at_above (suc n) i l = at_last i (up_to n) (three0 n) (at_above n i (omega arith)) ∙ at_on i (three0 n) [] (λ e. omega arith) ∙ at_nil i

  pub at-below : (n i : ℕ) → i < n → three_at i (up_to n) ≡ some (three0 i)
  unfolding up_to three0
  at-below zero i l = absurd (omega arith)
  at-below (suc n) i l = go (dec_lt i n) (λ l'. at-below n i l')
    where
      go : Dec (i < n) → (i < n → three_at i (up_to n) ≡ some (three0 i)) → three_at i (up_to n ++ three0 n ∷ []) ≡ some (three0 i)
      go (yes l') ih = at_append i (up_to n) (three0 i) (three0 n) (ih l')
      go (no m) ih =
          let e : i ≡ n = omega arith in
          at_last i (up_to n) (three0 n) (at_above n i (omega arith)) ∙ at_here i (three0 n) [] e ∙ ap (λ (x : ℕ). some (three0 x)) (sym e)

  pub length-up_to : (n : ℕ) → length (up_to n) ≡ n
  unfolding up_to
  length-up_to zero = refl
  length-up_to (suc n) = rw length-append (let e = length-up_to n in omega arith)

  late_is : (n : ℕ) → n < 3 * T → role0 (6 + n) ≡ tab (kind_at (n % 3)) 1 (n / 3)
  unfolding role0 late_role
  late_is n l =
      let e : 6 + n ≡ suc (suc (suc (suc (suc (suc n))))) = omega arith in
      ap role0 e ∙ pick_yes (dec_lt n (3 * T)) _ hand l

  late-table : (i : ℕ) (k : Kind) → i < T → role0 (6 + 3 * i + kind_no k) ≡ tab k 1 i
  late-table i k l =
      let n : ℕ = 3 * i + kind_no k in
      let β : kind_no k < 3 = kind-lt k in
      let e : 6 + 3 * i + kind_no k ≡ 6 + n = omega arith in
      let m : n % 3 ≡ kind_no k = omega arith in
      let d : n / 3 ≡ i = omega arith in
      ap role0 e ∙ late_is n (omega arith) ∙ ap (λ (x : ℕ). tab (kind_at x) 1 (n / 3)) m ∙ ap (λ (x : ℕ). tab (kind_at (kind_no k)) 1 x) d ∙ ap (λ (x : Kind). tab x 1 i) (kind-back k)

  pub data View (q : ℕ) : Type 0 where
    v_head : q ≡ 0 → role0 q ≡ header → View q
    v_desc : q ≡ 1 → role0 q ≡ desc → View q
    v_root : (k : Kind) → q ≡ 2 + kind_no k → role0 q ≡ root k 1 → View q
    v_lst : q ≡ 5 → role0 q ≡ lst 1 → View q
    v_tab : (n : ℕ) → q ≡ 6 + n → n < 3 * T → role0 q ≡ tab (kind_at (n % 3)) 1 (n / 3) → View q
    v_hand : 6 + 3 * T ≤ q → role0 q ≡ hand → View q

  pub view : (q : ℕ) → View q
  unfolding role0 late_role kind_no
  view zero = v_head refl refl
  view (suc zero) = v_desc refl refl
  view (suc (suc zero)) = v_root pt refl refl
  view (suc (suc (suc zero))) = v_root s1 refl refl
  view (suc (suc (suc (suc zero)))) = v_root s2 refl refl
  view (suc (suc (suc (suc (suc zero))))) = v_lst refl refl
  view (suc (suc (suc (suc (suc (suc n)))))) = go (dec_lt n (3 * T))
    where
      go : Dec (n < 3 * T) → View (suc (suc (suc (suc (suc (suc n))))))
      go (yes l) = v_tab n (omega arith) l (pick_yes (dec_lt n (3 * T)) _ hand l)
      go (no l) = v_hand (omega arith) (pick_no (dec_lt n (3 * T)) _ hand l)

  low : (q : ℕ) → q < 6 + 3 * T → chain0 q ≡ []
  unfolding chain0
  low q l = pick_yes (dec_lt q (6 + 3 * T)) [] _ l

  pub mid : (q : ℕ) → 6 + 3 * T ≤ q → q < N → chain0 q ≡ flat_hop q ∷ []
  unfolding chain0
  mid q a β = pick_no (dec_lt q (6 + 3 * T)) [] _ (λ l. omega arith) ∙ pick_yes (dec_lt q N) _ [] β

  out : (q : ℕ) → 6 + 3 * T ≤ q → N ≤ q → chain0 q ≡ []
  unfolding chain0
  out q a β = pick_no (dec_lt q (6 + 3 * T)) [] _ (λ l. omega arith) ∙ pick_no (dec_lt q N) _ [] (λ l. omega arith)

  hand-high : (q : ℕ) → role0 q ≡ hand → 6 + 3 * T ≤ q
  hand-high q h = go (view q)
    where
      go : View q → 6 + 3 * T ≤ q
      go (v_head e r) = differ (sym h ∙ r) (omega arith)
      go (v_desc e r) = differ (sym h ∙ r) (omega arith)
      go (v_root k e r) = differ (sym h ∙ r) (omega arith)
      go (v_lst e r) = differ (sym h ∙ r) (omega arith)
      go (v_tab n e l r) = differ (sym h ∙ r) (omega arith)
      go (v_hand l r) = l

  desc-one : (d : ℕ) → role0 d ≡ desc → d ≡ 1
  desc-one q h = go (view q)
    where
      go : View q → q ≡ 1
      go (v_head e r) = differ (sym h ∙ r) (omega arith)
      go (v_desc e r) = e
      go (v_root k e r) = differ (sym h ∙ r) (omega arith)
      go (v_lst e r) = differ (sym h ∙ r) (omega arith)
      go (v_tab n e l r) = differ (sym h ∙ r) (omega arith)
      go (v_hand l r) = differ (sym h ∙ r) (omega arith)

  one-is : role0 1 ≡ desc
  unfolding role0
  one-is = refl

  pub flat-is : (v : ℕ) → 0 < v → 5 + 3 * T + v < N → maps0 1 v ≡ some (5 + 3 * T + v)
  unfolding maps0 flat0
  flat-is v a β = pick_yes (eqd 1 1) _ none refl ∙ pick_yes (dec_lt 0 v) _ none a ∙ pick_yes (dec_lt (5 + 3 * T + v) N) _ none β

  pub record Flat (d v p : ℕ) : Type 0 where
    pub one : d ≡ 1
    pub pos : 0 < v
    pub fits : 5 + 3 * T + v < N
    pub page : p ≡ 5 + 3 * T + v

  flat-inv : (d v p : ℕ) → maps0 d v ≡ some p → Flat d v p
  unfolding maps0 flat0
  flat-inv d v p e = go (eqd d 1) (dec_lt 0 v) (dec_lt (5 + 3 * T + v) N)
    where
      go : Dec (d ≡ 1) → Dec (0 < v) → Dec (5 + 3 * T + v < N) → Flat d v p
      go (no a) β c = none-some (sym (pick_no (eqd d 1) (flat0 v) none a) ∙ e)
      go (yes a) (no β) c = none-some (sym (pick_yes (eqd d 1) (flat0 v) none a ∙ pick_no (dec_lt 0 v) _ none β) ∙ e)
      go (yes a) (yes β) (no c) = none-some (sym (pick_yes (eqd d 1) (flat0 v) none a ∙ pick_yes (dec_lt 0 v) _ none β ∙ pick_no (dec_lt (5 + 3 * T + v) N) _ none c) ∙ e)
      go (yes a) (yes β) (yes c) = record { one = a; pos = β; fits = c; page = some_inj (sym e ∙ pick_yes (eqd d 1) (flat0 v) none a ∙ pick_yes (dec_lt 0 v) _ none β ∙ pick_yes (dec_lt (5 + 3 * T + v) N) _ none c) }

  -- T tables are enough for the pages
  module _ {b : ℕ} (wide : 6 ≤ b) (enough : N ≤ T * W b + 3 * T + 5) (most : T ≤ 10) (big : 6 + 3 * T < N) where
    tabs-up_to : (n : ℕ) → n ≤ T → Tabs b role0 1 (up_to n)
    unfolding up_to three0
    tabs-up_to zero l = tt
    tabs-up_to (suc n) l = tabs_append wide role0 1 (up_to n) (three0 n) (tabs-up_to n (omega arith)) (cover_lt wide T n most (omega arith)) (λ k. late-table n k (omega arith)) (at_above n n (omega arith))

    threes-one : pick (eqd 1 1) (up_to T) [] ≡ up_to T
    threes-one = pick_yes (eqd 1 1) (up_to T) [] refl

    start-good : (q : ℕ) → Good b start q (chain0 q)
    unfolding start flat_hop
    start-good q = go (dec_lt q (6 + 3 * T)) (dec_lt q N)
      where
        go : Dec (q < 6 + 3 * T) → Dec (q < N) → Good b start q (chain0 q)
        go (yes l) d = rw (low q l) tt
        go (no l) (no β) = rw (out q (omega arith) (omega arith)) tt
        go (no l) (yes β) = rw (mid q (omega arith) β) (
          record {
            live = one-is;
            some_v = omega arith;
            small = omega arith;
            mapped = flat-is (q - (5 + 3 * T)) (omega arith) (omega arith) ∙ ap some (omega arith);
            above = ap parts (sym (low 1 (omega arith)));
            three = (three0 (idx b (q - (5 + 3 * T))), ap (three_at (idx b (q - (5 + 3 * T)))) threes-one ∙ at-below T (idx b (q - (5 + 3 * T))) (idx-lt wide T (q - (5 + 3 * T)) (omega arith)));
            rights = refl;
          },
          tt,
        )

    start_seen : (d v p : ℕ) → maps0 d v ≡ some p → (s : Seen) × (seek none d (chain0 p) ≡ some s) × (s.vp ≡ v)
    unfolding flat_hop
    start_seen d v p e =
        let x : Flat d v p = flat-inv d v p e in
        (record { vp = p - (5 + 3 * T); rt = 7; up = 0; below = none }, rw (mid p (omega (arith, x.page, x.pos)) (omega (arith, x.page, x.fits))) (seek-here none d (flat_hop p) [] x.one), omega (arith, x.page))

    start-root-inv : (k : Kind) (d q : ℕ) → role0 q ≡ root k d → (role0 d ≡ desc) × (2 + kind_no k ≡ q)
    start-root-inv k d q h = go (view q)
      where
        go : View q → (role0 d ≡ desc) × (2 + kind_no k ≡ q)
        go (v_head e r) = differ (sym h ∙ r) (omega arith)
        go (v_desc e r) = differ (sym h ∙ r) (omega arith)
        go (v_root j e r) =
            let w : root j 1 ≡ root k d = sym r ∙ h in
            let a : 1 ≡ d = cc in
            let β : j ≡ k = cc in
            (rw (← a) one-is, ap (λ (x : Kind). 2 + kind_no x) (sym β) ∙ sym e)
        go (v_lst e r) = differ (sym h ∙ r) (omega arith)
        go (v_tab n e l r) = differ (sym h ∙ r) (omega arith)
        go (v_hand l r) = differ (sym h ∙ r) (omega arith)

    start-lst-inv : (d q : ℕ) → role0 q ≡ lst d → (role0 d ≡ desc) × (5 ≡ q)
    start-lst-inv d q h = go (view q)
      where
        go : View q → (role0 d ≡ desc) × (5 ≡ q)
        go (v_head e r) = differ (sym h ∙ r) (omega arith)
        go (v_desc e r) = differ (sym h ∙ r) (omega arith)
        go (v_root j e r) = differ (sym h ∙ r) (omega arith)
        go (v_lst e r) =
            let w : lst 1 ≡ lst d = sym r ∙ h in
            let a : 1 ≡ d = cc in
            (rw (← a) one-is, sym e)
        go (v_tab n e l r) = differ (sym h ∙ r) (omega arith)
        go (v_hand l r) = differ (sym h ∙ r) (omega arith)

    start-tab-inv : (k : Kind) (d i q : ℕ) → role0 q ≡ tab k d i → (role0 d ≡ desc) × (t : Three) × (three_at i (pick (eqd d 1) (up_to T) []) ≡ some t) × (t.page k ≡ q)
    unfolding three0
    start-tab-inv k d i q h = go (view q)
      where
        go : View q → (role0 d ≡ desc) × (t : Three) × (three_at i (pick (eqd d 1) (up_to T) []) ≡ some t) × (t.page k ≡ q)
        go (v_head e r) = differ (sym h ∙ r) (omega arith)
        go (v_desc e r) = differ (sym h ∙ r) (omega arith)
        go (v_root j e r) = differ (sym h ∙ r) (omega arith)
        go (v_lst e r) = differ (sym h ∙ r) (omega arith)
        go (v_hand l r) = differ (sym h ∙ r) (omega arith)
        go (v_tab n e l r) =
            let w : tab (kind_at (n % 3)) 1 (n / 3) ≡ tab k d i = sym r ∙ h in
            let a : 1 ≡ d = cc in
            let β : kind_at (n % 3) ≡ k = cc in
            let c : n / 3 ≡ i = cc in
            let kk : kind_no k ≡ n % 3 = ap kind_no (sym β) ∙ kind-no (n % 3) (omega arith) in
            (rw (← a) one-is, three0 i, ap (three_at i) (pick_yes (eqd d 1) (up_to T) [] (sym a)) ∙ at-below T i (omega arith), omega arith)

    start-root : (k : Kind) (d : ℕ) → role0 d ≡ desc → role0 (2 + kind_no k) ≡ root k d
    unfolding role0 kind_no
    start-root pt d l = ap (root pt) (sym (desc-one d l))
    start-root s1 d l = ap (root s1) (sym (desc-one d l))
    start-root s2 d l = ap (root s2) (sym (desc-one d l))

    start-kernel : (q d : ℕ) → Owner (role0 q) q d → parts (chain0 q) ≡ parts (chain0 d)
    start-kernel q d w = go (view q)
      where
        own : (r : Role) → role0 q ≡ r → Owner r q d
        own r e = subst (λ (z : Role). Owner z q d) e w

        both-low : q < 6 + 3 * T → 1 ≡ d → parts (chain0 q) ≡ parts (chain0 d)
        both-low l e = ap parts (low q l) ∙ ap parts (sym (low d (omega arith)))

        go : View q → parts (chain0 q) ≡ parts (chain0 d)
        go (v_head e r) = absurd (own header r)
        go (v_desc e r) = both-low (omega arith) (sym e ∙ own desc r)
        go (v_root k e r) = both-low (omega (arith, kind-lt k)) (own (root k 1) r)
        go (v_lst e r) = both-low (omega arith) (own (lst 1) r)
        go (v_tab n e l r) = both-low (omega arith) (own (tab (kind_at (n % 3)) 1 (n / 3)) r)
        go (v_hand l r) = absurd (own hand r)

    start-head : (q : ℕ) → role0 q ≡ header → q ≡ 0
    start-head q h = go (view q)
      where
        go : View q → q ≡ 0
        go (v_head e r) = e
        go (v_desc e r) = differ (sym h ∙ r) (omega arith)
        go (v_root k e r) = differ (sym h ∙ r) (omega arith)
        go (v_lst e r) = differ (sym h ∙ r) (omega arith)
        go (v_tab n e l r) = differ (sym h ∙ r) (omega arith)
        go (v_hand l r) = differ (sym h ∙ r) (omega arith)

    start-beyond : (q : ℕ) → N ≤ q → role0 q ≡ hand
    start-beyond q l = go (view q)
      where
        go : View q → role0 q ≡ hand
        go (v_head e r) = absurd (omega arith)
        go (v_desc e r) = absurd (omega arith)
        go (v_root k e r) = absurd (omega (arith, kind-lt k))
        go (v_lst e r) = absurd (omega arith)
        go (v_tab n e a r) = absurd (omega arith)
        go (v_hand a r) = r

    start-tabs : (d : ℕ) → role0 d ≡ desc → Tabs b role0 d (pick (eqd d 1) (up_to T) [])
    start-tabs d l = rw (desc-one d l, threes-one) (tabs-up_to T (omega arith))

    start-ten : (d : ℕ) → role0 d ≡ desc → length (pick (eqd d 1) (up_to T) []) ≤ 10
    start-ten d l = rw (desc-one d l, threes-one, length-up_to T) most

    pub start-wf : WF b N flat0 start
    unfolding start rootp0 role0 maps0
    start-wf = record {
      beyond = λ q l. (start-beyond q l, out q (omega arith) l);
      head_role = refl;
      head_only = start-head;
      head_chain = low 0 (omega arith);
      root_live = one-is;
      root_top = low 1 (omega arith);
      root_only = λ d l e. desc-one d l;
      good = start-good;
      seen = start_seen;
      root_role = start-root;
      root_inv = start-root-inv;
      lst_role = λ d l. ap lst (sym (desc-one d l));
      lst_inv = start-lst-inv;
      tabs = start-tabs;
      tab_inv = start-tab-inv;
      kernel = start-kernel;
      held = λ q h l e. nil_cons (sym e ∙ mid q (hand-high q h) l);
      top_maps = λ v. pick_yes (eqd 1 1) (flat0 v) none refl;
      depth = λ d l. rw (low d (omega (arith, desc-one d l))) (omega arith);
      ten = start-ten;
      cur_live = one-is;
    }
