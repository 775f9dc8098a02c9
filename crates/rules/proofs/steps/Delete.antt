-- delete_partition on the abstract state: every chain through the partition is cut behind it, and the pages are in hand again.
use mathlib.Core.Path.{◌≡◌, refl, sym, ap, ◌∙◌, subst}
use mathlib.Core.Logic.{◌≢◌}
use mathlib.Core.Bool.{false}
use mathlib.Core.Option.{Option, none, some}
use mathlib.Core.List.{List, [], ◌∷◌}
use Prim.Native.Nat.{ℕ, ◌≤◌, ◌<◌}
use native.Mathlib.Omega.{arith}
use lib.ListN.{length}
use Rattle.rules.proofs.model.Base.{eqd, pick, pick_yes, pick_no}
use Rattle.rules.proofs.model.Abs.{Role, header, hand, blank, desc, root, lst, tab, Hop, Abs, parts, Seen, seek, GoodHop, Good, Owner, Tabs, WF, is_hand}
use Rattle.rules.proofs.model.Facts.{nil_cons, seek-on, none-some, some_inj, length-parts, parts_of, Like, like, owner-live}
use Rattle.rules.proofs.model.Roles.{tabs_map}

-- what is above D in a chain, if D is in it
unfoldable pub after : ℕ → List Hop → Option (List Hop)
after D [] = none
after D (h ∷ hs) = pick (eqd h.part D) (some hs) (after D hs)

pub after-here : (D : ℕ) (h : Hop) (hs : List Hop) → h.part ≡ D → after D (h ∷ hs) ≡ some hs
unfolding after
after-here D h hs e = pick_yes (eqd h.part D) _ _ e

pub after_on : (D : ℕ) (h : Hop) (hs : List Hop) → h.part ≢ D → after D (h ∷ hs) ≡ after D hs
unfolding after
after_on D h hs e = pick_no (eqd h.part D) _ _ e

pub after_nil : (D : ℕ) → after D [] ≡ none
unfolding after
after_nil D = refl

unfoldable pub cut_o : List Hop → Option (List Hop) → List Hop
cut_o hs none = hs
cut_o hs (some t) = t

unfoldable pub cut : ℕ → List Hop → List Hop
cut D hs = cut_o hs (after D hs)

pub cut-none : (D : ℕ) (hs : List Hop) → after D hs ≡ none → cut D hs ≡ hs
unfolding cut cut_o
cut-none D hs e = rw e refl

pub cut-some : (D : ℕ) (hs t : List Hop) → after D hs ≡ some t → cut D hs ≡ t
unfolding cut cut_o
cut-some D hs t e = rw e refl

-- whether D is there is seen from the partitions alone
cons_inj : {x y : ℕ} {xs ys : List ℕ} → x ∷ xs ≡ y ∷ ys → (x ≡ y) × (xs ≡ ys)
cons_inj e = (cc, cc)

pub after-parts : (D : ℕ) (hs gs : List Hop) → parts hs ≡ parts gs → after D hs ≡ none → after D gs ≡ none
after-parts D [] [] e n = n
after-parts D [] (g ∷ gs) e n = nil_cons e
after-parts D (h ∷ hs) [] e n = nil_cons (sym e)
after-parts D (h ∷ hs) (g ∷ gs) e n = go (eqd h.part D) (λ k. after-parts D hs gs (cons_inj e).1 k)
  where
    go : Dec (h.part ≡ D) → (after D hs ≡ none → after D gs ≡ none) → after D (g ∷ gs) ≡ none
    go (yes y) ih = none-some (sym n ∙ after-here D h hs y)
    go (no y) ih = after_on D g gs (λ z. y ((cons_inj e).0 ∙ z)) ∙ ih (sym (after_on D h hs y) ∙ n)

-- is r the use of page q by D?
pub ownd : (r : Role) (q D : ℕ) → Dec (Owner r q D)
ownd header q D = no (λ z. z)
ownd hand q D = no (λ z. z)
ownd blank q D = no (λ z. z)
ownd desc q D = eqd q D
ownd (root k d) q D = eqd d D
ownd (lst d) q D = eqd d D
ownd (tab k d i) q D = eqd d D

-- where a page goes: it stays, or it is in hand again
pub data Fate (A : Abs) (D q : ℕ) : Type 0 where
  through : (t : List Hop) → after D (A.chain q) ≡ some t → Fate A D q
  owned : after D (A.chain q) ≡ none → Owner (A.role q) q D → Fate A D q
  stays : after D (A.chain q) ≡ none → ¬ (Owner (A.role q) q D) → Fate A D q

pub fate : (A : Abs) (D q : ℕ) → Fate A D q
fate A D q = go (after D (A.chain q)) refl (ownd (A.role q) q D)
  where
    go : (o : Option (List Hop)) → after D (A.chain q) ≡ o → Dec (Owner (A.role q) q D) → Fate A D q
    go none e (yes y) = owned e y
    go none e (no n) = stays e n
    go (some t) e d = through t e

unfoldable pub fate_role : {A : Abs} {D q : ℕ} → Fate A D q → Role → Role
fate_role (through t e) r = hand
fate_role (owned e o) r = hand
fate_role (stays e n) r = r

unfoldable pub fate_map : {A : Abs} {D q : ℕ} → Fate A D q → Option ℕ → Option ℕ
fate_map (through t e) x = none
fate_map (owned e o) x = none
fate_map (stays e n) x = x

unfoldable pub del_role : Abs → ℕ → ℕ → Role
del_role A D q = fate_role (fate A D q) (A.role q)

unfoldable pub del_maps : Abs → ℕ → ℕ → ℕ → Option ℕ
del_maps A D d v = fate_map (fate A D d) (A.maps d v)

abbrev pub del_a : Abs → ℕ → Abs
del_a A D = record {
  role = del_role A D;
  chain = λ q. cut D (A.chain q);
  maps = del_maps A D;
  rootp = A.rootp;
  lstp = A.lstp;
  threes = A.threes;
  vcli = A.vcli;
  cur = A.cur;
}

pub record DelPre (A : Abs) (o D : ℕ) : Type 0 where
  pub child : A.role D ≡ desc
  pub hop : Hop
  pub rest : List Hop
  pub is : A.chain D ≡ hop ∷ rest
  pub mine : hop.part ≡ o
  pub live : A.role o ≡ desc
  pub caller : A.cur ≡ o

pub owner-one : (r : Role) (q d e : ℕ) → Owner r q d → Owner r q e → d ≡ e
owner-one header q d e a β = absurd a
owner-one hand q d e a β = absurd a
owner-one blank q d e a β = absurd a
owner-one desc q d e a β = sym a ∙ β
owner-one (root k x) q d e a β = sym a ∙ β
owner-one (lst x) q d e a β = sym a ∙ β
owner-one (tab k x i) q d e a β = sym a ∙ β

hand-false : {X : Type 0} {r : Role} → hand ≡ r → is_hand r ≡ false → X
hand-false a β = let z : ◌≡◌ {A = ℕ} 0 1 = cc in absurd (omega arith)

-- a page with a use afterwards is one that stays
pub record Stays (A : Abs) (D q : ℕ) : Type 0 where
  pub clear : after D (A.chain q) ≡ none
  pub other : ¬ (Owner (A.role q) q D)

module _ {b : ℕ} (wide : 6 ≤ b) where
  module _ (N : ℕ) (fl : ℕ → Option ℕ) (A : Abs) (wf : WF b N fl A) (o D : ℕ) (pre : DelPre A o D) where
    abbrev B : Abs
    B = del_a A D

    -- a page that stays keeps all
    role-stays : (q : ℕ) → after D (A.chain q) ≡ none → ¬ (Owner (A.role q) q D) → B.role q ≡ A.role q
    unfolding del_role fate_role
    role-stays q e n = go (fate A D q)
      where
        go : (x : Fate A D q) → fate_role x (A.role q) ≡ A.role q
        go (through t f) = none-some (sym e ∙ f)
        go (owned f y) = absurd (n y)
        go (stays f y) = refl

    pub maps-stays : (d v : ℕ) → after D (A.chain d) ≡ none → ¬ (Owner (A.role d) d D) → B.maps d v ≡ A.maps d v
    unfolding del_maps fate_map
    maps-stays d v e n = go (fate A D d)
      where
        go : (x : Fate A D d) → fate_map x (A.maps d v) ≡ A.maps d v
        go (through t f) = none-some (sym e ∙ f)
        go (owned f y) = absurd (n y)
        go (stays f y) = refl

    pub used : (q : ℕ) (r : Role) → is_hand r ≡ false → B.role q ≡ r → Stays A D q × (A.role q ≡ r)
    unfolding del_role fate_role
    used q r n e = go (fate A D q) refl e
      where
        go : (x : Fate A D q) → x ≡ fate A D q → fate_role x (A.role q) ≡ r → Stays A D q × (A.role q ≡ r)
        go (through t f) y e = hand-false e n
        go (owned f z) y e = hand-false e n
        go (stays f z) y e = (record { clear = f; other = z }, e)

    -- a page that does not stay is in hand
    pub gone : (q : ℕ) → ¬ (Stays A D q) → B.role q ≡ hand
    unfolding del_role fate_role
    gone q n = go (fate A D q)
      where
        go : (x : Fate A D q) → fate_role x (A.role q) ≡ hand
        go (through t f) = refl
        go (owned f z) = refl
        go (stays f z) = absurd (n (record { clear = f; other = z }))

    pub kept : (q : ℕ) → Stays A D q → (B.role q ≡ A.role q) × (B.chain q ≡ A.chain q)
    kept q s = (role-stays q s.clear s.other, cut-none D (A.chain q) s.clear)

    -- a kernel page stays with its partition
    -- D does not stay
    pub not-D : (d : ℕ) → Stays A D d → d ≢ D
    not-D d s e = s.other (subst (λ (r : Role). Owner r d D) (sym (ap A.role e ∙ pre.child)) e)

    pub live-stays : (d : ℕ) → A.role d ≡ desc → after D (A.chain d) ≡ none → d ≢ D → Stays A D d
    live-stays d l c n = record { clear = c; other = λ w. n (subst (λ (r : Role). Owner r d D) l w) }

    pub with_owner : (q d : ℕ) → Owner (A.role q) q d → Stays A D d → Stays A D q
    with_owner q d w s = record {
      clear = after-parts D (A.chain d) (A.chain q) (sym (wf.kernel q d w)) s.clear;
      other = λ x. not-D d s (owner-one (A.role q) q d D w x);
    }

    pub owner_with : (q d : ℕ) → Owner (A.role q) q d → Stays A D q → Stays A D d
    owner_with q d w s = live-stays d (owner-live wide N fl A wf q d w) (after-parts D (A.chain q) (A.chain d) (wf.kernel q d w) s.clear) (λ e. s.other (rw e at w))

    -- D is not above itself
    after-short : (q : ℕ) (hs t : List Hop) → Good b A q hs → after D hs ≡ some t → length (A.chain D) < length hs
    after-short q [] t g e = none-some (sym (after_nil D) ∙ e)
    after-short q (h ∷ hs) t g e = go (eqd h.part D) (λ x. after-short q hs t g.1 x)
      where
        go : Dec (h.part ≡ D) → (after D hs ≡ some t → length (A.chain D) < length hs) → length (A.chain D) < length (h ∷ hs)
        go (yes y) ih = omega (arith, ap length g.0.above, length-parts hs, length-parts (A.chain h.part), ap (λ (z : ℕ). length (A.chain z)) y)
        go (no n) ih = omega (arith, ih (sym (after_on D h hs n) ∙ e))

    none_or : (hs : List Hop) → ((t : List Hop) → after D hs ≡ some t → ⊥) → after D hs ≡ none
    none_or hs n = go (after D hs) refl
      where
        go : (x : Option (List Hop)) → after D hs ≡ x → after D hs ≡ none
        go none e = e
        go (some t) e = absurd (n t e)

    pub no_self : after D (A.chain D) ≡ none
    no_self = none_or (A.chain D) (λ t e. omega (arith, after-short D (A.chain D) t (wf.good D) e))

    -- behind D the chain is good, and is that of D's parent
    pub after-good : (q : ℕ) (hs t : List Hop) → Good b A q hs → after D hs ≡ some t → Good b A q t × (parts t ≡ parts (A.chain D))
    after-good q [] t g e = none-some (sym (after_nil D) ∙ e)
    after-good q (h ∷ hs) t g e = go (eqd h.part D) (λ x. after-good q hs t g.1 x)
      where
        go : Dec (h.part ≡ D) → (after D hs ≡ some t → Good b A q t × (parts t ≡ parts (A.chain D))) → Good b A q t × (parts t ≡ parts (A.chain D))
        go (yes y) ih = subst (λ (z : List Hop). Good b A q z × (parts z ≡ parts (A.chain D))) (some_inj (sym (after-here D h hs y) ∙ e)) (g.1, g.0.above ∙ ap (λ (z : ℕ). parts (A.chain z)) y)
        go (no n) ih = ih (sym (after_on D h hs n) ∙ e)

    pub after-clear : (q : ℕ) (hs t : List Hop) → Good b A q hs → after D hs ≡ some t → after D t ≡ none
    after-clear q hs t g e = after-parts D (A.chain D) t (sym (after-good q hs t g e).1) no_self

    -- each hop of a chain without D is in a partition that stays
    hop-clear : (q : ℕ) (h : Hop) (hs : List Hop) → GoodHop b A q h hs → after D (h ∷ hs) ≡ none → Stays A D h.part × (after D hs ≡ none)
    hop-clear q h hs g e =
        let n : h.part ≢ D = λ y. none-some (sym e ∙ after-here D h hs y) in
        let c : after D hs ≡ none = sym (after_on D h hs n) ∙ e in
        (live-stays h.part g.live (after-parts D hs (A.chain h.part) g.above c) n, c)

    del_good : (q : ℕ) (hs : List Hop) → Good b A q hs → after D hs ≡ none → Good b B q hs
    del_good q [] g e = tt
    del_good q (h ∷ hs) g e =
        let x = hop-clear q h hs g.0 e in
        let k = kept h.part x.0 in (
          record {
            live = k.0 ∙ g.0.live;
            some_v = g.0.some_v;
            small = g.0.small;
            mapped = maps-stays h.part h.vp x.0.clear x.0.other ∙ g.0.mapped;
            above = g.0.above ∙ ap parts (sym k.1);
            three = g.0.three;
            rights = g.0.rights;
          },
          del_good q hs g.1 x.1,
        )

    chain-good : (q : ℕ) → Good b B q (B.chain q)
    chain-good q = go (after D (A.chain q)) refl
      where
        go : (x : Option (List Hop)) → after D (A.chain q) ≡ x → Good b B q (cut D (A.chain q))
        go none e = rw (cut-none D (A.chain q) e) (del_good q (A.chain q) (wf.good q) e)
        go (some t) e = rw (cut-some D (A.chain q) t e) (del_good q t (after-good q (A.chain q) t (wf.good q) e).0 (after-clear q (A.chain q) t (wf.good q) e))

    -- a partition that stays is seen behind D
    pub seek-after : (q d : ℕ) (β : Option ℕ) (hs t : List Hop) (s : Seen) → Good b A q hs → after D hs ≡ some t → Stays A D d → seek β d hs ≡ some s → seek (some D) d t ≡ some s
    seek-after q d β [] t s g e k w = none-some (sym (after_nil D) ∙ e)
    seek-after q d β (h ∷ hs) t s g e k w = go (eqd h.part D) (eqd d h.part) (λ x y. seek-after q d (some h.part) hs t s g.1 x k y)
      where
        go : Dec (h.part ≡ D) → Dec (d ≡ h.part) → (after D hs ≡ some t → seek (some h.part) d hs ≡ some s → seek (some D) d t ≡ some s) → seek (some D) d t ≡ some s
        go (yes y) (yes z) ih = absurd (not-D d k (z ∙ y))
        go (yes y) (no z) ih =
            let u : hs ≡ t = some_inj (sym (after-here D h hs y) ∙ e) in
            rw (← u, ← y) (sym (seek-on β d h hs z) ∙ w)
        go (no y) (yes z) ih = none-some (sym (after-parts D (A.chain h.part) hs (sym g.0.above) (rw z at k.clear)) ∙ (sym (after_on D h hs y) ∙ e))
        go (no y) (no z) ih = ih (sym (after_on D h hs y) ∙ e) (sym (seek-on β d h hs z) ∙ w)

    -- a partition with a mapping stays
    pub maps-used : (d v q : ℕ) → B.maps d v ≡ some q → Stays A D d × (A.maps d v ≡ some q)
    unfolding del_maps fate_map
    maps-used d v q e = go (fate A D d) e
      where
        go : (x : Fate A D d) → fate_map x (A.maps d v) ≡ some q → Stays A D d × (A.maps d v ≡ some q)
        go (through t f) e = none-some e
        go (owned f z) e = none-some e
        go (stays f z) e = (record { clear = f; other = z }, e)

    del_seen : (d v q : ℕ) → B.maps d v ≡ some q → (s : Seen) × (seek none d (B.chain q) ≡ some s) × (s.vp ≡ v)
    del_seen d v q e =
        let u = maps-used d v q e in
        let w = wf.seen d v q u.1 in
        go (after D (A.chain q)) refl u.0 w.0 w.1 w.2
      where
        go : (x : Option (List Hop)) → after D (A.chain q) ≡ x → Stays A D d → (s : Seen) → seek none d (A.chain q) ≡ some s → s.vp ≡ v → (s : Seen) × (seek none d (cut D (A.chain q)) ≡ some s) × (s.vp ≡ v)
        go none e k s w z = (s, rw (cut-none D (A.chain q) e) w, z)
        go (some t) e k s w z =
            let l : Like none d t s = like (some D) none d t s (seek-after q d none (A.chain q) t s (wf.good q) e k w) in
            (l.to, rw (cut-some D (A.chain q) t e) l.finds, l.vp ∙ z)

    pub D-parts : parts (A.chain D) ≡ o ∷ parts (A.chain o)
    D-parts = parts_of wide N fl A wf D o pre.hop pre.rest pre.is pre.mine

    del_held : (q : ℕ) → B.role q ≡ hand → q < N → B.chain q ≢ []
    del_held q e l c = go (fate A D q)
      where
        go : Fate A D q → ⊥
        go (through t f) =
            let p : parts t ≡ parts (A.chain D) = (after-good q (A.chain q) t (wf.good q) f).1 in
            nil_cons (ap parts (sym (sym (cut-some D (A.chain q) t f) ∙ c)) ∙ p ∙ D-parts)
        go (owned f w) = nil_cons (ap parts (sym (sym (cut-none D (A.chain q) f) ∙ c)) ∙ wf.kernel q D w ∙ D-parts)
        go (stays f n) = wf.held q (sym (role-stays q f n) ∙ e) l (sym (cut-none D (A.chain q) f) ∙ c)

    stay-role : (q d : ℕ) (r : Role) → is_hand r ≡ false → A.role q ≡ r → Owner r q d → Stays A D d → B.role q ≡ r
    stay-role q d r n e w s = (kept q (with_owner q d (subst (λ (z : Role). Owner z q d) (sym e) w) s)).0 ∙ e

    pub o-stays : Stays A D o
    o-stays =
        let g : Good b A D (pre.hop ∷ pre.rest) = rw pre.is at (wf.good D) in
        subst (Stays A D) pre.mine (hop-clear D pre.hop pre.rest g.0 (rw pre.is at no_self)).0

    -- a page of no partition and no chain
    bare : (q : ℕ) → A.chain q ≡ [] → ((d : ℕ) → ¬ (Owner (A.role q) q d)) → Stays A D q
    bare q e n = record { clear = rw e (after_nil D); other = n D }

    zero-stays : Stays A D 0
    zero-stays = bare 0 wf.head_chain (λ d w. subst (λ (r : Role). Owner r 0 d) wf.head_role w)

    root-stays : Stays A D 1
    root-stays = live-stays 1 wf.root_live (rw wf.root_top (after_nil D)) (λ e. nil_cons (sym wf.root_top ∙ (ap A.chain e ∙ pre.is)))

    del_tabs : (d : ℕ) → B.role d ≡ desc → Tabs b B.role d (A.threes d)
    del_tabs d l =
        let u = used d desc refl l in
        tabs_map wide A.role B.role d (A.threes d) (λ k i q e. stay-role q d (tab k d i) refl e refl u.0) (wf.tabs d u.1)

    inv : (q d : ℕ) (r : Role) → is_hand r ≡ false → B.role q ≡ r → Owner r q d → B.role d ≡ desc
    inv q d r n e w =
        let u = used q r n e in
        let o : Owner (A.role q) q d = subst (λ (z : Role). Owner z q d) (sym u.1) w in
        (kept d (owner_with q d o u.0)).0 ∙ owner-live wide N fl A wf q d o

    del_kernel : (q d : ℕ) → Owner (B.role q) q d → parts (B.chain q) ≡ parts (B.chain d)
    del_kernel q d w = go (fate A D q)
      where
        out : B.role q ≡ hand → parts (B.chain q) ≡ parts (B.chain d)
        out e = absurd (subst (λ (r : Role). Owner r q d) e w)

        go : Fate A D q → parts (B.chain q) ≡ parts (B.chain d)
        go (through t f) = out (gone q (λ s. none-some (sym s.clear ∙ f)))
        go (owned f x) = out (gone q (λ s. s.other x))
        go (stays f n) =
            let s : Stays A D q = record { clear = f; other = n } in
            let o : Owner (A.role q) q d = subst (λ (r : Role). Owner r q d) (role-stays q f n) w in
            rw ((kept q s).1, (kept d (owner_with q d o s)).1) (wf.kernel q d o)

    pub del_wf : WF b N fl B
    del_wf = record {
      beyond = λ q l. let k = kept q (bare q (wf.beyond q l).1 (λ d w. subst (λ (r : Role). Owner r q d) (wf.beyond q l).0 w)) in (k.0 ∙ (wf.beyond q l).0, k.1 ∙ (wf.beyond q l).1);
      head_role = (kept 0 zero-stays).0 ∙ wf.head_role;
      head_only = λ q e. wf.head_only q (used q header refl e).1;
      head_chain = (kept 0 zero-stays).1 ∙ wf.head_chain;
      root_live = (kept 1 root-stays).0 ∙ wf.root_live;
      root_top = (kept 1 root-stays).1 ∙ wf.root_top;
      root_only = λ d l e. let u = used d desc refl l in wf.root_only d u.1 (sym (kept d u.0).1 ∙ e);
      good = chain-good;
      seen = del_seen;
      root_role = λ k d l. let u = used d desc refl l in stay-role (A.rootp k d) d (root k d) refl (wf.root_role k d u.1) refl u.0;
      root_inv = λ k d q e. (inv q d (root k d) refl e refl, (wf.root_inv k d q (used q (root k d) refl e).1).1);
      lst_role = λ d l. let u = used d desc refl l in stay-role (A.lstp d) d (lst d) refl (wf.lst_role d u.1) refl u.0;
      lst_inv = λ d q e. (inv q d (lst d) refl e refl, (wf.lst_inv d q (used q (lst d) refl e).1).1);
      tabs = del_tabs;
      tab_inv = λ k d i q e. let x = wf.tab_inv k d i q (used q (tab k d i) refl e).1 in (inv q d (tab k d i) refl e refl, x.1, x.2, x.3);
      kernel = del_kernel;
      held = del_held;
      top_maps = λ v. maps-stays 1 v root-stays.clear root-stays.other ∙ wf.top_maps v;
      depth = λ d l. let u = used d desc refl l in rw (kept d u.0).1 (wf.depth d u.1);
      ten = λ d l. wf.ten d (used d desc refl l).1;
      cur_live = subst (λ (x : ℕ). del_role A D x ≡ desc) (sym pre.caller) ((kept o o-stays).0 ∙ pre.live);
    }
