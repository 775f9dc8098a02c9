-- What well-formedness gives: lookups along chains, no cycles, frames.
use mathlib.Core.Path.{◌≡◌, refl, sym, ap, ◌∙◌, subst}
use mathlib.Core.Logic.{◌≢◌}
use mathlib.Core.Bool.{true, false}
use mathlib.Core.Option.{Option, none, some}
use mathlib.Core.List.{List, [], ◌∷◌}
use Prim.Native.Nat.{ℕ, suc, ◌≤◌, ◌<◌}
use native.Mathlib.Omega.{arith}
use native.Mathlib.Decide.{dec_lt}
use lib.ListN.{length}
use Rattle.rules.proofs.model.Base.{eqd, pick_yes, pick_no}
use Rattle.rules.proofs.model.Abs.{Role, header, hand, blank, desc, root, lst, tab, Hop, Abs, parts, head_v, Seen, seek, GoodHop, Good, Owner, WF, is_hand, tag}

pub seek-here : (β : Option ℕ) (d : ℕ) (h : Hop) (hs : List Hop) → d ≡ h.part → seek β d (h ∷ hs) ≡ some (record { vp = h.vp; rt = h.rt; up = head_v hs; below = β })
unfolding seek
seek-here β d h hs e = pick_yes (eqd d h.part) _ _ e

pub seek-on : (β : Option ℕ) (d : ℕ) (h : Hop) (hs : List Hop) → d ≢ h.part → seek β d (h ∷ hs) ≡ seek (some h.part) d hs
unfolding seek
seek-on β d h hs e = pick_no (eqd d h.part) _ _ e

pub seek_nil : (β : Option ℕ) (d : ℕ) → seek β d [] ≡ none
unfolding seek
seek_nil β d = refl

pub none-some {ℓ} : {X : Type ℓ} {x : X} {P : Type 0} → none ≡ some x → P
none-some e = let z : ◌≡◌ {A = ℕ} 0 1 = cc in absurd (omega arith)

pub nil_cons {ℓ} : {X : Type ℓ} {x : X} {xs : List X} {P : Type 0} → [] ≡ x ∷ xs → P
nil_cons e = let z : ◌≡◌ {A = ℕ} 0 1 = cc in absurd (omega arith)

module _ (b : ℕ) where
  -- where a lookup ends: at a hop of the chain
  pub record Hit (A : Abs) (p d : ℕ) (hs : List Hop) (s : Seen) : Type 0 where
    pub hop : Hop
    pub rest : List Hop
    pub part : hop.part ≡ d
    pub vp : s.vp ≡ hop.vp
    pub rt : s.rt ≡ hop.rt
    pub up : s.up ≡ head_v rest
    pub hop_good : GoodHop b A p hop rest
    pub rest_good : Good b A p rest
    pub shorter : length rest < length hs

pub some_inj : {X : Type 0} {x y : X} → some x ≡ some y → x ≡ y
some_inj e = cc

module _ {b : ℕ} (wide : 6 ≤ b) where
  pub hit : (A : Abs) (p d : ℕ) (β : Option ℕ) (hs : List Hop) (s : Seen) → Good b A p hs → seek β d hs ≡ some s → Hit b A p d hs s
  hit A p d β [] s g e = none-some (sym (seek_nil β d) ∙ e)
  hit A p d β (h ∷ hs) s g e = go (eqd d h.part) (hit A p d (some h.part) hs s g.1)
    where
      go : Dec (d ≡ h.part) → (seek (some h.part) d hs ≡ some s → Hit b A p d hs s) → Hit b A p d (h ∷ hs) s
      go (yes q) ih =
          let f : record { vp = h.vp; rt = h.rt; up = head_v hs; below = β } ≡ s = some_inj (sym (seek-here β d h hs q) ∙ e) in
          record { hop = h; rest = hs; part = sym q; vp = sym (ap (λ (z : Seen). z.vp) f); rt = sym (ap (λ (z : Seen). z.rt) f); up = sym (ap (λ (z : Seen). z.up) f); hop_good = g.0; rest_good = g.1; shorter = omega arith }
      go (no q) ih =
          let r : Hit b A p d hs s = ih (sym (seek-on β d h hs q) ∙ e) in
          record { hop = r.hop; rest = r.rest; part = r.part; vp = r.vp; rt = r.rt; up = r.up; hop_good = r.hop_good; rest_good = r.rest_good; shorter = omega (arith, r.shorter) }

pub length-parts : (hs : List Hop) → length (parts hs) ≡ length hs
length-parts [] = refl
length-parts (h ∷ hs) = ap suc (length-parts hs)

module _ {b : ℕ} (wide : 6 ≤ b) where
  -- the chain of a partition that maps p is shorter than p's
  pub shorter : (A : Abs) (p d : ℕ) (β : Option ℕ) (hs : List Hop) (s : Seen) → Good b A p hs → seek β d hs ≡ some s → length (A.chain d) < length hs
  shorter A p d β hs s g e =
      let r : Hit b A p d hs s = hit wide A p d β hs s g e in
      let a : length (parts r.rest) ≡ length (parts (A.chain d)) = ap length (rw r.part at r.hop_good.above) in
      omega (arith, length-parts r.rest, length-parts (A.chain d), r.shorter)

-- a lookup that starts below another hop sees the same, but for the hop below
pub record Like (β : Option ℕ) (d : ℕ) (hs : List Hop) (s : Seen) : Type 0 where
  pub to : Seen
  pub finds : seek β d hs ≡ some to
  pub vp : to.vp ≡ s.vp
  pub rt : to.rt ≡ s.rt
  pub up : to.up ≡ s.up

pub like : (β β' : Option ℕ) (d : ℕ) (hs : List Hop) (s : Seen) → seek β d hs ≡ some s → Like β' d hs s
like β β' d [] s e = none-some (sym (seek_nil β d) ∙ e)
like β β' d (h ∷ hs) s e = go (eqd d h.part)
  where
    go : Dec (d ≡ h.part) → Like β' d (h ∷ hs) s
    go (yes q) =
        let f : record { vp = h.vp; rt = h.rt; up = head_v hs; below = β } ≡ s = some_inj (sym (seek-here β d h hs q) ∙ e) in
        record { to = record { vp = h.vp; rt = h.rt; up = head_v hs; below = β' }; finds = seek-here β' d h hs q; vp = ap (λ (z : Seen). z.vp) f; rt = ap (λ (z : Seen). z.rt) f; up = ap (λ (z : Seen). z.up) f }
    go (no q) = record { to = s; finds = seek-on β' d h hs q ∙ sym (seek-on β d h hs q) ∙ e; vp = refl; rt = refl; up = refl }

-- below a hop that is not the first something is always seen
pub below-some : (A : Abs) (d c : ℕ) (hs : List Hop) (s : Seen) → seek (some c) d hs ≡ some s → s.below ≢ none
below-some A d c [] s e n = none-some (sym (seek_nil (some c) d) ∙ e)
below-some A d c (h ∷ hs) s e n = go (eqd d h.part) (below-some A d h.part hs s)
  where
    go : Dec (d ≡ h.part) → (seek (some h.part) d hs ≡ some s → s.below ≢ none) → ⊥
    go (yes q) ih =
        let f : record { vp = h.vp; rt = h.rt; up = head_v hs; below = some c } ≡ s = some_inj (sym (seek-here (some c) d h hs q) ∙ e) in
        none-some (sym n ∙ sym (ap (λ (z : Seen). z.below) f))
    go (no q) ih = ih (sym (seek-on (some c) d h hs q) ∙ e) n

module _ {b : ℕ} (wide : 6 ≤ b) where
  -- what stands below the partition of a hop is one of its children
  pub below-is : (A : Abs) (p d c : ℕ) (β : Option ℕ) (hs : List Hop) (s : Seen) → Good b A p hs
      → ((x : ℕ) → β ≡ some x → (A.role x ≡ desc) × (parts hs ≡ parts (A.chain x)))
      → seek β d hs ≡ some s → s.below ≡ some c → (A.role c ≡ desc) × (parts (A.chain c) ≡ d ∷ parts (A.chain d))
  below-is A p d c β [] s g k e n = none-some (sym (seek_nil β d) ∙ e)
  below-is A p d c β (h ∷ hs) s g k e n =
      go (eqd d h.part) (below-is A p d c (some h.part) hs s g.1 (λ x y. subst (λ (z : ℕ). (A.role z ≡ desc) × (parts hs ≡ parts (A.chain z))) (some_inj y) (g.0.live, g.0.above)))
    where
      go : Dec (d ≡ h.part) → (seek (some h.part) d hs ≡ some s → s.below ≡ some c → (A.role c ≡ desc) × (parts (A.chain c) ≡ d ∷ parts (A.chain d)))
          → (A.role c ≡ desc) × (parts (A.chain c) ≡ d ∷ parts (A.chain d))
      go (yes q) ih =
          let f : record { vp = h.vp; rt = h.rt; up = head_v hs; below = β } ≡ s = some_inj (sym (seek-here β d h hs q) ∙ e) in
          let y : (A.role c ≡ desc) × (h.part ∷ parts hs ≡ parts (A.chain c)) = k c (ap (λ (z : Seen). z.below) f ∙ n) in
          (y.0, sym y.1 ∙ (rw (q, g.0.above) refl))
      go (no q) ih = ih (sym (seek-on β d h hs q) ∙ e) n

-- nothing below: the hop is the first of the chain
pub record Top (d : ℕ) (hs : List Hop) (s : Seen) : Type 0 where
  pub hop : Hop
  pub rest : List Hop
  pub is : hs ≡ hop ∷ rest
  pub part : hop.part ≡ d
  pub vp : s.vp ≡ hop.vp
  pub rt : s.rt ≡ hop.rt

pub top : (A : Abs) (d : ℕ) (hs : List Hop) (s : Seen) → seek none d hs ≡ some s → s.below ≡ none → Top d hs s
top A d [] s e n = none-some (sym (seek_nil none d) ∙ e)
top A d (h ∷ hs) s e n = go (eqd d h.part)
  where
    go : Dec (d ≡ h.part) → Top d (h ∷ hs) s
    go (yes q) =
        let f : record { vp = h.vp; rt = h.rt; up = head_v hs; below = none } ≡ s = some_inj (sym (seek-here none d h hs q) ∙ e) in
        record { hop = h; rest = hs; is = refl; part = sym q; vp = sym (ap (λ (z : Seen). z.vp) f); rt = sym (ap (λ (z : Seen). z.rt) f) }
    go (no q) = absurd (below-some A d h.part hs s (sym (seek-on none d h hs q) ∙ e) n)

module _ {b : ℕ} (wide : 6 ≤ b) where
  -- frames: each hop keeps what it says, so the chain does
  pub good_map : (A B : Abs) (p n : ℕ) (hs : List Hop) → length hs ≤ n
      → ((h : Hop) (rest : List Hop) → length rest < n → GoodHop b A p h rest → GoodHop b B p h rest)
      → Good b A p hs → Good b B p hs
  good_map A B p n [] l f g = tt
  good_map A B p n (h ∷ hs) l f g = (f h hs (omega arith) g.0, good_map A B p n hs (omega arith) f g.1)

-- roles told apart
pub differ : {X : Type 0} {r s : Role} → r ≡ s → tag r ≢ tag s → X
differ e n = absurd (n (ap tag e))

pub is-hand : (r : Role) → is_hand r ≡ true → r ≡ hand
is-hand header e = cc
is-hand hand e = refl
is-hand blank e = cc
is-hand desc e = cc
is-hand (root k d) e = cc
is-hand (lst d) e = cc
is-hand (tab k d i) e = cc

pub not-hand : {P : Type 0} {r : Role} → r ≡ hand → is_hand r ≡ false → P
not-hand a β = let z : ◌≡◌ {A = ℕ} 0 1 = cc in absurd (omega arith)

pub hand-desc : {P : Type 0} {r : Role} → r ≡ hand → r ≡ desc → P
hand-desc a β = let z : ◌≡◌ {A = ℕ} 0 1 = cc in absurd (omega arith)

pub hand-header : {P : Type 0} {r : Role} → r ≡ hand → r ≡ header → P
hand-header a β = let z : ◌≡◌ {A = ℕ} 0 1 = cc in absurd (omega arith)

pub owner-hand : (A : Abs) (q d : ℕ) → A.role q ≡ hand → Owner (A.role q) q d → ⊥
owner-hand A q d e o = subst (λ (r : Role). Owner r q d) e o

module _ {b : ℕ} (wide : 6 ≤ b) where
  module _ (N : ℕ) (fl : ℕ → Option ℕ) (A : Abs) (wf : WF b N fl A) where
    pub owner-live : (q d : ℕ) → Owner (A.role q) q d → A.role d ≡ desc
    owner-live q d o = go (A.role q) refl o
      where
        go : (r : Role) → A.role q ≡ r → Owner r q d → A.role d ≡ desc
        go header e o = absurd o
        go hand e o = absurd o
        go blank e o = absurd o
        go desc e o = rw (← o) e
        go (root k x) e o = rw (← o) (wf.root_inv k x q e).0
        go (lst x) e o = rw (← o) (wf.lst_inv x q e).0
        go (tab k x i) e o = rw (← o) (wf.tab_inv k x i q e).0

    -- the first hop of q's chain is in d: the partitions are d and those above it
    pub parts_of : (q d : ℕ) (h : Hop) (rest : List Hop) → A.chain q ≡ h ∷ rest → h.part ≡ d → parts (A.chain q) ≡ d ∷ parts (A.chain d)
    parts_of q d h rest e f =
        let g : Good b A q (h ∷ rest) = rw e at (wf.good q) in
        let a : parts rest ≡ parts (A.chain h.part) = g.0.above in
        rw (e, a, f) refl

    -- whatever has a hop is in range
    pub in_range : (q : ℕ) (h : Hop) (rest : List Hop) → A.chain q ≡ h ∷ rest → q < N
    in_range q h rest e = go (dec_lt q N)
      where
        go : Dec (q < N) → q < N
        go (yes l) = l
        go (no l) = nil_cons (sym (wf.beyond q (omega arith)).1 ∙ e)

    -- only the root has no chain; a child's page number is not 1
    pub not_root : (c : ℕ) (h : Hop) (rest : List Hop) → A.chain c ≡ h ∷ rest → 1 ≢ c
    not_root c h rest e o = nil_cons (sym wf.root_top ∙ (rw (← o) at e))
