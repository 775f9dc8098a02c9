-- add_vaddr on the abstract state: a hop is put on the page's chain.
use mathlib.Core.Path.{◌≡◌, sym, ap, ◌∙◌}
use mathlib.Core.Logic.{◌≢◌}
use mathlib.Core.Option.{Option, none, some}
use mathlib.Core.List.{List, [], ◌∷◌}
use Prim.Native.Nat.{ℕ, ◌≤◌, ◌<◌}
use native.Mathlib.Omega.{arith}
use lib.ListN.{length}
use Rattle.memory.specs.Entry.{least_both}
use Rattle.rules.proofs.model.Base.{eqd, both, upd, upd_same, upd_other, upd2, upd2-same, upd2-other}
use Rattle.rules.proofs.model.Words.{idx}
use Rattle.rules.proofs.model.Abs.{hand, desc, Hop, Three, Abs, parts, head_v, Seen, seek, three_at, Sub, GoodHop, Good, WF}
use Rattle.rules.proofs.model.Facts.{seek-here, seek-on, none-some, some_inj, length-parts, shorter, Like, like, good_map, hand-desc, hand-header, owner-live, nil_cons, owner-hand, parts_of, in_range, not_root}

module _ (b : ℕ) where
  pub record AddPre (A : Abs) (o p c t r : ℕ) : Type 0 where
    pub in-hand : A.role p ≡ hand
    pub hop : Hop
    pub rest : List Hop
    pub is : A.chain p ≡ hop ∷ rest
    pub mine : hop.part ≡ o
    pub child : A.role c ≡ desc
    pub chop : Hop
    pub crest : List Hop
    pub cis : A.chain c ≡ chop ∷ crest
    pub cmine : chop.part ≡ o
    pub some_t : t ≢ 0
    pub small : r < 8
    pub right : Sub r hop.rt × (r < least_both)
    pub three : (th : Three) × (three_at (idx b t) (A.threes c) ≡ some th)
    pub free : A.maps c t ≡ none

abbrev pub new_hop : ℕ → ℕ → ℕ → Hop
new_hop c t r = record { part = c; vp = t; rt = r }

abbrev pub add_a : Abs → ℕ → ℕ → ℕ → ℕ → Abs
add_a A p c t r = record {
  role = A.role;
  chain = upd A.chain p (new_hop c t r ∷ A.chain p);
  maps = upd2 A.maps c t (some p);
  rootp = A.rootp;
  lstp = A.lstp;
  threes = A.threes;
  vcli = A.vcli;
  cur = A.cur;
}

module _ {b : ℕ} (wide : 6 ≤ b) where
  module _ (N : ℕ) (fl : ℕ → Option ℕ) (A : Abs) (wf : WF b N fl A) (o p c t r : ℕ) (pre : AddPre b A o p c t r) where
    -- a page of another role keeps its chain
    pub add-keep : (q : ℕ) → A.role q ≢ hand → (add_a A p c t r).chain q ≡ A.chain q
    add-keep q h = upd_other A.chain p _ q (λ e. h (rw e pre.in-hand))

    pub add-keep-desc : (q : ℕ) → A.role q ≡ desc → (add_a A p c t r).chain q ≡ A.chain q
    add-keep-desc q h = add-keep q (λ e. hand-desc e h)

    -- the child's chain has the caller's partitions, and so has the page's
    pub add_parts : parts (A.chain p) ≡ parts (A.chain c)
    add_parts = parts_of wide N fl A wf p o pre.hop pre.rest pre.is pre.mine ∙ sym (parts_of wide N fl A wf c o pre.chop pre.crest pre.cis pre.cmine)

    -- the child does not map the page yet
    pub add-new : (s : Seen) (β : Option ℕ) → seek β c (A.chain p) ≡ some s → ⊥
    add-new s β e = omega (arith, shorter wide A p c β (A.chain p) s (wf.good p) e, ap length add_parts, length-parts (A.chain p), length-parts (A.chain c))

    add-hop : (q : ℕ) (h : Hop) (rest : List Hop) → GoodHop b A q h rest → GoodHop b (add_a A p c t r) q h rest
    add-hop q h rest g = record {
      live = g.live;
      some_v = g.some_v;
      small = g.small;
      mapped = upd2-other A.maps c t (some p) h.part h.vp (λ e. none-some (sym pre.free ∙ (rw (e.0, e.1) at g.mapped))) ∙ g.mapped;
      above = g.above ∙ ap parts (sym (add-keep-desc h.part g.live));
      three = g.three;
      rights = g.rights;
    }

    new : GoodHop b (add_a A p c t r) p (new_hop c t r) (A.chain p)
    new = record {
      live = pre.child;
      some_v = pre.some_t;
      small = pre.small;
      mapped = upd2-same A.maps c t (some p);
      above = add_parts ∙ ap parts (sym (add-keep-desc c pre.child));
      three = pre.three;
      rights = rw pre.is pre.right;
    }

    add-good : (q : ℕ) → Good b (add_a A p c t r) q ((add_a A p c t r).chain q)
    add-good q = go (eqd q p)
      where
        old : Good b (add_a A p c t r) q (A.chain q)
        old = good_map wide A (add_a A p c t r) q (length (A.chain q)) (A.chain q) (omega arith) (λ h rest l g. add-hop q h rest g) (wf.good q)

        go : Dec (q ≡ p) → Good b (add_a A p c t r) q ((add_a A p c t r).chain q)
        go (no n) = rw (upd_other A.chain p (new_hop c t r ∷ A.chain p) q n) old
        go (yes e) = rw (e, upd_same A.chain p (new_hop c t r ∷ A.chain p)) (new, rw e at old)

    add-seen : (d v q : ℕ) → (add_a A p c t r).maps d v ≡ some q → (s : Seen) × (seek none d ((add_a A p c t r).chain q) ≡ some s) × (s.vp ≡ v)
    add-seen d v q e = go (both (eqd d c) (eqd v t))
      where
        go : Dec ((d ≡ c) × (v ≡ t)) → (s : Seen) × (seek none d ((add_a A p c t r).chain q) ≡ some s) × (s.vp ≡ v)
        go (yes y) =
            let f : p ≡ q = some_inj (sym (upd2-same A.maps c t (some p)) ∙ (rw (y.0, y.1) at e)) in
            (record { vp = t; rt = r; up = head_v (A.chain p); below = none }, rw (← f, upd_same A.chain p (new_hop c t r ∷ A.chain p)) (seek-here none d (new_hop c t r) (A.chain p) y.0), sym y.1)
        go (no n) = on (eqd q p) was.0 was.1 was.2
          where
            was : (s : Seen) × (seek none d (A.chain q) ≡ some s) × (s.vp ≡ v)
            was = wf.seen d v q (sym (upd2-other A.maps c t (some p) d v n) ∙ e)

            on : Dec (q ≡ p) → (s : Seen) → seek none d (A.chain q) ≡ some s → s.vp ≡ v → (s : Seen) × (seek none d ((add_a A p c t r).chain q) ≡ some s) × (s.vp ≡ v)
            on (no o) s w z = (s, rw (upd_other A.chain p (new_hop c t r ∷ A.chain p) q o) w, z)
            on (yes o) s w z =
                let w' : seek none d (A.chain p) ≡ some s = rw o at w in
                let l : Like (some c) d (A.chain p) s = like none (some c) d (A.chain p) s w' in
                let k : d ≢ c = λ x. add-new s none (rw x at w') in
                (l.to, rw (o, upd_same A.chain p (new_hop c t r ∷ A.chain p)) (seek-on none d (new_hop c t r) (A.chain p) k ∙ l.finds), l.vp ∙ z)

    add-held : (q : ℕ) → A.role q ≡ hand → q < N → (add_a A p c t r).chain q ≢ []
    add-held q h l e = go (eqd q p)
      where
        go : Dec (q ≡ p) → ⊥
        go (yes o) = nil_cons (sym (rw o at e) ∙ upd_same A.chain p (new_hop c t r ∷ A.chain p))
        go (no o) = wf.held q h l (sym (upd_other A.chain p _ q o) ∙ e)

    pub add-wf : WF b N fl (add_a A p c t r)
    add-wf = record {
      beyond = λ q l. ((wf.beyond q l).0, upd_other A.chain p _ q (λ e. omega (arith, in_range wide N fl A wf p pre.hop pre.rest pre.is)) ∙ (wf.beyond q l).1);
      head_role = wf.head_role;
      head_only = wf.head_only;
      head_chain = add-keep 0 (λ e. hand-header e wf.head_role) ∙ wf.head_chain;
      root_live = wf.root_live;
      root_top = add-keep-desc 1 wf.root_live ∙ wf.root_top;
      root_only = λ d l e. wf.root_only d l (sym (add-keep-desc d l) ∙ e);
      good = add-good;
      seen = add-seen;
      root_role = wf.root_role;
      root_inv = wf.root_inv;
      lst_role = wf.lst_role;
      lst_inv = wf.lst_inv;
      tabs = wf.tabs;
      tab_inv = wf.tab_inv;
      kernel = λ q d o. rw (add-keep q (λ e. owner-hand A q d e o), add-keep-desc d (owner-live wide N fl A wf q d o)) (wf.kernel q d o);
      held = add-held;
      top_maps = λ v. upd2-other A.maps c t (some p) 1 v (λ e. not_root wide N fl A wf c pre.chop pre.crest pre.cis e.0) ∙ wf.top_maps v;
      depth = λ d l. rw (add-keep-desc d l) (wf.depth d l);
      ten = wf.ten;
      cur_live = wf.cur_live;
    }
