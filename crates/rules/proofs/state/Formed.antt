-- The state of a sound memory is well formed, as far as it concerns roles, mappings and chains. Assumes an index width of 6 or more.
use mathlib.Core.Path.{◌≡◌, refl, sym, ap, ◌∙◌, subst}
use mathlib.Core.List.{List, [], ◌∷◌}
use mathlib.Core.Logic.{◌≢◌}
use mathlib.Core.Option.{Option, none, some}
use Prim.Native.Nat.{ℕ, zero, suc, ◌≤◌, ◌<◌}
use native.Mathlib.Omega.{arith}
use native.Mathlib.Decide.{dec_lt}
use native.Mathlib.Nat.{zero-mul}
use borrow.Author.Tests.{eqb-true}
use lib.ListN.{length}
use Rattle.memory.specs.Geometry.{page_words, page_bytes, address, page_of, directory_index, flat_pages}
use Rattle.memory.specs.Words.{word}
use Rattle.memory.specs.Entry.{rights, least_both}
use Rattle.memory.specs.Partition.{pages, directory, parent, table_word, mapping, above}
use Rattle.memory.specs.Tree.{Virtual, Has, Child, InTree, root, child}
use Rattle.memory.specs.Uses.{Way, five, listed, in_hand, KernelWay, is_five, is_listed, UsedBy}
use Rattle.memory.specs.Sound.{Sound}
use Rattle.memory.proofs.Entry.{not-both-below}
use Rattle.memory.proofs.Geometry.{page-address, directory_index-lt}
use Rattle.soundness.proofs.Whole.{mapped-has, above-has}
use Rattle.rules.proofs.model.Base.{eqd, pick, pick_yes, pick_no}
use Rattle.rules.proofs.model.Words.{W, addr, idx}
use Rattle.rules.proofs.model.Abs.{Role, header, hand, blank, desc, tab, lst, Hop, parts, head_v, Seen, seek, Sub, GoodHop, Good, Up, Owner}
use Rattle.rules.proofs.model.Abs as Abs
use Rattle.rules.proofs.model.Facts.{none-some, some_inj, nil_cons, differ, seek-here, not-hand}
use Rattle.rules.proofs.steps.Checks.{and_sub}
use Rattle.rules.proofs.sound.Words.{virtual-addr}
use Rattle.rules.proofs.state.Tree.{not_root}
use Rattle.rules.proofs.state.State.{hop, hops, kernel_hops, way_role, way_address, way_hops, mapped, role, chain, maps_as, three, state}
use Rattle.rules.proofs.state.Used.{used, live, live-tree, role_means, View, v_head, v_past, v_used, view, role-head, chain_head, past}
use Rattle.rules.proofs.state.Hops.{hops-parts, hops-first, hops-address, hops-top, kernel-top, hops-child, kernel-child, length-hops}
use Rattle.rules.proofs.state.Threes.{three-at}
use Rattle.rules.proofs.state.Found.{serving-shut, At, found, serving-at}

pub page-zero : (b : ℕ) → page_of b 0 ≡ 0
page-zero b = ap (page_of b) (sym (zero-mul (page_bytes b))) ∙ page-address b 0

pub virtual_of : {b : ℕ} → 6 ≤ b → (u : ℕ) → directory_index b u < page_words b → Virtual b (address b u)
unfolding addr idx W
virtual_of wide u h = virtual-addr wide u h

-- what is known where the state has a mapping: the address is in range, and the word is not 0
pick_some : {P : Type 0} {p : ℕ} (x : Dec P) (o : Option ℕ) → pick x o none ≡ some p → P × (o ≡ some p)
unfolding pick
pick_some (yes z) o f = (z, f)
pick_some (no z) o f = none-some f

mapped-page : (b w p : ℕ) → mapped b w ≡ some p → (w ≢ 0) × (page_of b w ≡ p)
unfolding mapped pick
mapped-page b w p e = go (eqd w 0) e
  where
    go : (x : Dec (w ≡ 0)) → pick x none (some (page_of b w)) ≡ some p → (w ≢ 0) × (page_of b w ≡ p)
    go (yes z) f = none-some f
    go (no z) f = (z, some_inj f)

module _ {b : ℕ} (wide : 6 ≤ b) (m : List ℕ) (s : Sound b m) where
  abbrev A : Abs.Abs
  A = state b m s

  -- ---- the mappings of the state are those of the words

  pub maps-at : {k d : ℕ} → InTree b m k d → (v p : ℕ) → At b m d v p → A.maps d (page_of b v) ≡ some p
  unfolding maps_as mapped
  maps-at {k} {d} t v p x =
      ap (λ (r : Role). maps_as b m r d (page_of b v)) (live wide m s t)
      ∙ pick_yes (dec_lt (directory_index b (page_of b v)) (page_words b)) _ none (directory_index-lt b v x.has.virtual.1)
      ∙ ap (λ (y : ℕ). mapped b (mapping b m d y)) x.has.virtual.0
      ∙ pick_no (eqd (mapping b m d v) 0) none _ x.present
      ∙ ap some x.page

  pub maps-back : (d v p : ℕ) → A.maps d v ≡ some p → (k : ℕ) × InTree b m k d × At b m d (address b v) p
  unfolding maps_as
  maps-back d v p e = go (role b m s d) refl e
    where
      go : (r : Role) → role b m s d ≡ r → maps_as b m r d v ≡ some p → (k : ℕ) × InTree b m k d × At b m d (address b v) p
      go header q f = none-some f
      go hand q f = none-some f
      go blank q f = none-some f
      go desc q f =
          let (k, t) = live-tree wide m s d q in
          let (h, g) = pick_some (dec_lt (directory_index b v) (page_words b)) (mapped b (mapping b m d (address b v))) f in
          let (n, y) = mapped-page b (mapping b m d (address b v)) p g in
          (k, t, record { has = mapped-has b m d (address b v) (virtual_of wide v h) n; present = n; page = y })
      go (Abs.root k x) q f = none-some f
      go (lst x) q f = none-some f
      go (tab k x i) q f = none-some f

  -- ---- a lookup along the chain of a mapped page finds the mapping

  -- the hop after d's is at the address of d's shadow 2 word
  hops_up : {k d : ℕ} → InTree b m k d → (v : ℕ) → Has b m d v
      → (rest : List Hop) × (hops b m d v ≡ hop b m d v ∷ rest) × (head_v rest ≡ page_of b (above b m d v))
  hops_up root v h = ([], hops-top b m v, sym (ap (page_of b) (s.root_as_formatted.shadow2_words v h) ∙ page-zero b))
  hops_up (child {d = d} {c = c} t a) v h = (hops b m d (above b m c v), hops-child wide m s t a v, hops-address b m d (above b m c v))

  -- what the lookup finds
  abbrev pub seen_at : {k d : ℕ} (t : InTree b m k d) (v p : ℕ) → At b m d v p → Seen
  seen_at {k} {d} t v p x =
      record { vp = page_of b v; rt = rights (mapping b m d v); up = page_of b (above b m d v); below = (found wide m s t v p x).below }

  pub seen-at : {k d : ℕ} (t : InTree b m k d) (v p : ℕ) (x : At b m d v p) → seek none d (chain b m s p) ≡ some (seen_at t v p x)
  seen-at {k} {d} t v p x =
      let β = (found wide m s t v p x).below in
      let (rest, e, f) = hops_up t v x.has in
      (found wide m s t v p x).reach d k t (omega arith)
      ∙ ap (seek β d) e
      ∙ seek-here β d (hop b m d v) rest refl
      ∙ ap (λ (u : ℕ). some (record { vp = page_of b v; rt = rights (mapping b m d v); up = u; below = β })) f

  pub seen : (d v p : ℕ) → A.maps d v ≡ some p → (x : Seen) × (seek none d (chain b m s p) ≡ some x) × (x.vp ≡ v)
  seen d v p e =
      let (k, t, x) = maps-back d v p e in
      (seen_at t (address b v) p x, seen-at t (address b v) p x, page-address b v)

  -- ---- the chains of partitions are as long as they are deep

  pub chain-top : chain b m s 1 ≡ []
  unfolding way_hops
  chain-top = (used wide m s root (five 0) 1 (omega arith, refl)).1 ∙ kernel-top b m (word b m 1 0)

  pub chain-child : {k d w c : ℕ} → InTree b m k d → Child b m d w c → chain b m s c ≡ hops b m d (word b m c 0)
  unfolding way_hops
  chain-child {c = c} t a = (used wide m s (child t a) (five 0) c (omega arith, refl)).1 ∙ kernel-child wide m s t a (word b m c 0)

  pub chain_length : {k d : ℕ} → InTree b m k d → length (chain b m s d) ≡ k
  chain_length root = ap length chain-top
  chain_length (child {c = c} t a) = ap length (chain-child t a) ∙ length-hops wide m s t (word b m c 0)

  pub root_only : (d : ℕ) → role b m s d ≡ desc → chain b m s d ≡ [] → d ≡ 1
  root_only d l e = let (k, t) = live-tree wide m s d l in go t e
    where
      go : {k d : ℕ} → InTree b m k d → chain b m s d ≡ [] → d ≡ 1
      go root e = refl
      go (child {d = d} {c = c} t a) e = nil_cons (sym e ∙ chain-child t a ∙ (hops-first b m d (word b m c 0)).1)

  -- ---- chains are good: each hop is a mapping with its three, and no right is added on the way down

  root-rights : (v p : ℕ) → At b m 1 v p → rights (mapping b m 1 v) ≡ 7
  root-rights v p x = go (dec_lt 0 (page_of b v)) (dec_lt (flat_pages b (pages b m)) (page_of b v))
    where
      go : Dec (0 < page_of b v) → Dec (flat_pages b (pages b m) < page_of b v) → rights (mapping b m 1 v) ≡ 7
      go (yes l) (yes h) = absurd (x.present (s.root_as_formatted.only v x.has (λ f. omega (arith, f.1))))
      go (yes l) (no h) = (s.root_as_formatted.maps v x.has (omega arith, omega arith)).1
      go (no l) h = absurd (x.present (s.root_as_formatted.only v x.has (λ f. omega (arith, f.0))))

  good-hop : {k d : ℕ} → InTree b m k d → (v p : ℕ) → At b m d v p → (rest : List Hop) → parts rest ≡ parts (chain b m s d) → Up (hop b m d v) rest
      → GoodHop b A p (hop b m d v) rest
  unfolding idx
  good-hop {k} {d} t v p x rest e u =
      let i : ℕ = directory_index b (page_of b v) in
      let (j, l, h, f) = three-at wide m s t i (directory_index-lt b v x.has.virtual.1) x.has.table in
      record {
        live = live wide m s t;
        some_v = λ z. x.present (ap (table_word b m (directory b m d)) (z ∙ sym (page-zero b)) ∙ (s.forms k d t).none);
        small = omega arith;
        mapped = maps-at t v p x;
        above = e;
        three = (three b m d j, f);
        rights = u;
      }

  good-hops : {k d : ℕ} → InTree b m k d → (v p : ℕ) → At b m d v p → Good b A p (hops b m d v)
  good-hops root v p x =
      let g = good-hop root v p x [] (ap parts (sym chain-top)) (root-rights v p x) in
      subst (Good b A p) (sym (hops-top b m v)) (g, tt)
  good-hops (child {k = k} {d = d} {v = w} {c = c} t a) v p x =
      let u : ℕ = above b m c v in
      let q = (s.lending k d t).down w c a v x.has x.present in
      let y : At b m d u p = record { has = above-has b m s t a v x.has x.present; present = q.mapped; page = sym q.page ∙ x.page } in
      let sub : Sub (rights (mapping b m c v)) (rights (mapping b m d u)) = and_sub _ _ (eqb-true _ _ q.no_more) in
      let nb = s.never_both (suc k) c (child t a) (not_root wide m s t a) v x.has in
      let few : rights (mapping b m c v) < least_both = not-both-below (mapping b m c v) nb in
      let up : Up (hop b m c v) (hops b m d u) = subst (Up (hop b m c v)) (sym (hops-first b m d u).1) (sub, few) in
      let same : parts (hops b m d u) ≡ parts (chain b m s c) = hops-parts b m d u (word b m c 0) ∙ ap parts (sym (chain-child t a)) in
      subst (Good b A p) (sym (hops-child wide m s t a v)) (good-hop (child t a) v p x (hops b m d u) same up, good-hops t u p y)

  kernel-good : {k d : ℕ} → InTree b m k d → (w : Way) → KernelWay w → (p : ℕ) → UsedBy b m d w p → Good b A p (kernel_hops b m d (way_address b m d w))
  kernel-good root w z p u = subst (Good b A p) (sym (kernel-top b m (way_address b m 1 w))) tt
  kernel-good (child {c = c} t a) w z p u =
      let v : ℕ = way_address b m c w in
      subst (Good b A p) (sym (kernel-child wide m s t a v)) (good-hops t v p (serving-at wide m s t a w z p u))

  used-good : {k d : ℕ} → InTree b m k d → (w : Way) (p : ℕ) → UsedBy b m d w p → Good b A p (way_hops b m d w)
  unfolding way_hops
  used-good t (five j) p u = kernel-good t (five j) is_five p u
  used-good t (listed j) p u = kernel-good t (listed j) is_listed p u
  used-good t (in_hand v) p u = good-hops t v p (record { has = u.0; present = u.1; page = u.4 })

  pub good : (p : ℕ) → Good b A p (chain b m s p)
  good p = go (view wide m s p)
    where
      go : View wide m s p → Good b A p (chain b m s p)
      go (v_head z) = subst (Good b A p) (sym (ap (chain b m s) z ∙ chain_head wide m s)) tt
      go (v_past l) = subst (Good b A p) (sym (past wide m s p l).1) tt
      go (v_used k d w t u f g) = subst (Good b A p) (sym g) (used-good t w p u)

  -- ---- roles

  pub head_only : (p : ℕ) → role b m s p ≡ header → p ≡ 0
  head_only p e = role_means wide m s p header e

  pub full : (p : ℕ) → role b m s p ≢ blank
  full p e = role_means wide m s p blank e

  -- the kernel pages of a partition go through the same partitions as its descriptor
  kernel-parts : (d u v : ℕ) → parts (kernel_hops b m d u) ≡ parts (kernel_hops b m d v)
  unfolding kernel_hops pick
  kernel-parts d u v = go (eqd d 1)
    where
      go : (x : Dec (d ≡ 1)) → parts (pick x [] (hops b m (parent b m d) u)) ≡ parts (pick x [] (hops b m (parent b m d) v))
      go (yes e) = refl
      go (no e) = hops-parts b m (parent b m d) u v

  kernel-chain : {k d : ℕ} → InTree b m k d → (w : Way) → KernelWay w → (q : ℕ) → UsedBy b m d w q → chain b m s q ≡ kernel_hops b m d (way_address b m d w)
  unfolding way_hops
  kernel-chain t w (is_five {j = j}) q u = (used wide m s t (five j) q u).1
  kernel-chain t w (is_listed {j = j}) q u = (used wide m s t (listed j) q u).1

  owner-part : (d e q : ℕ) (w : Way) → UsedBy b m e w q → Owner (way_role b m e w) q d → (e ≡ d) × KernelWay w
  unfolding way_role
  owner-part d e q (five zero) u o = (u.1 ∙ o, is_five)
  owner-part d e q (five (suc zero)) u o = (o, is_five)
  owner-part d e q (five (suc (suc zero))) u o = (o, is_five)
  owner-part d e q (five (suc (suc (suc zero)))) u o = (o, is_five)
  owner-part d e q (five (suc (suc (suc (suc j))))) u o = (o, is_five)
  owner-part d e q (listed j) u o = (o, is_listed)
  owner-part d e q (in_hand v) u o = absurd o

  pub kernel : (q d : ℕ) → Owner (role b m s q) q d → parts (chain b m s q) ≡ parts (chain b m s d)
  kernel q d o = go (view wide m s q)
    where
      owns : (r : Role) → role b m s q ≡ r → Owner r q d
      owns r e = subst (λ (x : Role). Owner x q d) e o

      go : View wide m s q → parts (chain b m s q) ≡ parts (chain b m s d)
      go (v_head z) = absurd (owns header (ap (role b m s) z ∙ role-head wide m s))
      go (v_past l) = absurd (owns hand (past wide m s q l).0)
      go (v_used k e w t u f g) =
          let (same, z) = owner-part d e q w u (owns (way_role b m e w) f) in
          let own = kernel-chain t (five 0) is_five e (omega arith, refl) in
          ap parts (kernel-chain t w z q u)
          ∙ kernel-parts e (way_address b m e w) (way_address b m e (five 0))
          ∙ ap parts (sym own)
          ∙ ap (λ (x : ℕ). parts (chain b m s x)) same

  hand-hops : (d : ℕ) (w : Way) → way_role b m d w ≡ hand → way_hops b m d w ≢ []
  unfolding way_hops
  hand-hops d (five j) e n = not-hand e (serving-shut b m d (five j) is_five)
  hand-hops d (listed j) e n = not-hand e (serving-shut b m d (listed j) is_listed)
  hand-hops d (in_hand v) e n = nil_cons (sym n ∙ (hops-first b m d v).1)

  pub held : (p : ℕ) → role b m s p ≡ hand → p < pages b m → chain b m s p ≢ []
  held p e h c = go (view wide m s p)
    where
      go : View wide m s p → ⊥
      go (v_head z) = differ (sym e ∙ ap (role b m s) z ∙ role-head wide m s) (omega arith)
      go (v_past l) = omega arith
      go (v_used k d w t u f g) = hand-hops d w (sym f ∙ e) (sym g ∙ c)
