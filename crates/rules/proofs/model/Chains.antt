-- Neighbours in a chain: what is seen in the partition above a hop, and in the one below it.
use mathlib.Core.Path.{◌≡◌, refl, sym, ap, ◌∙◌, subst}
use mathlib.Core.Logic.{◌≢◌}
use mathlib.Core.Option.{Option, none, some}
use mathlib.Core.List.{List, [], ◌∷◌}
use Prim.Native.Nat.{ℕ, ◌≤◌}
use native.Mathlib.Omega.{arith}
use lib.ListN.{length}
use Rattle.rules.proofs.model.Base.{eqd}
use Rattle.rules.proofs.model.Abs.{Hop, Abs, head_v, Seen, seek, GoodHop, Good}
use Rattle.rules.proofs.model.Facts.{seek-here, seek-on, seek_nil, none-some, some_inj, shorter}
use Rattle.rules.proofs.model.Walk.{hop-depth}

module _ (b : ℕ) where
  -- a lookup of partition c that ends at a hop, and the lookup of the partition above it
  pub record Above (A : Abs) (p : ℕ) (β : Option ℕ) (c : ℕ) (hs : List Hop) (s : Seen) : Type 0 where
    pub hop : Hop
    pub rest : List Hop
    pub part : hop.part ≡ c
    pub vp : s.vp ≡ hop.vp
    pub rt : s.rt ≡ hop.rt
    pub up : s.up ≡ head_v rest
    pub hop_good : GoodHop b A p hop rest
    pub rest_good : Good b A p rest
    pub next : (u : Hop) (us : List Hop) → rest ≡ u ∷ us → seek β u.part hs ≡ some (record { vp = u.vp; rt = u.rt; up = head_v us; below = some c })

pub record Below (β : Option ℕ) (c : ℕ) (hs : List Hop) (s : Seen) : Type 0 where
  pub sees : Seen
  pub finds : seek β c hs ≡ some sees
  pub up : sees.up ≡ s.vp

module _ {b : ℕ} (wide : 6 ≤ b) (A : Abs) (p : ℕ) where
  pub above : (β : Option ℕ) (c : ℕ) (hs : List Hop) (s : Seen) → Good b A p hs → seek β c hs ≡ some s → Above b A p β c hs s
  above β c [] s g e = none-some (sym (seek_nil β c) ∙ e)
  above β c (h ∷ hs) s g e = go (eqd c h.part) (above (some h.part) c hs s g.1)
    where
      go : Dec (c ≡ h.part) → (seek (some h.part) c hs ≡ some s → Above b A p (some h.part) c hs s) → Above b A p β c (h ∷ hs) s
      go (yes q) ih =
          let w : record { vp = h.vp; rt = h.rt; up = head_v hs; below = β } ≡ s = some_inj (sym (seek-here β c h hs q) ∙ e) in
          record { hop = h; rest = hs; part = sym q; vp = sym (ap (λ (z : Seen). z.vp) w); rt = sym (ap (λ (z : Seen). z.rt) w); up = sym (ap (λ (z : Seen). z.up) w); hop_good = g.0; rest_good = g.1; next = on }
        where
          on : (u : Hop) (us : List Hop) → hs ≡ u ∷ us → seek β u.part (h ∷ hs) ≡ some (record { vp = u.vp; rt = u.rt; up = head_v us; below = some c })
          on u us r =
              let k : Good b A p (u ∷ us) = subst (Good b A p) r g.1 in
              let ne : u.part ≢ h.part = λ x. omega (arith, hop-depth wide A p h hs g.0, hop-depth wide A p u us k.0, ap length r, ap (λ (z : ℕ). length (A.chain z)) x) in
              seek-on β u.part h hs ne ∙ ap (seek (some h.part) u.part) r ∙ seek-here (some h.part) u.part u us refl
              ∙ ap (λ (z : ℕ). some (record { vp = u.vp; rt = u.rt; up = head_v us; below = some z })) (sym q)
      go (no q) ih =
          let r : Above b A p (some h.part) c hs s = ih (sym (seek-on β c h hs q) ∙ e) in
          record {
            hop = r.hop;
            rest = r.rest;
            part = r.part;
            vp = r.vp;
            rt = r.rt;
            up = r.up;
            hop_good = r.hop_good;
            rest_good = r.rest_good;
            next = λ u us x.
                let ne : u.part ≢ h.part = λ y. omega (arith, hop-depth wide A p h hs g.0, shorter wide A p u.part (some h.part) hs _ g.1 (r.next u us x), ap (λ (z : ℕ). length (A.chain z)) y) in
                seek-on β u.part h hs ne ∙ r.next u us x;
          }

  -- d's mapping is lent to c: c is found too, and its hop names d's
  below-from : (β : Option ℕ) (d c : ℕ) (h : Hop) (hs : List Hop) (s : Seen) → Good b A p (h ∷ hs) → seek (some h.part) d hs ≡ some s → s.below ≡ some c → Below β c (h ∷ hs) s
  below-from β d c h [] s g e n = none-some (sym (seek_nil (some h.part) d) ∙ e)
  below-from β d c h (u ∷ us) s g e n = go (eqd d u.part) (λ x. below-from (some h.part) d c u us s g.1 x n)
    where
      go : Dec (d ≡ u.part) → (seek (some u.part) d us ≡ some s → Below (some h.part) c (u ∷ us) s) → Below β c (h ∷ (u ∷ us)) s
      go (yes q) ih =
          let w : record { vp = u.vp; rt = u.rt; up = head_v us; below = some h.part } ≡ s = some_inj (sym (seek-here (some h.part) d u us q) ∙ e) in
          let x : c ≡ h.part = sym (some_inj (ap (λ (z : Seen). z.below) w ∙ n)) in
          record { sees = record { vp = h.vp; rt = h.rt; up = u.vp; below = β }; finds = seek-here β c h (u ∷ us) x; up = ap (λ (z : Seen). z.vp) w }
      go (no q) ih =
          let r : Below (some h.part) c (u ∷ us) s = ih (sym (seek-on (some h.part) d u us q) ∙ e) in
          let ne : c ≢ h.part = λ x. omega (arith, hop-depth wide A p h (u ∷ us) g.0, shorter wide A p c (some h.part) (u ∷ us) r.sees g.1 r.finds, ap (λ (z : ℕ). length (A.chain z)) x) in
          record { sees = r.sees; finds = seek-on β c h (u ∷ us) ne ∙ r.finds; up = r.up }

  pub below : (d c : ℕ) (hs : List Hop) (s : Seen) → Good b A p hs → seek none d hs ≡ some s → s.below ≡ some c → Below none c hs s
  below d c [] s g e n = none-some (sym (seek_nil none d) ∙ e)
  below d c (h ∷ hs) s g e n = go (eqd d h.part)
    where
      go : Dec (d ≡ h.part) → Below none c (h ∷ hs) s
      go (yes q) = none-some (ap (λ (z : Seen). z.below) (some_inj (sym (seek-here none d h hs q) ∙ e)) ∙ n)
      go (no q) = below-from none d c h hs s g (sym (seek-on none d h hs q) ∙ e) n

  -- the first hop of a chain
  pub seek-first : (hs rest : List Hop) (h : Hop) → hs ≡ h ∷ rest → seek none h.part hs ≡ some (record { vp = h.vp; rt = h.rt; up = head_v rest; below = none })
  seek-first hs rest h e = ap (seek none h.part) e ∙ seek-here none h.part h rest refl
