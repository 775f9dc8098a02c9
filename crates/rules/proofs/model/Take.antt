-- A page is taken from a partition's hand, or given back to it.
use mathlib.Core.Path.{◌≡◌, refl, sym, ap, ◌∙◌}
use mathlib.Core.Logic.{◌≢◌}
use mathlib.Core.Bool.{true, false, cond}
use mathlib.Core.Option.{Option, none, some}
use mathlib.Core.List.{List, ◌∷◌}
use Prim.Native.Nat.{ℕ, ◌≤◌, ◌<◌}
use Rattle.memory.proofs.Geometry.{page-address}
use Rattle.rules.specs.Moves.{wiped, take_page, return_page}
use Rattle.rules.proofs.model.Base.{upd_other}
use Rattle.rules.proofs.model.Words.{W, addr, idx, page_of, acc_of, page_of-pte, wipe}
use Rattle.rules.proofs.model.Abs.{pt, s1, Role, hand, blank, desc, Hop, Abs, head_v, seek, Good, WF, Encodes, cell, seen_word}
use Rattle.rules.proofs.model.Facts.{seek-here}
use Rattle.rules.proofs.model.Read.{root_page, entry_at, entry-is, cell-some, hand-view, maps-three, three-is}
use Rattle.rules.proofs.model.Roles.{set_role, is_free, role-wf}
use Rattle.rules.proofs.model.Walk.{walk, passed}
use Rattle.rules.proofs.steps.Fill.{First}

-- a page in o's hand at v
pub record Held (A : Abs) (o v p : ℕ) : Type 0 where
  pub in-hand : A.role p ≡ hand
  pub hop : Hop
  pub rest : List Hop
  pub is : A.chain p ≡ hop ∷ rest
  pub part : hop.part ≡ o
  pub vp : hop.vp ≡ v

pub held-step : (A : Abs) (o v q p : ℕ) (R : Role) → q ≢ p → Held A o v q → Held (set_role A p R) o v q
held-step A o v q p R n h = record { in-hand = upd_other A.role p R q n ∙ h.in-hand; hop = h.hop; rest = h.rest; is = h.is; part = h.part; vp = h.vp }

module _ (b : ℕ) (m : List ℕ) (o v : ℕ) where
  pub take-is : take_page b m o (addr b v) ≡ walk b false 9 (wipe b m (page_of b (entry_at b m pt o v))) o v
  unfolding take_page walk addr wipe page_of entry_at root_page
  take-is = rw (page-address b v) refl

  -- a kernel page
  pub give_is : return_page b true m o (addr b v) ≡ walk b true 9 (wipe b m (page_of b (entry_at b m pt o v))) o v
  unfolding return_page walk addr wipe page_of entry_at root_page
  give_is = rw (page-address b v) refl

  -- a page that was no kernel page
  pub keep-is : return_page b false m o (addr b v) ≡ cond (wiped false (entry_at b m pt o v)) (wipe b m (page_of b (entry_at b m pt o v))) m
  unfolding return_page addr wipe page_of entry_at root_page
  keep-is = rw (page-address b v) refl

module _ {b : ℕ} (wide : 6 ≤ b) where
  module _ (N : ℕ) (fl : ℕ → Option ℕ) (f : List ℕ) (A : Abs) (wf : WF b N fl A) where
    -- the first mapping of a page, in o's tables
    pub first-maps : (o p : ℕ) (x : First A o p) → A.maps o x.hop.vp ≡ some p
    first-maps o p x =
        let g : Good b A p (x.hop ∷ x.rest) = rw x.is at (wf.good p) in
        rw x.part at g.0.mapped

    pub first-page : (o p : ℕ) (x : First A o p) → page_of b (cell b A pt o x.hop.vp) ≡ p
    unfolding seen_word
    first-page o p x =
        let g : Good b A p (x.hop ∷ x.rest) = rw x.is at (wf.good p) in
        let w : seek none o (A.chain p) ≡ some (record { vp = x.hop.vp; rt = x.hop.rt; up = head_v x.rest; below = none }) = rw x.is (seek-here none o x.hop x.rest (sym x.part)) in
        rw (cell-some wide A pt o x.hop.vp p _ (first-maps o p x) w) (page_of-pte wide p _ x.hop.rt g.0.small)

    pub first_fits : (o p : ℕ) → A.role o ≡ desc → (x : First A o p) → idx b x.hop.vp < W b
    first_fits o p lo x =
        let t = maps-three wide N fl A wf o x.hop.vp p (first-maps o p x) in
        (three-is wide A.role o (idx b x.hop.vp) (A.threes o) t.0 (wf.tabs o lo) t.1).fits

    -- a blank page is o's again
    pub give_one : (m : List ℕ) (o p : ℕ) → Encodes b N f m A → A.role o ≡ desc → A.role p ≡ blank → (x : First A o p)
        → WF b N fl (set_role A p hand) × Encodes b N f (return_page b true m o (addr b x.hop.vp)) (set_role A p hand)
    give_one m o p en lo e x = (
      role-wf wide N fl A wf p hand (ap is_free e) refl x.hop x.rest x.is,
      rw (give_is b m o x.hop.vp, entry-is wide N fl A wf f m en pt o x.hop.vp lo (first_fits o p lo x), first-page o p x, ← x.part) (passed wide N fl f A wf p hand (ap is_free e) refl x.hop x.rest x.is m en),
    )

    pub held_first : (o v p : ℕ) → Held A o v p → First A o p
    held_first o v p h = record { hop = h.hop; rest = h.rest; is = h.is; part = h.part }

    -- one place, one page
    pub held_one : (o v u p : ℕ) → Held A o v p → Held A o u p → v ≡ u
    held_one o v u p h k =
        let e : h.hop ∷ h.rest ≡ k.hop ∷ k.rest = sym h.is ∙ k.is in
        let w : h.hop ≡ k.hop = cc in
        sym h.vp ∙ ap (λ (x : Hop). x.vp) w ∙ k.vp

    pub held-page : (o v p : ℕ) → Held A o v p → page_of b (cell b A pt o v) ≡ p
    unfolding held_first
    held-page o v p h = rw h.vp at (first-page o p (held_first o v p h))

    pub take-one : (m : List ℕ) (o v p : ℕ) → Encodes b N f m A → A.role o ≡ desc → idx b v < W b → Held A o v p
        → WF b N fl (set_role A p blank) × Encodes b N f (take_page b m o (addr b v)) (set_role A p blank)
    take-one m o v p en lo l h = (
      role-wf wide N fl A wf p blank (ap is_free h.in-hand) refl h.hop h.rest h.is,
      rw (take-is b m o v, entry-is wide N fl A wf f m en pt o v lo l, held-page o v p h, ← h.part, ← h.vp) (passed wide N fl f A wf p blank (ap is_free h.in-hand) refl h.hop h.rest h.is m en),
    )

    pub view-held : (o v : ℕ) → acc_of (cell b A pt o v) ≡ 1 → cell b A s1 o v ≡ 0 → (p : ℕ) × Held A o v p
    view-held o v a z = let x = hand-view wide N fl A wf o v a z in (x.0, record { in-hand = x.1; hop = x.2.hop; rest = x.2.rest; is = x.2.is; part = x.2.part; vp = x.2.vp })
