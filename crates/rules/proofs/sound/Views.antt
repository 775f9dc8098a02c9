-- A child and a mapping, seen on the words, are those of the abstract state; a page that a partition owns is not in hand.
use mathlib.Core.Path.{◌≡◌, refl, sym, ap, ◌∙◌, subst}
use mathlib.Core.Logic.{◌≢◌}
use mathlib.Core.Bool.{false}
use mathlib.Core.Option.{Option}
use mathlib.Core.List.{List, ◌∷◌}
use Prim.Native.Nat.{ℕ, ◌≤◌, ◌<◌}
use Rattle.rules.proofs.model.Words.{W, idx, pte, page_of, page_of-pte}
use Rattle.rules.proofs.model.Abs.{Kind, pt, s1, Role, header, hand, blank, desc, root, lst, tab, Abs, parts, Owner, WF, Encodes, is_hand, cell}
use Rattle.rules.proofs.model.Facts.{parts_of}
use Rattle.rules.proofs.model.Read.{entry_at, entry-is, child-view, Maps, maps-at, maps-hit, cell-pt}

pub owner-kernel : (r : Role) (q d : ℕ) → Owner r q d → is_hand r ≡ false
owner-kernel header q d o = refl
owner-kernel hand q d o = absurd o
owner-kernel blank q d o = refl
owner-kernel desc q d o = refl
owner-kernel (root k x) q d o = refl
owner-kernel (lst x) q d o = refl
owner-kernel (tab k x i) q d o = refl

module _ {b : ℕ} (wide : 6 ≤ b) where
  module _ (N : ℕ) (fl : ℕ → Option ℕ) (f m : List ℕ) (A : Abs) (wf : WF b N fl A) (en : Encodes b N f m A) where
    read : (k : Kind) (d v : ℕ) → A.role d ≡ desc → idx b v < W b → entry_at b m k d v ≡ cell b A k d v
    read = entry-is wide N fl A wf f m en

    pub child-is : (d v : ℕ) → A.role d ≡ desc → idx b v < W b → entry_at b m s1 d v ≡ 1 → (A.role (page_of b (entry_at b m pt d v)) ≡ desc) × (parts (A.chain (page_of b (entry_at b m pt d v))) ≡ d ∷ parts (A.chain d))
    child-is d v l β e =
        let x = child-view wide N fl A wf d v (sym (read s1 d v l β) ∙ e) in
        let y : page_of b (entry_at b m pt d v) ≡ x.0 = ap (page_of b) (read pt d v l β) ∙ x.2.page in
        subst (λ (z : ℕ). (A.role z ≡ desc) × (parts (A.chain z) ≡ d ∷ parts (A.chain d))) (sym y) (x.1, parts_of wide N fl A wf x.0 d x.2.hop x.2.rest x.2.is x.2.part)

    -- a mapping on the words is one of the state
    pub record Sees (d v : ℕ) : Type 0 where
      pub x : Maps A d v
      pub small : x.sees.rt < 8
      pub word : entry_at b m pt d v ≡ pte b x.page (is_hand (A.role x.page)) x.sees.rt
      pub page : page_of b (entry_at b m pt d v) ≡ x.page

    pub sees : (d v : ℕ) → A.role d ≡ desc → idx b v < W b → entry_at b m pt d v ≢ 0 → Sees d v
    sees d v l β n =
        let x : Maps A d v = maps-at wide N fl A wf pt d v (λ e. n (read pt d v l β ∙ e)) in
        let h = maps-hit wide N fl A wf d v x in
        let s : x.sees.rt < 8 = rw h.rt h.hop_good.small in
        let w : entry_at b m pt d v ≡ pte b x.page (is_hand (A.role x.page)) x.sees.rt = read pt d v l β ∙ cell-pt wide A d v x.page x.sees x.maps x.finds in
        record { x = x; small = s; word = w; page = ap (page_of b) w ∙ page_of-pte wide x.page _ x.sees.rt s }
