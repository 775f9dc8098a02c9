-- add_vaddr and remove_vaddr keep the invariant.
use mathlib.Core.Path.{◌≡◌, refl, sym, ap, ◌∙◌, subst, subst₂}
use mathlib.Core.Bool.{true}
use mathlib.Core.Option.{some}
use mathlib.Core.List.{List, [], ◌∷◌}
use Prim.Native.Nat.{ℕ, ◌≤◌}
use borrow.Author.Tests.{leb-false}
use Rattle.memory.specs.Entry.{least_both}
use Rattle.memory.specs.Partition.{current}
use Rattle.rules.specs.Call.{add_vaddr, remove_vaddr}
use Rattle.rules.specs.Conditions.{bad_page, child}
use Rattle.rules.specs.Refusals.{refusals, refusal}
use Rattle.rules.specs.Effects.{add, remove, effect}
use Rattle.rules.proofs.model.Words.{put, idx, off, pte, page_of, page_of-addr}
use Rattle.rules.proofs.model.Abs.{Kind, pt, s1, s2, desc, Hop, Three, three_at, GoodHop, Good, Cells, EncodesC, cell}
use Rattle.rules.proofs.model.Apart.{cons_head}
use Rattle.rules.proofs.model.Facts.{parts_of}
use Rattle.rules.proofs.model.Read.{root_page, table_page, entry_at, put_at, put-there, entry-three}
use Rattle.rules.proofs.model.Cells.{set-cell}
use Rattle.rules.proofs.steps.Add.{new_hop}
use Rattle.rules.proofs.steps.AddWords.{add_m, AddChecks, AddView, add-view}
use Rattle.rules.proofs.steps.Remove.{rem_m, RemChecks, RemView, rem_view}
use Rattle.rules.proofs.model.Names.{PageAddress, good-page}
use Rattle.rules.proofs.model.Inv.{Inv, named, live}
use Rattle.rules.proofs.steps.Keep.{inv-add, inv-remove}
use Rattle.rules.proofs.Rows.{passed}
use Rattle.rules.proofs.steps.Checks.{none_of, a-child, in-hand, has-three, not-mapped, has-rights}

module _ {b : ℕ} (wide : 6 ≤ b) (m : List ℕ) (i : Inv b m) where
  open named b i use {N, fl, f, A}

  -- ---- table words set one after the other: the tables stand where they stood

  -- partition d has tables for virtual page v
  pub record At (d v : ℕ) : Type 0 where
    pub live : A.role d ≡ desc
    pub three : Three
    pub there : three_at (idx b v) (A.threes d) ≡ some three

  at-hop : (p d v : ℕ) (h : Hop) (hs : List Hop) → GoodHop b A p h hs → h.part ≡ d → h.vp ≡ v → At d v
  at-hop p d v h hs g e u = record {
    live = rw e at g.live;
    three = g.three.0;
    there = subst₂ (λ (x y : ℕ). three_at (idx b y) (A.threes x) ≡ some g.three.0) e u g.three.1;
  }

  put_is : (m' : List ℕ) (C : Cells) → EncodesC b N f m' A C → (k : Kind) (d v x : ℕ) → At d v → put_at b m' k d v x ≡ put b m' (table_page b m k d v) (off b v) x
  put_is m' C en k d v x a =
      let y = entry-three wide N fl A i.wf f m (cell b A) i.words k d v a.three a.live a.there in
      let z = entry-three wide N fl A i.wf f m' C en k d v a.three a.live a.there in
      put-there b m' k d v x z.3 ∙ ap (λ (q : ℕ). put b m' q (off b v) x) (z.0 ∙ sym y.0)

  puts_are : (k₁ : Kind) (d₁ v₁ x₁ : ℕ) (k₂ : Kind) (d₂ v₂ x₂ : ℕ) (k₃ : Kind) (d₃ v₃ x₃ : ℕ) → At d₁ v₁ → At d₂ v₂ → At d₃ v₃
      → put_at b (put_at b (put_at b m k₁ d₁ v₁ x₁) k₂ d₂ v₂ x₂) k₃ d₃ v₃ x₃
      ≡ put b (put b (put b m (table_page b m k₁ d₁ v₁) (off b v₁) x₁) (table_page b m k₂ d₂ v₂) (off b v₂) x₂) (table_page b m k₃ d₃ v₃) (off b v₃) x₃
  puts_are k₁ d₁ v₁ x₁ k₂ d₂ v₂ x₂ k₃ d₃ v₃ x₃ a₁ a₂ a₃ =
      let m₁ = put_at b m k₁ d₁ v₁ x₁ in
      let m₂ = put_at b m₁ k₂ d₂ v₂ x₂ in
      let en₁ = set-cell wide N fl f A i.wf m (cell b A) i.words k₁ d₁ v₁ a₁.three a₁.live a₁.there x₁ in
      let en₂ = set-cell wide N fl f A i.wf m₁ _ en₁ k₂ d₂ v₂ a₂.three a₂.live a₂.there x₂ in
      put_is m₂ _ en₂ k₃ d₃ v₃ x₃ a₃
      ∙ ap (λ (z : List ℕ). put b z (table_page b m k₃ d₃ v₃) (off b v₃) x₃)
      (put_is m₁ _ en₁ k₂ d₂ v₂ x₂ a₂ ∙ ap (λ (z : List ℕ). put b z (table_page b m k₂ d₂ v₂) (off b v₂) x₂) (put_is m (cell b A) i.words k₁ d₁ v₁ x₁ a₁))

  -- ---- the calls, with virtual pages as numbers

  -- the child that stands at c
  abbrev kid : ℕ → ℕ
  kid c = page_of b (entry_at b m pt (current b m) (page_of b c))

  add_is : (p c t r : ℕ) → effect b m (add_vaddr p c t r)
      ≡ put_at b (put_at b (put_at b m pt (kid c) (page_of b t) (pte b (kid p) true r)) s2 (kid c) (page_of b t) p) s1 (current b m) (page_of b p) c
  unfolding effect add put_at root_page pte page_of entry_at
  add_is p c t r = refl

  add-checks : (p c t r : ℕ) → refusal b m (add_vaddr p c t r) ≡ 0 → PageAddress b p × PageAddress b c × AddChecks b m (current b m) (page_of b p) (page_of b c) (page_of b t) r
  unfolding refusals page_of entry_at root_page
  add-checks p c t r e =
      let x = passed (refusals b m (add_vaddr p c t r)) e in
      let g = none_of (bad_page b) (p ∷ c ∷ t ∷ []) x.1.0 in
      let gp = good-page b p g.0 in
      let gc = good-page b c g.1.0 in
      let gt = good-page b t g.1.1.0 in
      let h = in-hand b m (current b m) p x.1.1.1.1.0 in (
        gp,
        gc,
        record {
          vp_fits = gp.fits;
          vc_fits = gc.fits;
          t_fits = gt.fits;
          t_some = gt.some;
          rights = leb-false least_both r x.1.1.0;
          child = a-child b m c x.1.1.1.0;
          acc = h.0;
          unlent = h.1;
          held = has-rights b m r p x.1.1.1.1.1.0;
          three = has-three b m (child b m c) t x.1.1.1.1.1.1.0;
          free = not-mapped b m (child b m c) t x.1.1.1.1.1.1.1.0;
        },
      )

  pub keep-add : (p c t r : ℕ) → refusal b m (add_vaddr p c t r) ≡ 0 → Inv b (effect b m (add_vaddr p c t r))
  unfolding add_m
  keep-add p c t r e =
      let y = add-checks p c t r e in
      let w : AddView wide N fl f m A i.wf i.words (current b m) (live wide m i) (page_of b p) (page_of b c) (page_of b t) r = add-view wide N fl f m A i.wf i.words (current b m) (live wide m i) (page_of b p) (page_of b c) (page_of b t) r y.2 in
      let g : Good b A w.p (w.pre.hop ∷ w.pre.rest) = rw w.pre.is at (i.wf.good w.p) in
      let at-t : At (kid c) (page_of b t) = record { live = ap A.role w.c_is ∙ w.pre.child; three = w.pre.three.0; there = rw w.c_is w.pre.three.1 } in
      let at_p : At (current b m) (page_of b p) = at-hop w.p (current b m) (page_of b p) w.pre.hop w.pre.rest g.0 w.pre.mine w.vp_is in
      let z = puts_are pt (kid c) (page_of b t) (pte b (kid p) true r) s2 (kid c) (page_of b t) p s1 (current b m) (page_of b p) c at-t at-t at_p in
      let q : add_m b m (current b m) (page_of b p) (page_of b c) (page_of b t) r ≡ effect b m (add_vaddr p c t r) = rw (y.0.is, y.1.is) (sym (add_is p c t r ∙ z)) in
      subst (Inv b) q (inv-add wide m i (page_of b p) (page_of b c) (page_of b t) r y.2)

  rem_is : (c t : ℕ) → effect b m (remove_vaddr c t)
      ≡ put_at b (put_at b (put_at b m pt (kid c) (page_of b t) 0) s2 (kid c) (page_of b t) 0) s1 (current b m) (page_of b (entry_at b m s2 (kid c) (page_of b t))) 0
  unfolding effect remove put_at root_page page_of entry_at
  rem_is c t = refl

  rem_checks : (c t : ℕ) → refusal b m (remove_vaddr c t) ≡ 0 → RemChecks b m (current b m) (page_of b c) (page_of b t)
  unfolding refusals page_of entry_at root_page
  rem_checks c t e =
      let x = passed (refusals b m (remove_vaddr c t)) e in
      let g = none_of (bad_page b) (c ∷ t ∷ []) x.1.0 in
      let h = in-hand b m (child b m c) t x.1.1.1.1.1.0 in
      record { vc_fits = (good-page b c g.0).fits; t_fits = (good-page b t g.1.0).fits; child = a-child b m c x.1.1.0; acc = h.0; unlent = h.1 }

  pub keep-remove : (c t : ℕ) → refusal b m (remove_vaddr c t) ≡ 0 → Inv b (effect b m (remove_vaddr c t))
  unfolding rem_m
  keep-remove c t e =
      let y = rem_checks c t e in
      let w : RemView wide N fl f m A i.wf i.words (current b m) (live wide m i) (page_of b c) (page_of b t) = rem_view wide N fl f m A i.wf i.words (current b m) (live wide m i) (page_of b c) (page_of b t) y in
      let v = page_of b (entry_at b m s2 (kid c) (page_of b t)) in
      let g : Good b A w.p (new_hop w.c (page_of b t) w.r ∷ (w.hop ∷ w.rest)) = rw w.pre.is at (i.wf.good w.p) in
      let mine : w.hop.part ≡ current b m = cons_head (g.0.above ∙ parts_of wide N fl A i.wf w.c (current b m) w.pre.chop w.pre.crest w.pre.cis w.pre.cmine) in
      let u : v ≡ w.hop.vp = ap (λ (x : ℕ). page_of b (entry_at b m s2 x (page_of b t))) w.c_is ∙ ap (page_of b) w.u_is ∙ page_of-addr wide w.hop.vp in
      let at-t : At (kid c) (page_of b t) = at-hop w.p (kid c) (page_of b t) _ _ g.0 (sym w.c_is) refl in
      let at-v : At (current b m) v = at-hop w.p (current b m) v w.hop w.rest g.1.0 mine (sym u) in
      subst (Inv b) (sym (rem_is c t ∙ puts_are pt (kid c) (page_of b t) 0 s2 (kid c) (page_of b t) 0 s1 (current b m) v 0 at-t at-t at-v)) (inv-remove wide m i (page_of b c) (page_of b t) y)
