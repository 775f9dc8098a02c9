-- prepare that passes its checks: three takes, then the new three's words. The invariant stays.
use mathlib.Core.Path.{◌≡◌, refl, sym, ap, ◌∙◌, subst}
use mathlib.Core.Logic.{◌≢◌}
use mathlib.Core.Option.{Option, none, some}
use mathlib.Core.List.{List, [], ◌∷◌, ◌++◌}
use Prim.Native.Nat.{ℕ, ◌+◌, ◌*◌, ◌≤◌}
use native.Mathlib.Omega.{arith}
use lib.ListN.{length}
use Rattle.memory.specs.Geometry
use Rattle.memory.specs.Partition
use Rattle.rules.specs.Moves.{take_all}
use Rattle.rules.specs.Call.{prepare}
use Rattle.rules.specs.Conditions
use Rattle.rules.specs.Refusals.{refusal}
use Rattle.rules.specs.Effects.{prepare_three, effect}
use Rattle.rules.proofs.model.Base.{upd_other}
use Rattle.rules.proofs.model.Words.{addr, word, put, put_l, link, link_nz, idx, page_of}
use Rattle.rules.proofs.model.Abs.{Kind, pt, s1, s2, blank, desc, Three, Abs, head_v, three_at, WF, Encodes, cell, link_word}
use Rattle.rules.proofs.model.Facts.{differ}
use Rattle.rules.proofs.model.Read.{root_page, entry-is, root-page, table-word, unmapped}
use Rattle.rules.proofs.model.Names.{mapping-is}
use Rattle.rules.proofs.model.Take.{Held, held_one, held-page, view-held}
use Rattle.rules.proofs.steps.Prep.{PrepPre, new_three, prep_a, PrepView, is_P, is_old, view, threes-keep, threes-new, prep_wf}
use Rattle.rules.proofs.steps.PrepWords.{six, prep_m, prep_words}
use Rattle.rules.proofs.model.Inv.{Inv, named, live}
use Rattle.rules.proofs.steps.ChainChecks.{chained, PrepareChecks, prepare-checks}
use Rattle.rules.proofs.steps.ListPage.{list-page, free-is, threes-is}
use Rattle.rules.proofs.steps.ThreePages.{set_three, on-three, off-three, keep-three, take-three}
use Rattle.rules.proofs.steps.ChildPage.{ChildOf, child-of}

module _ (b : ℕ) where
  -- the words of a new three at directory index x: the roots r, the list l and its first free word n, the pages q at the addresses a
  entered : ℕ → List ℕ → (r₁ r₂ r₃ l n a₁ a₂ a₃ q₁ q₂ q₃ : ℕ) → List ℕ
  entered x m r₁ r₂ r₃ l n a₁ a₂ a₃ q₁ q₂ q₃ =
      let m₁ = put b (put b (put b m r₁ x (link b q₁)) r₂ x (link b q₂)) r₃ x (link b q₃) in
      put b (put_l b m₁ l n (a₁ ∷ addr b q₁ ∷ a₂ ∷ addr b q₂ ∷ a₃ ∷ addr b q₃ ∷ [])) l 0 (n + 6)

module _ {b : ℕ} (wide : 6 ≤ b) (m : List ℕ) (i : Inv b m) (c t p : ℕ) (ck : PrepareChecks b m c t p) where
  open named b i use {N, fl, f, A}

  abbrev wf : WF b N fl A
  wf = i.wf

  abbrev en : Encodes b N f m A
  en = i.words

  -- the caller and the child
  abbrev o : ℕ
  o = Partition.current b m

  abbrev pub d : ℕ
  d = Conditions.child b m c

  abbrev pub x : ℕ
  x = idx b (page_of b t)

  lo : A.role o ≡ desc
  lo = live wide m i

  pub chd : ChildOf A o (page_of b c) d
  chd = child-of wide m i c ck.c_at ck.child

  -- the three pages
  abbrev v : Kind → ℕ
  v k = page_of b (chained b m p k)

  read : (k : Kind) → (q : ℕ) × Held A o (v k) q
  read k =
      let h = ck.hand k in
      view-held wide N fl f A wf o (v k) (rw (entry-is wide N fl A wf f m en pt o (v k) lo h.fits) at h.acc) (sym (entry-is wide N fl A wf f m en s1 o (v k) lo h.fits) ∙ h.unlent)

  pub P : Kind → ℕ
  P k = (read k).0

  pub h_p : (k : Kind) → Held A o (v k) (P k)
  unfolding P
  h_p k = (read k).1

  P-one : (k k' : Kind) → P k ≡ P k' → k ≡ k'
  P-one k k' e =
      let w : v k ≡ v k' = held_one wide N fl f A wf o (v k) (v k') (P k') (rw e at (h_p k)) (h_p k') in
      ck.one k k' (sym (ck.at k).is ∙ ap (addr b) w ∙ (ck.at k').is)

  -- the state with the three taken
  abbrev A3 : Abs
  A3 = set_three A P blank

  taken : WF b N fl A3 × Encodes b N f (take_all b m o (addr b (v pt) ∷ addr b (v s1) ∷ addr b (v s2) ∷ [])) A3
  taken = take-three wide N fl f A wf m en o lo P P-one v (λ k. (ck.hand k).fits) h_p

  new : three_at x (A.threes d) ≡ none
  unfolding link_word
  new = go (three_at x (A.threes d)) refl
    where
      go : (y : Option Three) → three_at x (A.threes d) ≡ y → three_at x (A.threes d) ≡ none
      go none e = e
      go (some th) e = absurd (link_nz wide (th.page pt) (sym (table-word wide N fl A wf f m (cell b A) en pt d (page_of b t) chd.live ck.t_at.fits ∙ ap (link_word b pt) e) ∙ ck.new))

  pre : PrepPre b A3 o d x P
  pre = record {
    live = keep-three A P blank desc d chd.live (λ k e. differ (sym (h_p k).in-hand ∙ e) (omega arith));
    child = record { hop = chd.first.hop; rest = chd.first.rest; is = chd.first.is; part = chd.first.part };
    fits = ck.t_at.fits;
    room = omega (arith, ck.room, threes-is wide N fl f m A wf en d chd.live);
    new = new;
    P-blank = on-three A P blank;
    P-first = λ k. record { hop = (h_p k).hop; rest = (h_p k).rest; is = (h_p k).is; part = (h_p k).part };
    P-one = P-one;
  }

  -- the state afterwards
  abbrev pub prepared_a : Abs
  prepared_a = prep_a A3 d x P

  abbrev q : Kind → ℕ
  q k = Geometry.page_of b (Partition.mapping b m o (chained b m p k))

  effect_is : effect b m (prepare c t p)
      ≡ entered b x (take_all b m o (chained b m p pt ∷ chained b m p s1 ∷ chained b m p s2 ∷ [])) (root_page b m pt d) (root_page b m s1 d) (root_page b m s2 d)
      (Partition.list b m d) (word b m (Partition.list b m d) 0) (chained b m p pt) (chained b m p s1) (chained b m p s2) (q pt) (q s1) (q s2)
  unfolding effect prepare_three entered put put_l addr link idx page_of root_page word
  effect_is = refl

  abbrev pub H : Kind → ℕ
  H k = addr b (head_v (A.chain (P k)))

  prep_is : prep_m wide N fl f A3 taken.0 o d x P pre (take_all b m o (addr b (v pt) ∷ addr b (v s1) ∷ addr b (v s2) ∷ []))
      ≡ entered b x (take_all b m o (addr b (v pt) ∷ addr b (v s1) ∷ addr b (v s2) ∷ [])) (A.rootp pt d) (A.rootp s1 d) (A.rootp s2 d)
      (A.lstp d) (1 + 6 * length (A.threes d)) (H pt) (H s1) (H s2) (P pt) (P s1) (P s2)
  unfolding prep_m six entered
  prep_is = refl

  page-is : (k : Kind) → q k ≡ P k
  unfolding page_of
  page-is k = ap (page_of b) (mapping-is b m o (chained b m p k) ∙ entry-is wide N fl A wf f m en pt o (v k) lo (ck.hand k).fits) ∙ held-page wide N fl f A wf o (v k) (P k) (h_p k)

  pub at-is : (k : Kind) → H k ≡ chained b m p k
  at-is k = ap (λ (z : ℕ). addr b z) (ap head_v (h_p k).is ∙ (h_p k).vp) ∙ (ck.at k).is

  root_is : (k : Kind) → root_page b m k d ≡ A.rootp k d
  root_is k = root-page wide N fl A wf f m (cell b A) en k d chd.live

  list_at : Partition.list b m d ≡ A.lstp d
  list_at = list-page wide N fl f m A wf en d chd.live

  free-at : word b m (Partition.list b m d) 0 ≡ 1 + 6 * length (A.threes d)
  free-at = ap (λ (z : ℕ). word b m z 0) list_at ∙ free-is wide N fl f m A wf en d chd.live

  same : effect b m (prepare c t p) ≡ prep_m wide N fl f A3 taken.0 o d x P pre (take_all b m o (addr b (v pt) ∷ addr b (v s1) ∷ addr b (v s2) ∷ []))
  same =
      effect_is
      ∙ cc (page-is pt, page-is s1, page-is s2, at-is pt, at-is s1, at-is s2, (ck.at pt).is, (ck.at s1).is, (ck.at s2).is, root_is pt, root_is s1, root_is s2, list_at, free-at)
      ∙ sym prep_is

  pub prepared : WF b N fl prepared_a × Encodes b N f (effect b m (prepare c t p)) prepared_a
  prepared = (
    prep_wf wide N fl A3 taken.0 o d x P pre,
    subst (λ (z : List ℕ). Encodes b N f z prepared_a) (sym same) (prep_words wide N fl f A3 taken.0 o d x P pre _ taken.1),
  )

  pub three-there : three_at x (prepared_a.threes d) ≡ some (new_three x P)
  three-there = threes-new wide N fl A3 taken.0 o d x P pre

  pub threes-stay : (e j : ℕ) (z : Three) → three_at j (A.threes e) ≡ some z → three_at j (prepared_a.threes e) ≡ some z
  threes-stay = threes-keep wide N fl A3 taken.0 o d x P pre

  pub nothing-there : (z : ℕ) → idx b z ≡ x → prepared_a.maps d z ≡ none
  nothing-there z e = unmapped wide N fl A wf d z (ap (λ (y : ℕ). three_at y (A.threes d)) e ∙ new)

  -- what a page is afterwards: a table of the new three, or what it was
  pub prepared-view : (z : ℕ) → PrepView A d x P z (prepared_a.role z)
  prepared-view z = go (view wide N fl A3 taken.0 o d x P pre z)
    where
      go : PrepView A3 d x P z (prepared_a.role z) → PrepView A d x P z (prepared_a.role z)
      go (is_P k e r) = is_P k e r
      go (is_old n r) = is_old n (r ∙ off-three A P blank z n)

  pub desc-stays : (z : ℕ) → A.role z ≡ desc → prepared_a.role z ≡ desc
  desc-stays z e = go (prepared-view z)
    where
      go : PrepView A d x P z (prepared_a.role z) → prepared_a.role z ≡ desc
      go (is_P k y r) = differ (sym (h_p k).in-hand ∙ sym (ap A.role y) ∙ e) (omega arith)
      go (is_old n r) = r ∙ e

  pub prepared-full : (z : ℕ) → prepared_a.role z ≢ blank
  prepared-full z e = go (prepared-view z)
    where
      go : PrepView A d x P z (prepared_a.role z) → ⊥
      go (is_P k y r) = differ (sym r ∙ e) (omega arith)
      go (is_old n r) = i.full z (sym r ∙ e)

  unfoldable pub prepared-inv : Inv b (effect b m (prepare c t p))
  prepared-inv = record {
    N = N;
    least = i.least;
    most = i.most;
    state = prepared_a;
    wf = prepared.0;
    full = prepared-full;
    root = record { roots = i.root.roots; list = i.root.list; threes = upd_other A.threes d (A.threes d ++ new_three x P ∷ []) 1 chd.below ∙ i.root.threes };
    flags = i.flags;
    words = prepared.1;
  }

module _ {b : ℕ} (wide : 6 ≤ b) (m : List ℕ) (i : Inv b m) where
  pub keep-prepare : (c t p : ℕ) → refusal b m (prepare c t p) ≡ 0 → Inv b (effect b m (prepare c t p))
  keep-prepare c t p e = prepared-inv wide m i c t p (prepare-checks b m c t p e)
